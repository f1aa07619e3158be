use Rattle.outside.proofs.Drawing.{all_differ}
use Rattle.outside.proofs.serials.serials_differ.Goals as goal

pub returns-clause-differ : goal.returns-clause-differ
returns-clause-differ g c = λ old new draws h. all_differ g.S.Serials.undrawn g.S.Serials.looks g.met.S.Serials.goes_on g.met.S.Serials.once draws old new h
