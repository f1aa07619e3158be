use Rattle.std.proofs.Common.{length}
use Rattle.std.proofs.lemmas.Bool.{eqb-true}
use Rattle.commit_journal.proofs.Halving.{before_all}
use Rattle.commit_journal.proofs.made.are_before.Goals as goal

pub returns : goal.returns
returns c = λ yes. before_all c.args.request c.earlier.result c.args.made.now c.earlier.ensures.split (eqb-true c.earlier.result (length c.args.made.now) yes)
