use Rattle.std.proofs.Common.{refl}
use Rattle.outside.specs.Sink.{appended}
use Rattle.outside.proofs.Prefixes.{prefix_more}
use Rattle.outside.proofs.laws.prefixes_join.Goals as goal

pub returns : goal.returns
returns c = λ before new h. prefix_more before (appended before c.args.first.now) new c.args.first.now c.args.second.now refl h
