use Rattle.std.proofs.Common.{ap, map, Some}
use Rattle.ssm_stub.specs.Runs.{told_of}
use Rattle.session_way.proofs.Settled.{none_hushed}
use Rattle.session_way.proofs.laws.settled_passes_are_heard.Goals as goal

pub returns-clause-settling : goal.returns-clause-settling
returns-clause-settling g c = λ order least passes here old new h wants.
    none_hushed order least passes (map told_of h.events) here h.ran.ends wants

pub returns-clause-left : goal.returns-clause-left
returns-clause-left g c = λ order least passes here old new h wants.
    ap Some (none_hushed order least passes (map told_of h.events) here h.ran.ends wants)
