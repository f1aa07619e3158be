use Rattle.std.proofs.Common.{refl}
use Rattle.call_attempts.proofs.Entering.{tells_entered}
use Rattle.call_attempts.proofs.laws.attempts_tell_what_they_entered_last.Goals as goal

pub returns-clause-begun : goal.returns-clause-begun
returns-clause-begun c = λ ticket. refl

pub returns-clause-stepped : goal.returns-clause-stepped
returns-clause-stepped c = tells_entered
