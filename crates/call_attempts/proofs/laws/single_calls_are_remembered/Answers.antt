use Rattle.call_attempts.proofs.Remembering.{remembers}
use Rattle.call_attempts.proofs.laws.single_calls_are_remembered.Goals as goal

pub returns : goal.returns
returns c = remembers
