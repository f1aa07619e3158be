use Rattle.call_attempts.proofs.Stopping.{steps_somehow, steps_one_way}
use Rattle.call_attempts.proofs.laws.steps_are_fixed.Goals as goal

pub returns-clause-some : goal.returns-clause-some
returns-clause-some c = steps_somehow

pub returns-clause-one : goal.returns-clause-one
returns-clause-one c = steps_one_way
