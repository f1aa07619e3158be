use Rattle.ssm_world.proofs.Refusing.{refused}
use Rattle.ssm_world.proofs.laws.events_that_may_not_happen_change_nothing.Goals as goal

pub returns : goal.returns
returns c = refused
