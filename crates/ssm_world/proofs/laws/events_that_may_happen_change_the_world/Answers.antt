use Rattle.ssm_world.proofs.Changing.{changes}
use Rattle.ssm_world.proofs.laws.events_that_may_happen_change_the_world.Goals as goal

pub returns : goal.returns
returns c = changes
