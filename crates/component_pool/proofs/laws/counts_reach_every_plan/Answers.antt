use Rattle.component_pool.proofs.Finding.{counted_enough}
use Rattle.component_pool.proofs.laws.counts_reach_every_plan.Goals as goal

pub returns : goal.returns
returns c = counted_enough
