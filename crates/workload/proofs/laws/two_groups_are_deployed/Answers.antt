use Rattle.std.proofs.Common.{refl}
use Rattle.workload.specs.Parts.{work_references}
use Rattle.workload.proofs.laws.two_groups_are_deployed.Goals as goal

pub returns : goal.returns
unfolding work_references
returns c = (refl, refl, refl)
