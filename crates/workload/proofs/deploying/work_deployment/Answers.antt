use Rattle.std.proofs.Common.{◌≡◌, Some, None, refl, ap, ◌∙◌}
use Rattle.deployment.specs.Refusals.{deploy_refusal}
use Rattle.workload.specs.Parts.{work_components, work_references, work_tables, work_parts}
use Rattle.workload.proofs.deploying.work_deployment.Goals as goal

-- the parts of the workload are not refused
accepted : deploy_refusal work_parts ≡ None
unfolding deploy_refusal work_components work_references work_tables
accepted = refl

pub unreachable-requires : goal.unreachable-requires
unreachable-requires c =
    let parts = c.in_ok-work_parts.field-0 in
    let is : parts ≡ work_parts = c.in_ok-work_parts.ensures in
    let refused : deploy_refusal parts ≡ Some c.in-Err.field-0 = c.in-Err.ensures.answer in
    let none : deploy_refusal parts ≡ None = ap deploy_refusal is ∙ accepted in
    cc
