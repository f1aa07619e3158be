use Rattle.std.proofs.Common.{◌≡◌, ◌≢◌, ap, ◌∙◌, Some}
use Rattle.boot_core.specs.declared.refusals.CommitRefusal.{CommitRefusal}
use Rattle.boot_core.specs.declared.refusals.CommitRefusal.TheVariants as commits
use Rattle.workload.specs.Turns.{commit_outcome}
use Rattle.workload.proofs.Committing.{committed, refused}
use Rattle.workload.proofs.turns.commit_step.Goals as goal

pub returns-in-Ok-clause-left : goal.returns-in-Ok-clause-left
returns-in-Ok-clause-left g c =
    committed c.args.container.now c.commit.new.self c.args.ticket c.in-Ok.field-0 c.ended.result.ticket c.ended.result.outcome c.in-Ok.ensures.answer c.in-Ok.ensures.leaves c.ended.ensures.ticket c.ended.ensures.outcome

pub returns-in_ok-outcome-in-Err-clause-left : goal.returns-in_ok-outcome-in-Err-clause-left
returns-in_ok-outcome-in-Err-clause-left g c =
    let cause : CommitRefusal = c.in-Err.refused.cause in
    let counts : (c.in_ok-outcome-in-Err.outcome ≡ commit_outcome cause) × (cause ≢ commits.OutOfMemory) = c.in_ok-outcome-in-Err.ensures in
    refused c.args.container.now c.commit.new.self c.args.ticket cause c.ended-in-Err.result.ticket c.ended-in-Err.result.outcome counts.1 c.in-Err.ensures.answer c.in-Err.ensures.leaves.0 c.in-Err.ensures.leaves.1 c.in-Err.ensures.failed c.ended-in-Err.ensures.ticket (c.ended-in-Err.ensures.outcome ∙ ap (λ o. Some o) counts.0)
