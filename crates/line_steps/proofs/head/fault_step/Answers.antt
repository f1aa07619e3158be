use Rattle.std.proofs.Common.{◌≤◌, length, arith}
use Rattle.crash_base.specs.declared.scope.TheConstants.{MAX_GROUPS}
use Rattle.deployment.proofs.Soundness.{sound_from_none}
use Rattle.line_steps.proofs.head.fault_step.Goals as goal

pub overflow_cast-plan : goal.overflow_cast-plan
overflow_cast-plan c =
    let few : length c.args.parts.now.components ≤ MAX_GROUPS = (sound_from_none c.args.parts.now c.requires).few in
    omega (arith, few, c.in-Some.ensures.within)
