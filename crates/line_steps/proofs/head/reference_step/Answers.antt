use Rattle.std.proofs.Common.{◌≤◌, length, arith}
use Rattle.crash_base.specs.declared.scope.TheConstants.{MAX_GROUPS}
use Rattle.deployment.proofs.Soundness.{sound_from_none}
use Rattle.line_steps.specs.Head.{reference}
use Rattle.line_steps.proofs.Heading.{reference_accepted}
use Rattle.line_steps.proofs.head.reference_step.Goals as goal

pub overflow_cast-from : goal.overflow_cast-from
overflow_cast-from c =
    let few : length c.args.parts.now.components ≤ MAX_GROUPS = (sound_from_none c.args.parts.now c.requires).few in
    omega (arith, few, c.in-Some.ensures.within)

pub overflow_cast-to : goal.overflow_cast-to
overflow_cast-to c =
    let few : length c.args.parts.now.components ≤ MAX_GROUPS = (sound_from_none c.args.parts.now c.requires).few in
    omega (arith, few, c.in-Some-named.ensures.within)

pub returns-clause-accepted : goal.returns-clause-accepted
returns-clause-accepted c =
    reference_accepted c.args.parts.now (reference c.in-Some.x c.in-Some-named.y c.args.hard) c.push.new.self c.requires c.in-Some.ensures.within c.in-Some-named.ensures.within c.in_ok-push.ensures.ok
