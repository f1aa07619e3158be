use Rattle.std.proofs.Common.{◌≡◌, ◌<◌, ◌++◌, ◌∷◌, [], ap, ◌∙◌, length, arith, List, is_some, false}
use Rattle.deployment.specs.declared.parts.MethodPart.{MethodPart}
use Rattle.crash_base.specs.declared.scope.TheConstants.{MAX_GROUPS}
use Rattle.deployment.specs.Parts.{named}
use Rattle.line_steps.proofs.Heading.{component_accepted}
use Rattle.line_steps.proofs.head.component_step.Goals as goal

pub returns-clause-accepted : goal.returns-clause-accepted
returns-clause-accepted c =
    let components = c.args.parts.now.components in
    let room : length components < MAX_GROUPS = omega arith in
    let new : is_some (named components c.args.name) ≡ false = cc (c.named.ensures.value, c.as_slice-2.ensures) in
    let made = c.in_ok-push.ensures.ok ∙ ap (λ (ms : List MethodPart). components ++ record { name = c.args.name; methods = ms } ∷ []) c.in_ok-methods.ensures in
    component_accepted c.args.parts.now c.args.name c.push.new.self c.requires room new made
