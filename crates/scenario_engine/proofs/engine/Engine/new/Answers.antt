use Rattle.std.proofs.Common.{◌≡◌, sym, subst, refl, None}
use Rattle.deployment.specs.Refusals.{deploy_refusal}
use Rattle.deployment.proofs.Growing.{none_of_nothing}
use Rattle.line_steps.specs.declared.head.Head.{Head}
use Rattle.line_steps.specs.Head.{no_head, IsOfSite}
use Rattle.scenario_engine.proofs.engine.Engine.new.Goals as goal

pub invariant_of-result : goal.invariant_of-result
invariant_of-result g c =
    let P : Head → Type 0 = λ h. (deploy_refusal h.parts ≡ None) × IsOfSite h in
    subst P (sym c.new.ensures) (none_of_nothing no_head.parts refl refl refl, λ site. absurd (cc))
