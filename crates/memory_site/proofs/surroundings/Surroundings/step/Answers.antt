use Rattle.std.proofs.Common.{◌∙◌, refl, subst, sym}
use Rattle.container_core.specs.Container.{HasGrownBy}
use Rattle.memory_site.specs.Steps.{StepsAt, value_of}
use Rattle.memory_site.specs.declared.steps.StepEnd.TheVariants as ends
use Rattle.shepherd.specs.declared.shepherd.ShepherdTurn.{ShepherdTurn}
use Rattle.memory_site.proofs.surroundings.Surroundings.step.Goals as goal

pub returns-in-Request-clause-grown : goal.returns-in-Request-clause-grown
returns-in-Request-clause-grown c = subst (HasGrownBy c.args.self.now.container) (sym c.take.ensures.same) (c.histories_grow.ensures.unchanged c.args.self.now.container)

pub returns-in-Outside-clause-grown : goal.returns-in-Outside-clause-grown
returns-in-Outside-clause-grown c = subst (HasGrownBy c.args.self.now.container) (sym c.call_link.ensures.same) (c.histories_grow.ensures.unchanged c.args.self.now.container)

pub returns-in-Windows-clause-grown : goal.returns-in-Windows-clause-grown
returns-in-Windows-clause-grown c = subst (HasGrownBy c.args.self.now.container) (sym c.call_windows.ensures.same) (c.histories_grow.ensures.unchanged c.args.self.now.container)

pub returns-in-Bytes-clause-told : goal.returns-in-Bytes-clause-told
returns-in-Bytes-clause-told c = subst (λ (t : ShepherdTurn). StepsAt t (value_of c.args.self.now) c.args.shepherd.now ends.Waits (value_of c.args.self.now) c.args.shepherd.now)
    (sym c.in-Bytes.is ∙ c.turn.ensures) (refl, refl, refl)

pub returns-in-Ended-clause-told : goal.returns-in-Ended-clause-told
returns-in-Ended-clause-told c = subst (λ (t : ShepherdTurn). StepsAt t (value_of c.args.self.now) c.args.shepherd.now (ends.Ended c.in-Ended.end) (value_of c.args.self.now) c.args.shepherd.now)
    (sym c.in-Ended.is ∙ c.turn.ensures) (refl, refl, refl)
