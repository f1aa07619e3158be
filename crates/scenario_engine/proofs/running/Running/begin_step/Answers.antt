use Rattle.std.proofs.Common.{List, sym, subst}
use Rattle.container_core.specs.Container.{ContainerValue}
use Rattle.line_steps.specs.Callers.{AllFit}
use Rattle.line_steps.specs.declared.callers.Caller.{Caller}
use Rattle.line_steps.proofs.Fitting.{fit_put}
use Rattle.scenario_engine.proofs.Going.{runs_with, runs_grown}
use Rattle.scenario_engine.proofs.running.Running.begin_step.Goals as goal

pub invariant_of-self : goal.invariant_of-self
invariant_of-self g c =
    runs_with c.self.inside.container c.self.inside.callers c.pad.new.self c.self.inside.seats _ (c.pad.ensures.fits c.self.inside.container.boot c.self.invariant.fits) c.self.invariant

pub invariant_of-self-2 : goal.invariant_of-self-2
invariant_of-self-2 g c =
    let P : List Caller → Type 0 = λ cs. AllFit c.begin.new.self.boot cs in
    let Q : ContainerValue → Type 0 = λ k. AllFit k.boot c.pad.new.self in
    let fits = subst Q (sym c.begin.ensures.same) (c.pad.ensures.fits c.self.inside.container.boot c.self.invariant.fits) in
    let put : P c.put.new.self = subst P (sym c.put.ensures) (fit_put c.begin.new.self.boot c.pad.new.self c.args.caller c.in_ok-ticket.ticket c.in_ok-ticket.ensures.fits fits) in
    runs_grown c.self.inside.container c.begin.new.self c.self.inside.callers c.put.new.self c.self.inside.seats _ c.begin.ensures.grown c.stay.ensures put c.self.invariant

pub invariant_of-self-in_err-ticket : goal.invariant_of-self-in_err-ticket
invariant_of-self-in_err-ticket g c =
    let Q : ContainerValue → Type 0 = λ k. AllFit k.boot c.pad.new.self in
    let fits = subst Q (sym c.begin.ensures.same) (c.pad.ensures.fits c.self.inside.container.boot c.self.invariant.fits) in
    runs_grown c.self.inside.container c.begin.new.self c.self.inside.callers c.pad.new.self c.self.inside.seats _ c.begin.ensures.grown c.stay.ensures fits c.self.invariant
