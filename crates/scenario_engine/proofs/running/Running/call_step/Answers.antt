use Rattle.scenario_engine.proofs.Entered.{grown_but_entered}
use Rattle.scenario_engine.proofs.Going.{runs_grown}
use Rattle.scenario_engine.proofs.running.Running.call_step.Goals as goal

pub invariant_of-self : goal.invariant_of-self
invariant_of-self g c =
    runs_grown c.self.inside.container c.call_step.new.container c.self.inside.callers c.call_step.new.self c.self.inside.seats _ (grown_but_entered c.self.inside.container c.call_step.new.container c.call_step.ensures.but_entered) c.stay.ensures c.call_step.ensures.fits c.self.invariant
