use Rattle.scenario_engine.proofs.running.Running.report_step.Goals as goal

pub invariant_of-self : goal.invariant_of-self
invariant_of-self g c = record {
  fits = c.self.invariant.fits;
  goes = c.report_line.ensures.goes c.self.inside.container c.self.invariant.goes;
  of_site = c.self.invariant.of_site;
}
