use Rattle.std.proofs.Common.{refl, subst, sym}
use Rattle.memory_site.specs.Going.{GoesOnAtSite}
use Rattle.memory_site.specs.Steps.{StepsAt, value_of}
use Rattle.memory_site.specs.declared.steps.StepEnd.TheVariants as ends
use Rattle.shepherd.specs.declared.shepherd.ShepherdTurn.{ShepherdTurn}
use Rattle.memory_site.proofs.surroundings.Surroundings.put_out.Goals as goal

pub returns-clause-goes : goal.returns-clause-goes
returns-clause-goes c = subst (GoesOnAtSite c.args.self.now.container) (sym c.output.ensures.rest) (record {
  goes_on = c.connections_go_on.ensures.out c.args.self.now.container c.output.result c.args.shepherd.now c.output.new.self.stage
      c.requires.turn c.output.ensures.stage c.requires.goes.goes_on;
})

pub returns-clause-told : goal.returns-clause-told
returns-clause-told c = subst (λ (t : ShepherdTurn). StepsAt t (value_of c.args.self.now) c.args.shepherd.now (ends.Response c.output.result) (value_of c.args.self.now) c.output.new.self)
    (sym c.requires.turn) (c.output.result, refl, c.output.ensures.stage, c.output.ensures.rest, refl)
