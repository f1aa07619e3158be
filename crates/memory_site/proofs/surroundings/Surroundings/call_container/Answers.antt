use Rattle.std.proofs.Common.{ap, refl, subst, sym}
use Rattle.auction_calls.specs.declared.action.ActionCall.{ActionCall}
use Rattle.memory_site.specs.Steps.{StepsAt, WantsAt, value_of}
use Rattle.memory_site.specs.declared.steps.StepEnd.TheVariants as ends
use Rattle.shepherd.specs.declared.shepherd.Shepherd.{Shepherd}
use Rattle.shepherd.specs.declared.shepherd.ShepherdTurn.{ShepherdTurn}
use Rattle.memory_site.proofs.surroundings.Surroundings.call_container.Goals as goal

pub step_inside-requires-clause-serving : goal.step_inside-requires-clause-serving
step_inside-requires-clause-serving c κs = (c.connections_go_on.ensures.inside_turn c.args.self.now.container c.args.shepherd.now c.requires.turn c.requires.goes.goes_on).0

pub step_inside-requires-clause-moment : goal.step_inside-requires-clause-moment
step_inside-requires-clause-moment c κs = (c.connections_go_on.ensures.inside_turn c.args.self.now.container c.args.shepherd.now c.requires.turn c.requires.goes.goes_on).1

pub returns-in-Ok-clause-goes : goal.returns-in-Ok-clause-goes
returns-in-Ok-clause-goes c = record {
  goes_on = c.connections_go_on.ensures.inside c.args.shepherd.now c.step_inside.new.self c.args.self.now.container c.step_inside.new.container
      c.in-Ok.ensures.step c.step_inside.ensures.grown c.requires.goes.goes_on;
}

pub returns-in-Err-clause-goes : goal.returns-in-Err-clause-goes
returns-in-Err-clause-goes c = record { goes_on = c.connections_go_on.ensures.wants c.step_inside.new.container c.step_inside.new.self (ap (λ (s : Shepherd ActionCall). s.wants_memory) c.in-Err.ensures.want) }

pub returns-in-Ok-clause-told : goal.returns-in-Ok-clause-told
returns-in-Ok-clause-told c = subst (λ (t : ShepherdTurn). StepsAt t (value_of c.args.self.now) c.args.shepherd.now ends.Called (record (value_of c.args.self.now) { container = c.step_inside.new.container }) c.step_inside.new.self)
    (sym c.requires.turn) (refl, c.in-Ok.ensures.step, refl)

pub returns-in-Err-clause-rest : goal.returns-in-Err-clause-rest
returns-in-Err-clause-rest c = subst (λ (t : ShepherdTurn). WantsAt t (value_of c.args.self.now) c.args.shepherd.now (record (value_of c.args.self.now) { container = c.step_inside.new.container }) c.step_inside.new.self)
    (sym c.requires.turn) (c.in-Err.ensures.holds, c.in-Err.ensures.want, c.in-Err.ensures.nothing, c.in-Err.ensures.keeper, refl)
