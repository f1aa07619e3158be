use Rattle.std.proofs.Common.{ap}
use Rattle.auction_calls.specs.declared.action.ActionCall.{ActionCall}
use Rattle.shepherd.specs.declared.shepherd.Shepherd.{Shepherd}
use Rattle.seat_steps.proofs.EventCalls.{container-event}
use Rattle.seat_steps.proofs.events.container_event.Goals as goal

pub step_inside-requires-clause-serving : goal.step_inside-requires-clause-serving
step_inside-requires-clause-serving g c κs lives = (c.connections_go_on.ensures.inside_turn c.args.container.now c.args.connection.now c.requires.turn c.requires.goes.goes_on).0

pub step_inside-requires-clause-moment : goal.step_inside-requires-clause-moment
step_inside-requires-clause-moment g c κs lives = (c.connections_go_on.ensures.inside_turn c.args.container.now c.args.connection.now c.requires.turn c.requires.goes.goes_on).1

pub returns-in-Ok-clause-goes : goal.returns-in-Ok-clause-goes
returns-in-Ok-clause-goes g c = record {
  goes_on = c.connections_go_on.ensures.inside c.args.connection.now c.step_inside.new.self c.args.container.now c.step_inside.new.container
      c.in-Ok.ensures.step c.step_inside.ensures.grown c.requires.goes.goes_on;
}

pub returns-in-Err-clause-goes : goal.returns-in-Err-clause-goes
returns-in-Err-clause-goes g c = record {
  goes_on = c.connections_go_on.ensures.wants c.step_inside.new.container c.step_inside.new.self (ap (λ (s : Shepherd ActionCall). s.wants_memory) c.in-Err.ensures.want);
}

pub returns-in-Ok-clause-event : goal.returns-in-Ok-clause-event
returns-in-Ok-clause-event g c = λ key now link next.
    container-event key now c.args.connection.now c.args.container.now link next c.new.result c.new.ensures c.steps_inside_are_fixed.ensures.keeper
    c.step_inside.new.self c.step_inside.new.container c.requires.turn c.in-Ok.ensures.step
