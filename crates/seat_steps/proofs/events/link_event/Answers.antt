use Rattle.std.proofs.Common.{ap}
use Rattle.auction_calls.specs.declared.action.ActionCall.{ActionCall}
use Rattle.shepherd.specs.declared.shepherd.Shepherd.{Shepherd}
use Rattle.seat_steps.proofs.EventCalls.{link-event}
use Rattle.seat_steps.proofs.events.link_event.Goals as goal

pub returns-in-Ok-clause-goes : goal.returns-in-Ok-clause-goes
returns-in-Ok-clause-goes g c = record {
  goes_on = c.connections_go_on.ensures.outside c.args.container.now c.args.connection.now c.step_outside.new.self _ _
      c.requires.turn c.in-Ok.ensures.step c.requires.goes.goes_on;
}

pub returns-in-Err-clause-goes : goal.returns-in-Err-clause-goes
returns-in-Err-clause-goes g c = record {
  goes_on = c.connections_go_on.ensures.wants c.args.container.now c.step_outside.new.self (ap (λ (s : Shepherd ActionCall). s.wants_memory) c.in-Err.ensures.want);
}

pub returns-in-Ok-clause-event : goal.returns-in-Ok-clause-event
returns-in-Ok-clause-event g c = λ key.
    link-event key c.args.now c.args.connection.now c.args.container.now c.args.link c.args.next.now c.new.result c.new.ensures c.step_outside.new.self c.step_outside.new.link c.requires.turn c.in-Ok.ensures.step
