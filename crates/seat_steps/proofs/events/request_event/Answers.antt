use Rattle.std.proofs.Common.{ℕ, subst}
use Rattle.seat_steps.specs.Stepped.{TakesAt}
use Rattle.seat_steps.specs.declared.seat.TheConstants.{NODE}
use Rattle.seat_steps.proofs.EventCalls.{request-event}
use Rattle.seat_steps.proofs.events.request_event.Goals as goal

pub returns-in-Ok-clause-goes : goal.returns-in-Ok-clause-goes
returns-in-Ok-clause-goes g c = record {
  goes_on = c.taken_requests_go_on.ensures c.args.container.now _ _ _ c.args.connection.now c.take_at.new.connection _ _ _ _ _ _
      c.in-Ok.ensures.taken.takes c.requires.goes.goes_on;
}

pub returns-in-Err-clause-goes : goal.returns-in-Err-clause-goes
returns-in-Err-clause-goes g c = record { goes_on = c.connections_go_on.ensures.wants c.args.container.now c.take_at.new.connection c.in-Err.ensures.want }

pub returns-in-Ok-clause-event : goal.returns-in-Ok-clause-event
returns-in-Ok-clause-event g c =
    request-event c.args.key.now c.args.now c.args.connection.now c.args.container.now c.args.link c.args.next.now c.new.result c.new.ensures c.take_at.new.connection c.take_at.new.next c.requires.turn
    (subst (λ (boot : ℕ). TakesAt c.args.key.now (record { node = NODE; boot = boot }) c.args.link c.args.now c.args.connection.now c.args.next.now c.take_at.new.connection c.take_at.new.next)
    c.boot.ensures c.in-Ok.ensures.taken)
