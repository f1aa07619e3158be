use Rattle.std.proofs.Common.{subst, sym}
use Rattle.seat_steps.specs.Going.{GoesOnAtSeat}
use Rattle.seat_steps.specs.Stepped.{kept_between}
use Rattle.seat_steps.proofs.EventCalls.{output-made}
use Rattle.seat_steps.proofs.events.output_event.Goals as goal

pub returns-clause-goes : goal.returns-clause-goes
returns-clause-goes g c = subst (GoesOnAtSeat c.args.container.now) (sym c.output.ensures.rest) (record {
  goes_on = c.connections_go_on.ensures.out c.args.container.now c.output.result c.args.connection.now c.output.new.self.stage
      c.requires.turn c.output.ensures.stage c.requires.goes.goes_on;
})

pub returns-clause-event : goal.returns-clause-event
returns-clause-event g c = λ key now link next worker.
    output-made (record { key = key; worker = worker; now = now; keeps = kept_between c.args.container.now c.args.container.now }) c.args.connection.now c.args.container.now link next
    c.output.result c.output.new.self c.requires.turn c.output.ensures.stage c.output.ensures.rest
