use Rattle.std.proofs.Common.{true, ◌≡◌}
use Rattle.auction_calls.specs.declared.action.ActionCall.{ActionCall}
use Rattle.request_visit.specs.Stepping.{VisitsWindows}
use Rattle.request_visit.specs.declared.visit.Visit.{Visit}
use Rattle.shepherd.specs.Steps.{ShepherdSteps}
use Rattle.seat_steps.proofs.EventCalls.{windows-event}
use Rattle.seat_steps.proofs.Windows.{on-err, on-ok}
use Rattle.seat_steps.proofs.events.windows_event.Goals as goal

pub returns-in-Ok-clause-goes : goal.returns-in-Ok-clause-goes
returns-in-Ok-clause-goes g c =
    let steps = on-ok c.call_windows-lanes.result.1 c.in-Ok.field-0
    (ShepherdSteps (λ (v w : Visit ActionCall). VisitsWindows v c.args.link.lanes.windows w c.call_windows-lanes.result.0.windows) c.args.connection.now c.call_windows-lanes.new.connection)
    c.in-Ok.is c.call_windows-lanes.ensures.step in
    record {
      goes_on = c.connections_go_on.ensures.windows c.args.container.now c.args.connection.now c.call_windows-lanes.new.connection c.args.link.lanes.windows c.call_windows-lanes.result.0.windows
          c.call_windows-lanes.ensures.some c.call_windows-lanes.ensures.few steps c.requires.goes.goes_on;
    }

pub returns-in-Err-clause-goes : goal.returns-in-Err-clause-goes
returns-in-Err-clause-goes g c = record {
  goes_on = c.connections_go_on.ensures.wants c.args.container.now c.call_windows-lanes.new.connection
      (on-err c.call_windows-lanes.result.1 c.in-Err.field-0 (c.call_windows-lanes.new.connection.wants_memory ≡ true) c.in-Err.is c.call_windows-lanes.ensures.want);
}

pub returns-in-Ok-clause-event : goal.returns-in-Ok-clause-event
returns-in-Ok-clause-event g c = λ key.
    let steps = on-ok c.call_windows-lanes.result.1 c.in-Ok.field-0
    (ShepherdSteps (λ (v w : Visit ActionCall). VisitsWindows v c.args.link.lanes.windows w c.call_windows-lanes.result.0.windows) c.args.connection.now c.call_windows-lanes.new.connection)
    c.in-Ok.is c.call_windows-lanes.ensures.step in
    windows-event key c.args.now c.args.connection.now c.args.container.now c.args.link c.args.next.now c.new.result c.new.ensures c.call_windows-lanes.new.connection
    (record { lanes = c.call_windows-lanes.result.0; active = c.args.link.active }) c.requires.turn steps c.call_windows-lanes.ensures.rest
