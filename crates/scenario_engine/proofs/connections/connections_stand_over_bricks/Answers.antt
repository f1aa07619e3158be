use Rattle.std.proofs.Common.{◌-◌, ◌^◌, ◌≤◌, ◌++◌, arith}
use Rattle.outside.specs.declared.serials.TheConstants.{SERIALS_END}
use Rattle.scenario_engine.proofs.Leading.{CountsLaw}
use Rattle.scenario_engine.proofs.Pausing.{all_stand, pause_stands, reads_since}
use Rattle.scenario_engine.proofs.SeatsLead.{DrawLaws}
use Rattle.scenario_engine.proofs.SeatsStand.{StandLaws}
use Rattle.scenario_engine.proofs.Standing.{TurnLaws, lent_events}
use Rattle.scenario_engine.proofs.Writing.{WriteLaws, pause_wrote, steps_stand, steps_wrote}
use Rattle.scenario_engine.proofs.connections.connections_stand_over_bricks.Goals as goal

before : SERIALS_END ≤ 2 ^ 64 - 1
before = omega arith

counts_law : (c : goal.After-lanes_go_by_events) → CountsLaw
counts_law c =
    let counts = c.writes_with_new_nonces_are_done.ensures in
    record { none = counts.none; bricks = counts.bricks; key = counts.key }

draw_laws : (c : goal.After-lanes_go_by_events) → DrawLaws
draw_laws c =
    let steps = c.bricks_go_by_lent_steps.ensures in
    let nonces = c.seats_begin_with_drawn_nonces.ensures in
    record {
      store = steps.store;
      serials = steps.serials;
      boot = steps.boot;
      end = λ g seat w below. steps.end (2 ^ 64 - 1) g seat w before below;
      begins = nonces.begins;
      step = nonces.step;
      meanwhile = nonces.meanwhile;
      still = nonces.still;
      begun = nonces.begun;
      later = nonces.later;
    }

stand_laws : (c : goal.After-lanes_go_by_events) → StandLaws
stand_laws c =
    let stand = c.seats_stand_meanwhile.ensures in
    let order = c.requests_order_their_own_writes.ensures in
    let read = c.seats_read_what_was_written.ensures in
    record {
      stands = c.seats_stand.ensures.stands;
      others = c.others_stand.ensures.stands;
      apart = c.others_stand.ensures.apart;
      begins = stand.begins;
      still = stand.still;
      calls = stand.calls;
      owed = c.owed_writes_were_drawn.ensures.owed;
      orders = order.step;
      begun = order.begins;
      alone = order.alone;
      leaves = c.lent_steps_leave_others.ensures.nonces;
      last = read.begins;
      same = read.stays;
      events = lent_events c.lanes_go_by_events.ensures.steps;
    }

turn_laws : (c : goal.After-lanes_go_by_events) → TurnLaws
turn_laws c = record {
  new = c.nonces_stay_new.ensures.new;
  others = c.other_nonces_stay_new.ensures;
  calls = c.lines_leave_calls.ensures;
  events = c.turns_go_by_events.ensures;
  limits = c.windows_keep_their_limits.ensures.call;
  windows = c.windows_keep_their_limits.ensures.new;
}

pub returns-clause-stands : goal.returns-clause-stands
returns-clause-stands c = λ turns t u r st n seat told heard last store left there.
    all_stand (draw_laws c) (stand_laws c) (turn_laws c) (counts_law c) c.worlds_only_grow.ensures.grows turns r st n seat (c.boots_rise.ensures.rise turns t u told) heard last store left there

pub returns-clause-since : goal.returns-clause-since
returns-clause-since c = λ turns more t u r q st now n seat read told heard done store idle last there left its waits.
    reads_since (draw_laws c) (stand_laws c) (turn_laws c) (counts_law c) c.worlds_only_grow.ensures.grows turns more r st (c.boots_rise.ensures.rise (turns ++ more) t u told) heard done store q now n seat read idle last there left its waits

pub returns-clause-steps : goal.returns-clause-steps
returns-clause-steps c = λ turns t u pause told heard.
    pause_stands (draw_laws c) (stand_laws c) (turn_laws c) (counts_law c) c.worlds_only_grow.ensures.grows turns pause (c.boots_rise.ensures.rise turns t u told) heard

write_laws : (c : goal.After-lanes_go_by_events) → WriteLaws
write_laws c = record { answered = c.seats_acknowledge_what_they_wrote.ensures; stays = c.acknowledged_cookies_stay_acknowledged.ensures }

pub returns-clause-wrote : goal.returns-clause-wrote
returns-clause-wrote c = λ turns t u pause told heard.
    pause_wrote (draw_laws c) (stand_laws c) (turn_laws c) (counts_law c) c.worlds_only_grow.ensures.grows c.lanes_go_by_events.ensures.steps (write_laws c) turns pause (c.boots_rise.ensures.rise turns t u told) heard

pub returns-clause-since_step : goal.returns-clause-since_step
returns-clause-since_step c = λ turns t u at told heard.
    steps_stand (draw_laws c) (stand_laws c) (turn_laws c) (counts_law c) c.worlds_only_grow.ensures.grows c.lanes_go_by_events.ensures.steps turns at (c.boots_rise.ensures.rise turns t u told) heard

pub returns-clause-wrote_by_step : goal.returns-clause-wrote_by_step
returns-clause-wrote_by_step c = λ turns t u at told heard.
    steps_wrote (draw_laws c) (stand_laws c) (turn_laws c) (counts_law c) c.worlds_only_grow.ensures.grows c.lanes_go_by_events.ensures.steps (write_laws c) turns at (c.boots_rise.ensures.rise turns t u told) heard
