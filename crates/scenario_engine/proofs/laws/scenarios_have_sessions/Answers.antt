use Rattle.scenario_engine.specs.Sessions.{session_turns}
use Rattle.scenario_engine.specs.Transcript.{first}
use Rattle.std.proofs.Common.{◌-◌, ◌^◌, ◌≤◌, arith}
use Rattle.outside.specs.declared.serials.TheConstants.{SERIALS_END}
use Rattle.scenario_engine.proofs.SeatsLead.{DrawLaws}
use Rattle.scenario_engine.proofs.Leading.{CountsLaw, all_lead}
use Rattle.scenario_engine.proofs.laws.scenarios_have_sessions.Goals as goal

before : SERIALS_END ≤ 2 ^ 64 - 1
before = omega arith

pub returns : goal.returns
returns c = λ turns.
    let counts = c.writes_with_new_nonces_are_done.ensures in
    let law : CountsLaw = record { none = counts.none; bricks = counts.bricks; key = counts.key } in
    let steps = c.bricks_go_by_lent_steps.ensures in
    let nonces = c.seats_begin_with_drawn_nonces.ensures in
    let laws : DrawLaws = record {
      store = steps.store;
      serials = steps.serials;
      boot = steps.boot;
      end = λ g seat w below. steps.end (2 ^ 64 - 1) g seat w before below;
      begins = nonces.begins;
      step = nonces.step;
      meanwhile = nonces.meanwhile;
      still = nonces.still;
      begun = nonces.begun;
      later = nonces.later;
    } in
    let lead = all_lead law laws first tt 1 turns counts.none in
    record { setup = lead.0; counts = lead.3; end = lead.1; ends = lead.4; stand = c.sessions_stand.ensures lead.0 (session_turns first turns) lead.1 lead.2 }
