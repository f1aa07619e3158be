use Rattle.std.specs.Prelude.{All, List, [], ◌∷◌, ◌++◌}
use Rattle.std.proofs.lemmas.List.Elements.{All-weaker}
use Rattle.seat_laws.specs.Reads.{ReadsSince}
use Rattle.seat_lines.specs.Lines.{givens_of, world_of}
use Rattle.seat_lines.specs.Making.{StepMade}
use Rattle.seat_lines.specs.Site.{SeatsState}
use Rattle.session_lanes.specs.Lanes.{LanesState}
use Rattle.scenario_engine.specs.Connections.{HasBrowsersAt, ReadsBack, StandsSince, StepStands, Wrote, steps_before, steps_behind}
use Rattle.scenario_engine.proofs.connections.scenarios_have_browsers.Goals as goal

reads_back : (c : goal.After-seats_read_what_was_written) (past : SeatsState) (earlier : LanesState) (step : StepMade) → StepStands past earlier step → ReadsBack earlier step
reads_back c past earlier step stands = λ it value begun written.
    let at : StandsSince past earlier step it.seat it.bricks = stands it.seat it.bricks it.made in
    let since : ReadsSince earlier it.seat it.bricks it.read = record { waits = it.waits; sound = at.sound; events = at.events; begins = begun } in
    record {
      right = c.seats_read_what_was_written.ensures.right earlier (givens_of step.site step.number step.keeps) it.seat (world_of step.site it.bricks) it.read value it.outcome at.stands at.spelled since written it.heard;
      in_time = λ early. c.seats_read_what_was_written.ensures.in_time earlier (givens_of step.site step.number step.keeps) it.seat (world_of step.site it.bricks) it.read value it.outcome at.stands at.spelled since written it.heard early;
    }

at_time : (c : goal.After-seats_read_what_was_written) (past : SeatsState) (bricks : LanesState) (before behind : List StepMade) → All (Wrote bricks) before → All (StepStands past bricks) behind → HasBrowsersAt past bricks before behind
at_time c past bricks before behind wrote stand = record {
  writes = wrote;
  reads = All-weaker (StepStands past bricks) (ReadsBack bricks) (reads_back c past bricks) behind stand;
  stand = stand;
}

pub returns : goal.returns
returns c = λ turns t u told heard.
    let over = c.connections_stand_over_bricks.ensures in
    record {
      pauses = λ pause. at_time c pause.running.seats pause.bricks (steps_before pause) (steps_behind pause) (over.wrote turns t u pause told heard) (over.steps turns t u pause told heard);
      steps = λ at. at_time c at.step.site.seats at.bricks (at.before ++ at.step ∷ []) (at.step ∷ at.behind) (over.wrote_by_step turns t u at told heard) (over.since_step turns t u at told heard);
    }
