use Rattle.scenario_engine.proofs.HeardAll.{DecideLaws, all-decided}
use Rattle.scenario_engine.proofs.HeardSteps.{HeardLaws}
use Rattle.scenario_engine.proofs.ReportLines.{moments-rise}
use Rattle.scenario_engine.proofs.reporting.decisions_are_by_all_reports.Goals as goal

pub returns-clause-decided : goal.returns-clause-decided
returns-clause-decided c =
    let stepped = c.steps_are_those_of_seats.ensures in
    let laws : DecideLaws = record {
      decision = c.managers_decide_by_all_reports.ensures.decision;
      reports = c.managers_decide_by_all_reports.ensures.reports;
      none = c.new_managers_were_told_nothing.ensures;
    } in
    let steps : HeardLaws = record {
      moved = stepped.step;
      waits = stepped.waits;
      over = stepped.ended;
      moving = stepped.moving;
      none = stepped.none;
      bare = stepped.bare;
      alone = c.lines_change_one_connection.ensures.still;
    } in
    λ turns. all-decided laws steps turns

pub returns-clause-moments : goal.returns-clause-moments
returns-clause-moments c = moments-rise
