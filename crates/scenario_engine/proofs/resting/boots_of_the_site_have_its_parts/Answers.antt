use Rattle.scenario_engine.proofs.RunsCounted.{CountedLaws, site_in_all}
use Rattle.scenario_engine.proofs.RunsLeft.{RunLaws}
use Rattle.scenario_engine.proofs.resting.boots_of_the_site_have_its_parts.Goals as goal

pub returns : goal.returns
returns c =
    let rest = c.seats_come_to_rest.ensures in
    let changed = c.lines_change_one_connection.ensures in
    let steps = c.steps_are_those_of_seats.ensures in
    let runs : RunLaws = record {
      step = rest.step;
      fewer = rest.fewer;
      windows = rest.windows;
      moved = steps.step;
      waits = steps.waits;
      over = steps.ended;
      moving = steps.moving;
      none = steps.none;
      bare = steps.bare;
      made = c.lines_are_taken.ensures.made;
      other = rest.others;
      begins = rest.begins;
      still = rest.still;
      apart = changed.others;
      alone = changed.still;
      opens = changed.opens;
      feeds = changed.fed;
      stopped = changed.ended;
    } in
    let laws : CountedLaws = record { runs = runs; meanwhile = rest.meanwhile } in
    λ turns r site ends. site_in_all laws turns r site ends
