use Rattle.scenario_engine.proofs.RunsLeft.{RunLaws, line-answered, line-done, lines-counted, others-counted, step-counted, steps-fewer}
use Rattle.scenario_engine.proofs.resting.runs_come_to_rest.Goals as goal

pub returns-clause-done : goal.returns-clause-done
returns-clause-done c =
    let laws : RunLaws = record {
      step = c.seats_come_to_rest.ensures.step;
      fewer = c.seats_come_to_rest.ensures.fewer;
      windows = c.seats_come_to_rest.ensures.windows;
      moved = c.steps_are_those_of_seats.ensures.step;
      waits = c.steps_are_those_of_seats.ensures.waits;
      over = c.steps_are_those_of_seats.ensures.ended;
      moving = c.steps_are_those_of_seats.ensures.moving;
      none = c.steps_are_those_of_seats.ensures.none;
      bare = c.steps_are_those_of_seats.ensures.bare;
      made = c.lines_are_taken.ensures.made;
      other = c.seats_come_to_rest.ensures.others;
      begins = c.seats_come_to_rest.ensures.begins;
      still = c.seats_come_to_rest.ensures.still;
      apart = c.lines_change_one_connection.ensures.others;
      alone = c.lines_change_one_connection.ensures.still;
      opens = c.lines_change_one_connection.ensures.opens;
      feeds = c.lines_change_one_connection.ensures.fed;
      stopped = c.lines_change_one_connection.ensures.ended;
    } in
    λ s n replies counted can few. line-done laws s n replies counted can few

pub returns-clause-answered : goal.returns-clause-answered
returns-clause-answered c =
    let laws : RunLaws = record {
      step = c.seats_come_to_rest.ensures.step;
      fewer = c.seats_come_to_rest.ensures.fewer;
      windows = c.seats_come_to_rest.ensures.windows;
      moved = c.steps_are_those_of_seats.ensures.step;
      waits = c.steps_are_those_of_seats.ensures.waits;
      over = c.steps_are_those_of_seats.ensures.ended;
      moving = c.steps_are_those_of_seats.ensures.moving;
      none = c.steps_are_those_of_seats.ensures.none;
      bare = c.steps_are_those_of_seats.ensures.bare;
      made = c.lines_are_taken.ensures.made;
      other = c.seats_come_to_rest.ensures.others;
      begins = c.seats_come_to_rest.ensures.begins;
      still = c.seats_come_to_rest.ensures.still;
      apart = c.lines_change_one_connection.ensures.others;
      alone = c.lines_change_one_connection.ensures.still;
      opens = c.lines_change_one_connection.ensures.opens;
      feeds = c.lines_change_one_connection.ensures.fed;
      stopped = c.lines_change_one_connection.ensures.ended;
    } in
    λ s n replies counted few. line-answered laws s n replies counted few

pub returns-clause-fewer : goal.returns-clause-fewer
returns-clause-fewer c =
    let laws : RunLaws = record {
      step = c.seats_come_to_rest.ensures.step;
      fewer = c.seats_come_to_rest.ensures.fewer;
      windows = c.seats_come_to_rest.ensures.windows;
      moved = c.steps_are_those_of_seats.ensures.step;
      waits = c.steps_are_those_of_seats.ensures.waits;
      over = c.steps_are_those_of_seats.ensures.ended;
      moving = c.steps_are_those_of_seats.ensures.moving;
      none = c.steps_are_those_of_seats.ensures.none;
      bare = c.steps_are_those_of_seats.ensures.bare;
      made = c.lines_are_taken.ensures.made;
      other = c.seats_come_to_rest.ensures.others;
      begins = c.seats_come_to_rest.ensures.begins;
      still = c.seats_come_to_rest.ensures.still;
      apart = c.lines_change_one_connection.ensures.others;
      alone = c.lines_change_one_connection.ensures.still;
      opens = c.lines_change_one_connection.ensures.opens;
      feeds = c.lines_change_one_connection.ensures.fed;
      stopped = c.lines_change_one_connection.ensures.ended;
    } in
    λ s t n replies counted is. steps-fewer laws n replies s t counted is

pub returns-clause-step : goal.returns-clause-step
returns-clause-step c =
    let laws : RunLaws = record {
      step = c.seats_come_to_rest.ensures.step;
      fewer = c.seats_come_to_rest.ensures.fewer;
      windows = c.seats_come_to_rest.ensures.windows;
      moved = c.steps_are_those_of_seats.ensures.step;
      waits = c.steps_are_those_of_seats.ensures.waits;
      over = c.steps_are_those_of_seats.ensures.ended;
      moving = c.steps_are_those_of_seats.ensures.moving;
      none = c.steps_are_those_of_seats.ensures.none;
      bare = c.steps_are_those_of_seats.ensures.bare;
      made = c.lines_are_taken.ensures.made;
      other = c.seats_come_to_rest.ensures.others;
      begins = c.seats_come_to_rest.ensures.begins;
      still = c.seats_come_to_rest.ensures.still;
      apart = c.lines_change_one_connection.ensures.others;
      alone = c.lines_change_one_connection.ensures.still;
      opens = c.lines_change_one_connection.ensures.opens;
      feeds = c.lines_change_one_connection.ensures.fed;
      stopped = c.lines_change_one_connection.ensures.ended;
    } in
    λ s t n keeps text counted is. step-counted laws s n counted keeps t text is

pub returns-clause-others : goal.returns-clause-others
returns-clause-others c =
    let laws : RunLaws = record {
      step = c.seats_come_to_rest.ensures.step;
      fewer = c.seats_come_to_rest.ensures.fewer;
      windows = c.seats_come_to_rest.ensures.windows;
      moved = c.steps_are_those_of_seats.ensures.step;
      waits = c.steps_are_those_of_seats.ensures.waits;
      over = c.steps_are_those_of_seats.ensures.ended;
      moving = c.steps_are_those_of_seats.ensures.moving;
      none = c.steps_are_those_of_seats.ensures.none;
      bare = c.steps_are_those_of_seats.ensures.bare;
      made = c.lines_are_taken.ensures.made;
      other = c.seats_come_to_rest.ensures.others;
      begins = c.seats_come_to_rest.ensures.begins;
      still = c.seats_come_to_rest.ensures.still;
      apart = c.lines_change_one_connection.ensures.others;
      alone = c.lines_change_one_connection.ensures.still;
      opens = c.lines_change_one_connection.ensures.opens;
      feeds = c.lines_change_one_connection.ensures.fed;
      stopped = c.lines_change_one_connection.ensures.ended;
    } in
    λ s t n m keeps text counted its is. others-counted laws s t n m keeps text counted its is

pub returns-clause-lines : goal.returns-clause-lines
returns-clause-lines c =
    let laws : RunLaws = record {
      step = c.seats_come_to_rest.ensures.step;
      fewer = c.seats_come_to_rest.ensures.fewer;
      windows = c.seats_come_to_rest.ensures.windows;
      moved = c.steps_are_those_of_seats.ensures.step;
      waits = c.steps_are_those_of_seats.ensures.waits;
      over = c.steps_are_those_of_seats.ensures.ended;
      moving = c.steps_are_those_of_seats.ensures.moving;
      none = c.steps_are_those_of_seats.ensures.none;
      bare = c.steps_are_those_of_seats.ensures.bare;
      made = c.lines_are_taken.ensures.made;
      other = c.seats_come_to_rest.ensures.others;
      begins = c.seats_come_to_rest.ensures.begins;
      still = c.seats_come_to_rest.ensures.still;
      apart = c.lines_change_one_connection.ensures.others;
      alone = c.lines_change_one_connection.ensures.still;
      opens = c.lines_change_one_connection.ensures.opens;
      feeds = c.lines_change_one_connection.ensures.fed;
      stopped = c.lines_change_one_connection.ensures.ended;
    } in
    λ s t line replies text m site counted still is. lines-counted laws s t line replies text m site counted still is
