use Rattle.std.proofs.Common.{List, subst}
use Rattle.seat_laws.specs.Reporting.{HasReported}
use Rattle.seat_lines.specs.Making.{StepMade}
use Rattle.scenario_engine.specs.Serving.{items_by, reported_by}
use Rattle.scenario_engine.proofs.ServedSteps.{ServeLaws}
use Rattle.scenario_engine.proofs.ServedTurns.{all-served, given-up}
use Rattle.scenario_engine.proofs.serving.connections_serve_their_requests.Goals as goal

pub returns-clause-served : goal.returns-clause-served
returns-clause-served c =
    let serve = c.seats_serve_their_requests.ensures in
    let changed = c.lines_change_one_connection.ensures in
    let stepped = c.steps_are_those_of_seats.ensures in
    let laws : ServeLaws = record {
      begins = serve.begins;
      feeds = serve.fed;
      ends = serve.ended;
      meanwhile = serve.meanwhile;
      steps = serve.step;
      follow = c.items_of_seats_follow_one_another.ensures.step;
      grows = c.seats_answer_their_requests.ensures.grows;
      moved = stepped.step;
      waits = stepped.waits;
      over = stepped.ended;
      moving = stepped.moving;
      none = stepped.none;
      bare = stepped.bare;
      apart = changed.others;
      alone = changed.still;
      opens = changed.opens;
      bytes = changed.fed;
      input = changed.ended;
    } in
    λ turns made. all-served laws turns made

pub returns-clause-reported : goal.returns-clause-reported
returns-clause-reported c = λ turns it served.
    subst (λ (steps : List StepMade). HasReported (reported_by steps) (items_by steps) served.connection.stage) served.steps_are served.serves.reported

pub returns-clause-given_up : goal.returns-clause-given_up
returns-clause-given_up c = λ turns it served seat st i there is. given-up c.seats_serve_their_requests.ensures.gone turns it served seat st i there is
