use Rattle.seat_lines.proofs.LinesAnswer.{SeatLaws, given-up, line-more, opens-answers, others-more}
use Rattle.seat_lines.proofs.responding.responses_are_those_of_their_items.Goals as goal

pub returns-clause-opens : goal.returns-clause-opens
returns-clause-opens c =
    let laws : SeatLaws = record {
      begins = c.seats_answer_their_requests.ensures.begins;
      fed = c.seats_answer_their_requests.ensures.fed;
      ended = c.seats_answer_their_requests.ensures.ended;
      meanwhile = c.seats_answer_their_requests.ensures.meanwhile;
      step_is = c.seats_answer_their_requests.ensures.step;
      grows = c.seats_answer_their_requests.ensures.grows;
      gone = c.seats_answer_their_requests.ensures.gone;
      shows = c.made_steps_show_texts.ensures;
    } in
    λ s t n replies text is. opens-answers laws s t n replies text is

pub returns-clause-line : goal.returns-clause-line
returns-clause-line c =
    let laws : SeatLaws = record {
      begins = c.seats_answer_their_requests.ensures.begins;
      fed = c.seats_answer_their_requests.ensures.fed;
      ended = c.seats_answer_their_requests.ensures.ended;
      meanwhile = c.seats_answer_their_requests.ensures.meanwhile;
      step_is = c.seats_answer_their_requests.ensures.step;
      grows = c.seats_answer_their_requests.ensures.grows;
      gone = c.seats_answer_their_requests.ensures.gone;
      shows = c.made_steps_show_texts.ensures;
    } in
    λ s t line replies text bytes heads written items seat is made there h. line-more laws s t line replies text bytes heads written items seat is made there h

pub returns-clause-others : goal.returns-clause-others
returns-clause-others c =
    let laws : SeatLaws = record {
      begins = c.seats_answer_their_requests.ensures.begins;
      fed = c.seats_answer_their_requests.ensures.fed;
      ended = c.seats_answer_their_requests.ensures.ended;
      meanwhile = c.seats_answer_their_requests.ensures.meanwhile;
      step_is = c.seats_answer_their_requests.ensures.step;
      grows = c.seats_answer_their_requests.ensures.grows;
      gone = c.seats_answer_their_requests.ensures.gone;
      shows = c.made_steps_show_texts.ensures;
    } in
    λ s t line replies text bytes heads written items m is other h. others-more laws s t line replies text bytes heads written items m is other h

pub returns-clause-gone : goal.returns-clause-gone
returns-clause-gone c =
    let laws : SeatLaws = record {
      begins = c.seats_answer_their_requests.ensures.begins;
      fed = c.seats_answer_their_requests.ensures.fed;
      ended = c.seats_answer_their_requests.ensures.ended;
      meanwhile = c.seats_answer_their_requests.ensures.meanwhile;
      step_is = c.seats_answer_their_requests.ensures.step;
      grows = c.seats_answer_their_requests.ensures.grows;
      gone = c.seats_answer_their_requests.ensures.gone;
      shows = c.made_steps_show_texts.ensures;
    } in
    λ key history bytes heads written items seat st h. given-up laws key history bytes heads written items seat st h
