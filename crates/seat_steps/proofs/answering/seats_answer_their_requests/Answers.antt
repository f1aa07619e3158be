use Rattle.std.proofs.Common.{◌++◌, true, refl}
use Rattle.seat_steps.proofs.AnsweringSteps.{AnswerLaws, step-answers, step-grows}
use Rattle.seat_steps.specs.Gone.{stage_gone}
use Rattle.seat_steps.proofs.GoneSaid.{gone-answers}
use Rattle.seat_steps.proofs.answering.seats_answer_their_requests.Goals as goal

pub returns-clause-begins : goal.returns-clause-begins
returns-clause-begins c = λ key history. record {
  stands = c.connections_stand.ensures.begins;
  answers = c.connections_answer_their_requests.ensures.begins key history;
  hears = tt;
}

pub returns-clause-fed : goal.returns-clause-fed
returns-clause-fed c = λ key history fed more heads written items s h. record {
  stands = c.connections_stand.ensures.fed fed more heads written items s h.stands;
  answers = c.connections_answer_their_requests.ensures.still key history heads written items s (record s { received = s.received ++ more }) refl h.answers;
  hears = h.hears;
}

pub returns-clause-ended : goal.returns-clause-ended
returns-clause-ended c = λ key history fed heads written items s h. record {
  stands = c.connections_stand.ensures.ended fed heads written items s h.stands;
  answers = c.connections_answer_their_requests.ensures.still key history heads written items s (record s { ended = true }) refl h.answers;
  hears = h.hears;
}

pub returns-clause-meanwhile : goal.returns-clause-meanwhile
returns-clause-meanwhile c = λ key history more fed heads written items s h. record {
  stands = h.stands;
  answers = c.connections_answer_their_requests.ensures.meanwhile key history more heads written items s h.answers;
  hears = h.hears;
}

pub returns-clause-step : goal.returns-clause-step
returns-clause-step c =
    let laws : AnswerLaws = record {
      stays = c.answers_stay.ensures.write;
      plain = c.ways_have_answers.ensures.write_memory;
      answers = c.ways_have_answers.ensures.write;
      requests = record {
        next = c.requests_compose.ensures.next;
        last = c.requests_compose.ensures.last;
        refused = c.requests_compose.ensures.refused;
        long = c.requests_compose.ensures.long;
        coded = c.requests_compose.ensures.coded;
        long_body = c.requests_compose.ensures.long_body;
      };
      meanwhile = c.connections_answer_their_requests.ensures.meanwhile;
      out_stands = c.connections_stand.ensures.out;
      out_answers = c.connections_answer_their_requests.ensures.out;
      item_stands = c.connections_stand.ensures.item;
      item_answers = c.connections_answer_their_requests.ensures.item;
    } in
    λ g seat w fed heads written items small h shows. step-answers laws g seat w fed heads written items small h shows

pub returns-clause-grows : goal.returns-clause-grows
returns-clause-grows c = λ g seat w. step-grows g seat w

pub returns-clause-gone : goal.returns-clause-gone
unfolding stage_gone
returns-clause-gone c =
    let laws : AnswerLaws = record {
      stays = c.answers_stay.ensures.write;
      plain = c.ways_have_answers.ensures.write_memory;
      answers = c.ways_have_answers.ensures.write;
      requests = record {
        next = c.requests_compose.ensures.next;
        last = c.requests_compose.ensures.last;
        refused = c.requests_compose.ensures.refused;
        long = c.requests_compose.ensures.long;
        coded = c.requests_compose.ensures.coded;
        long_body = c.requests_compose.ensures.long_body;
      };
      meanwhile = c.connections_answer_their_requests.ensures.meanwhile;
      out_stands = c.connections_stand.ensures.out;
      out_answers = c.connections_answer_their_requests.ensures.out;
      item_stands = c.connections_stand.ensures.item;
      item_answers = c.connections_answer_their_requests.ensures.item;
    } in
    λ key history fed heads written items seat st i is h. gone-answers laws key history fed heads written items seat.connection i is h

pub returns-clause-means : goal.returns-clause-means
returns-clause-means c = λ key history fed more heads written items s h. (
  c.items_are_for_requests_in_order.ensures.taken fed more heads written items s h.stands,
  c.responses_are_to_their_items.ensures key history heads written items s h.answers,
)
