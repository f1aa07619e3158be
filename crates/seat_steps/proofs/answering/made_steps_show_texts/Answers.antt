use Rattle.seat_steps.proofs.BehindEvents.{EventLaws}
use Rattle.seat_steps.proofs.GoneAlone.{AloneLaws}
use Rattle.seat_steps.proofs.MadeSteps.{made-shows}
use Rattle.seat_steps.proofs.answering.made_steps_show_texts.Goals as goal

pub returns : goal.returns
returns c =
    let alone : AloneLaws = record {
      own_is = c.own_steps_are_fixed.ensures;
      open_is = c.opened_requests_are_fixed.ensures;
      item_is = c.items_are_fixed.ensures;
      rests = c.going_alone_ends.ensures.rests;
    } in
    let events : EventLaws = record {
      event_is = c.events_are_fixed.ensures;
      in_turn = c.counted_numbers_come_in_turn.ensures;
      decided = c.requests_are_decided_as_read.ensures;
      cookies = c.cookies_are_accepted_of_their_texts.ensures.cookie;
      none = c.cookies_are_accepted_of_their_texts.ensures.none;
      tokens = c.tokens_are_read_once.ensures.read;
    } in
    λ key worker now seat old new lanes next o word stepped.
    made-shows alone events (record { key = key; worker = worker; now = now; keeps = stepped.keeps }) seat old lanes next word new o stepped.calls
