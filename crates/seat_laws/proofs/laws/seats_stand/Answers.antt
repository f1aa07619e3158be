use Rattle.seat_steps.proofs.Functions.{reads-rightly}
use Rattle.seat_laws.proofs.Assembling.{BeginLaws, by-events, stands-still}
use Rattle.seat_laws.proofs.Moving.{MoveLaws}
use Rattle.seat_laws.proofs.Twinning.{EventLaws}
use Rattle.seat_laws.proofs.laws.seats_stand.Goals as goal

pub returns-clause-stands : goal.returns-clause-stands
returns-clause-stands c =
    let moves : MoveLaws = record {
      sound = c.lanes_stay_sound.ensures.all;
      windowed = c.lanes_go_by_events.ensures.windows;
      events = c.lanes_go_by_events.ensures.steps;
      stays = c.twins_stay.ensures.steps;
    } in
    let events : EventLaws = record {
      ask = record {
        rightly = reads-rightly c.cookies_are_accepted_of_their_texts.ensures.cookie c.cookies_are_accepted_of_their_texts.ensures.none c.tokens_are_read_once.ensures.read;
        decides = c.requests_are_decided_as_read.ensures;
        accepted = c.cookies_are_of_the_key.ensures.accepted;
      };
      turns = c.steps_are_turns_of_twins.ensures;
      settles = c.twins_stay.ensures.settle;
      lawful = c.taken_passes_are_lawful.ensures;
      limited = c.windows_keep_their_limits.ensures.call;
    } in
    let begins : BeginLaws = record {
      read = c.twins_begin.ensures.read;
      write = c.twins_begin.ensures.write;
      told = c.ways_tell_how_they_began.ensures.read;
    } in
    λ g seat w stands spelled new. stands-still moves events begins g seat w stands spelled new

pub returns-clause-events : goal.returns-clause-events
returns-clause-events c =
    let moves : MoveLaws = record {
      sound = c.lanes_stay_sound.ensures.all;
      windowed = c.lanes_go_by_events.ensures.windows;
      events = c.lanes_go_by_events.ensures.steps;
      stays = c.twins_stay.ensures.steps;
    } in
    let events : EventLaws = record {
      ask = record {
        rightly = reads-rightly c.cookies_are_accepted_of_their_texts.ensures.cookie c.cookies_are_accepted_of_their_texts.ensures.none c.tokens_are_read_once.ensures.read;
        decides = c.requests_are_decided_as_read.ensures;
        accepted = c.cookies_are_of_the_key.ensures.accepted;
      };
      turns = c.steps_are_turns_of_twins.ensures;
      settles = c.twins_stay.ensures.settle;
      lawful = c.taken_passes_are_lawful.ensures;
      limited = c.windows_keep_their_limits.ensures.call;
    } in
    let begins : BeginLaws = record {
      read = c.twins_begin.ensures.read;
      write = c.twins_begin.ensures.write;
      told = c.ways_tell_how_they_began.ensures.read;
    } in
    λ g seat w stands spelled. by-events moves events begins g seat w stands spelled
