use Rattle.seat_steps.proofs.Functions.{reads-rightly as texts-rightly}
use Rattle.seat_laws.proofs.Asking.{AskLaws, BearLaws}
use Rattle.seat_laws.proofs.AtOnce.{HasExpired, at-once}
use Rattle.seat_laws.proofs.Awaiting.{taken-so}
use Rattle.seat_laws.proofs.HearingReads.{hears-so}
use Rattle.seat_laws.proofs.Moving.{MoveLaws}
use Rattle.seat_laws.proofs.ReadingRightly.{WorldLaws, begins-last, found-or-lost, reads-rightly, stays-same}
use Rattle.seat_laws.proofs.Twinning.{EventLaws}
use Rattle.seat_laws.proofs.reading.seats_read_what_was_written.Goals as goal

pub returns-clause-right : goal.returns-clause-right
returns-clause-right c =
    let moves : MoveLaws = record {
      sound = c.lanes_stay_sound.ensures.all;
      windowed = c.lanes_go_by_events.ensures.windows;
      events = c.lanes_go_by_events.ensures.steps;
      stays = c.twins_stay.ensures.steps;
    } in
    let events : EventLaws = record {
      ask = record {
        rightly = texts-rightly c.cookies_are_accepted_of_their_texts.ensures.cookie c.cookies_are_accepted_of_their_texts.ensures.none c.tokens_are_read_once.ensures.read;
        decides = c.requests_are_decided_as_read.ensures;
        accepted = c.cookies_are_of_the_key.ensures.accepted;
      };
      turns = c.steps_are_turns_of_twins.ensures;
      settles = c.twins_stay.ensures.settle;
      lawful = c.taken_passes_are_lawful.ensures;
      limited = c.windows_keep_their_limits.ensures.call;
    } in
    let worlds : WorldLaws = record {
      right = c.reads_answer_what_was_written.ensures.right;
      stays = c.acknowledged_cookies_stay_acknowledged.ensures;
    } in
    λ earlier g seat w r value outcome stands spelled reads acknowledged heard. reads-rightly moves events g seat w stands spelled worlds earlier r value outcome reads acknowledged heard

pub returns-clause-in_time : goal.returns-clause-in_time
returns-clause-in_time c =
    let moves : MoveLaws = record {
      sound = c.lanes_stay_sound.ensures.all;
      windowed = c.lanes_go_by_events.ensures.windows;
      events = c.lanes_go_by_events.ensures.steps;
      stays = c.twins_stay.ensures.steps;
    } in
    let events : EventLaws = record {
      ask = record {
        rightly = texts-rightly c.cookies_are_accepted_of_their_texts.ensures.cookie c.cookies_are_accepted_of_their_texts.ensures.none c.tokens_are_read_once.ensures.read;
        decides = c.requests_are_decided_as_read.ensures;
        accepted = c.cookies_are_of_the_key.ensures.accepted;
      };
      turns = c.steps_are_turns_of_twins.ensures;
      settles = c.twins_stay.ensures.settle;
      lawful = c.taken_passes_are_lawful.ensures;
      limited = c.windows_keep_their_limits.ensures.call;
    } in
    let worlds : WorldLaws = record {
      right = c.reads_answer_what_was_written.ensures.right;
      stays = c.acknowledged_cookies_stay_acknowledged.ensures;
    } in
    λ earlier g seat w r value outcome stands spelled reads acknowledged heard early. found-or-lost moves events g seat w stands spelled worlds earlier r value outcome reads acknowledged heard early

pub returns-clause-at_once : goal.returns-clause-at_once
returns-clause-at_once c =
    let ask : AskLaws = record {
      rightly = texts-rightly c.cookies_are_accepted_of_their_texts.ensures.cookie c.cookies_are_accepted_of_their_texts.ensures.none c.tokens_are_read_once.ensures.read;
      decides = c.requests_are_decided_as_read.ensures;
      accepted = c.cookies_are_of_the_key.ensures.accepted;
    } in
    let bear : BearLaws = record {
      reads = c.cookies_are_accepted_of_their_texts.ensures.cookie;
      taken = c.cookies_are_of_the_key.ensures.taken;
    } in
    λ g seat w outcome rests heard. (let it : HasExpired g.key seat.connection.received g.now outcome = at-once ask bear g seat w outcome rests heard in (it.head, it.cookie, it.bears, it.is, it.past))

pub returns-clause-asked : goal.returns-clause-asked
returns-clause-asked c =
    let ask : AskLaws = record {
      rightly = texts-rightly c.cookies_are_accepted_of_their_texts.ensures.cookie c.cookies_are_accepted_of_their_texts.ensures.none c.tokens_are_read_once.ensures.read;
      decides = c.requests_are_decided_as_read.ensures;
      accepted = c.cookies_are_of_the_key.ensures.accepted;
    } in
    let bear : BearLaws = record {
      reads = c.cookies_are_accepted_of_their_texts.ensures.cookie;
      taken = c.cookies_are_of_the_key.ensures.taken;
    } in
    λ g seat w head cookie rests memory bears early. taken-so ask bear g seat w head cookie rests memory bears early

pub returns-clause-hears : goal.returns-clause-hears
returns-clause-hears c = λ g seat w r waits none. hears-so g seat w r waits none

pub returns-clause-begins : goal.returns-clause-begins
returns-clause-begins c =
    let moves : MoveLaws = record {
      sound = c.lanes_stay_sound.ensures.all;
      windowed = c.lanes_go_by_events.ensures.windows;
      events = c.lanes_go_by_events.ensures.steps;
      stays = c.twins_stay.ensures.steps;
    } in
    let events : EventLaws = record {
      ask = record {
        rightly = texts-rightly c.cookies_are_accepted_of_their_texts.ensures.cookie c.cookies_are_accepted_of_their_texts.ensures.none c.tokens_are_read_once.ensures.read;
        decides = c.requests_are_decided_as_read.ensures;
        accepted = c.cookies_are_of_the_key.ensures.accepted;
      };
      turns = c.steps_are_turns_of_twins.ensures;
      settles = c.twins_stay.ensures.settle;
      lawful = c.taken_passes_are_lawful.ensures;
      limited = c.windows_keep_their_limits.ensures.call;
    } in
    λ g seat w number stands spelled none begun. begins-last moves events g seat w stands spelled number none begun

pub returns-clause-stays : goal.returns-clause-stays
returns-clause-stays c = stays-same
