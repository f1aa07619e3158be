use Rattle.seat_steps.proofs.Functions.{reads-rightly as texts-rightly}
use Rattle.seat_laws.proofs.Assembling.{BeginLaws}
use Rattle.seat_laws.proofs.Moving.{MoveLaws}
use Rattle.seat_laws.proofs.ReadingRightly.{since-begun, since-meanwhile, since-step}
use Rattle.seat_laws.proofs.Twinning.{EventLaws}
use Rattle.seat_laws.proofs.reading.reads_begin_behind_earlier_lanes.Goals as goal

pub returns-clause-begun : goal.returns-clause-begun
returns-clause-begun c =
    let moves : MoveLaws = record {
      sound = c.lanes_stay_sound.ensures.all;
      windowed = c.lanes_go_by_events.ensures.windows;
      events = c.lanes_go_by_events.ensures.steps;
      stays = c.twins_stay.ensures.steps;
    } in
    let events : EventLaws = record {
      ask = record {
        rightly = texts-rightly c.cookies_are_accepted_of_their_texts.ensures.cookie c.cookies_are_accepted_of_their_texts.ensures.none c.tokens_are_read_once.ensures.read;
        decides = c.requests_are_decided_as_read.ensures;
        accepted = c.cookies_are_of_the_key.ensures.accepted;
      };
      turns = c.steps_are_turns_of_twins.ensures;
      settles = c.twins_stay.ensures.settle;
      lawful = c.taken_passes_are_lawful.ensures;
      limited = c.windows_keep_their_limits.ensures.call;
    } in
    let begins : BeginLaws = record {
      read = c.twins_begin.ensures.read;
      write = c.twins_begin.ensures.write;
      told = c.ways_tell_how_they_began.ensures.read;
    } in
    λ earlier g seat w r stands spelled sound before none waits. since-begun moves events begins g seat w stands spelled earlier r sound before none waits

pub returns-clause-step : goal.returns-clause-step
returns-clause-step c =
    let moves : MoveLaws = record {
      sound = c.lanes_stay_sound.ensures.all;
      windowed = c.lanes_go_by_events.ensures.windows;
      events = c.lanes_go_by_events.ensures.steps;
      stays = c.twins_stay.ensures.steps;
    } in
    let events : EventLaws = record {
      ask = record {
        rightly = texts-rightly c.cookies_are_accepted_of_their_texts.ensures.cookie c.cookies_are_accepted_of_their_texts.ensures.none c.tokens_are_read_once.ensures.read;
        decides = c.requests_are_decided_as_read.ensures;
        accepted = c.cookies_are_of_the_key.ensures.accepted;
      };
      turns = c.steps_are_turns_of_twins.ensures;
      settles = c.twins_stay.ensures.settle;
      lawful = c.taken_passes_are_lawful.ensures;
      limited = c.windows_keep_their_limits.ensures.call;
    } in
    let begins : BeginLaws = record {
      read = c.twins_begin.ensures.read;
      write = c.twins_begin.ensures.write;
      told = c.ways_tell_how_they_began.ensures.read;
    } in
    λ earlier g seat w r after stands spelled reads waits. since-step moves events begins g seat w stands spelled earlier r after reads waits

pub returns-clause-meanwhile : goal.returns-clause-meanwhile
returns-clause-meanwhile c = λ earlier st later seat r more reads. since-meanwhile earlier st later seat r more reads
