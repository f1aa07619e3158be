use Rattle.std.proofs.Common.{◌≡◌, ◌∙◌, ℕ, ◌<◌, ◌^◌, List, ap, inr, subst}
use Rattle.shepherd.specs.Shepherds.{turn}
use Rattle.shepherd.specs.declared.shepherd.ShepherdTurn.{ShepherdTurn}
use Rattle.seat_steps.specs.Seats.{SeatGivens, report_at}
use Rattle.seat_steps.specs.Stepped.{EventMade, kept_between}
use Rattle.seat_steps.proofs.Stepping.{StepLaws, stepped}
use Rattle.seat_steps.proofs.Windows.{if-ok}
use Rattle.seat_steps.proofs.seat.Seat.step.Goals as goal

pub returns-in-Ok-follow_event-clause-step : goal.returns-in-Ok-follow_event-clause-step
returns-in-Ok-follow_event-clause-step g c =
    let given : SeatGivens = record { key = c.args.key.now; worker = c.args.worker; now = c.args.now; keeps = kept_between c.args.container.now c.make_event-link.new.container } in
    let laws : StepLaws = record {
      alone = record {
        own_is = c.own_steps_are_fixed.ensures;
        open_is = c.opened_requests_are_fixed.ensures;
        item_is = c.items_are_fixed.ensures;
        rests = c.going_alone_ends.ensures.rests;
      };
      event = record {
        event_is = c.events_are_fixed.ensures;
        in_turn = c.counted_numbers_come_in_turn.ensures;
        decided = c.requests_are_decided_as_read.ensures;
        cookies = c.cookies_are_accepted_of_their_texts.ensures.cookie;
        none = c.cookies_are_accepted_of_their_texts.ensures.none;
        tokens = c.tokens_are_read_once.ensures.read;
      };
      step_is = c.steps_are_fixed.ensures;
    } in
    let small : c.args.next.now.word < 2 ^ 64 = subst (λ (n : ℕ). n < 2 ^ 64) c.word_of.ensures.value c.word_of.ensures.small in
    let event = if-ok c.make_event-link.result.1 c.in-Ok.bytes
    (λ (bytes : List ℕ). EventMade c.args.key.now c.args.now c.args.self.now.connection c.args.container.now (record { lanes = c.args.lanes; active = c.args.self.now.twin }) c.args.next.now bytes
    c.make_event-link.new.connection c.make_event-link.new.container c.make_event-link.result.0 c.make_event-link.new.next) c.in-Ok.is c.make_event-link.ensures.event c.args.worker in
    let reported : c.in-Ok-follow_event.report ≡ report_at (turn c.args.self.now.connection) c.make_event-link.new.connection.stage =
    c.in-Ok-follow_event.ensures.reported ∙ ap (λ (t : ShepherdTurn). report_at t c.make_event-link.new.connection.stage) c.turn-turn.ensures in
    record {
      keeps = given.keeps;
      keeper = event.keeper;
      heard = event.heard;
      calls = record {
        mid = c.make_event-link.new.connection;
        link = c.make_event-link.result.0;
        made = event;
        reported = reported;
        alone = c.in-Ok-follow_event.ensures.alone;
        twin = c.in-Ok-follow_event.ensures.twin;
      };
      step_is = stepped laws given c.args.self.now c.args.container.now c.args.lanes c.args.next.now small c.in-Ok.bytes c.in-Ok-follow_event.items c.make_event-link.new.connection c.follow_event.new.self.connection
          c.make_event-link.new.container c.make_event-link.result.0 c.make_event-link.new.next c.follow_event.new.self.twin c.follow_event.new.lanes c.in-Ok-follow_event.report event c.make_event-link.ensures.goes
          c.in-Ok-follow_event.ensures.alone c.in-Ok-follow_event.ensures.twin reported;
    }

pub returns-in-Err-follow_event-clause-broke : goal.returns-in-Err-follow_event-clause-broke
returns-in-Err-follow_event-clause-broke g c =
    inr (
      c.in-Ok.bytes,
      c.make_event-link.new.connection,
      c.make_event-link.result.0,
      if-ok c.make_event-link.result.1 c.in-Ok.bytes
          (λ (bytes : List ℕ). EventMade c.args.key.now c.args.now c.args.self.now.connection c.args.container.now (record { lanes = c.args.lanes; active = c.args.self.now.twin }) c.args.next.now bytes
          c.make_event-link.new.connection c.make_event-link.new.container c.make_event-link.result.0 c.make_event-link.new.next) c.in-Ok.is c.make_event-link.ensures.event,
    )
