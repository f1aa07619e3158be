use Rattle.std.proofs.Common.{◌≡◌, ℕ, true, List, [], ◌++◌, arith, refl, sym, subst}
use Rattle.auction_calls.specs.declared.action.ActionCall.{ActionCall}
use Rattle.auction_site.specs.Actions.{steps_of}
use Rattle.boot_core.specs.declared.boot.Start.{Start}
use Rattle.container_core.specs.Container.{events_of}
use Rattle.container_core.specs.History.{entries_in}
use Rattle.container_core.specs.declared.history.Event.{Event}
use Rattle.crash_base.specs.declared.numbers.Moment.{Moment}
use Rattle.http_wire.specs.Taking.{taken_of}
use Rattle.lane_link.specs.Links.{LaneLinkMakes}
use Rattle.outcome_items.specs.declared.item.Item.{Item}
use Rattle.outside.specs.Random.{PlainGives}
use Rattle.outside.specs.Serials.{PlainLooks}
use Rattle.served_items.specs.Attributing.{Attributing}
use Rattle.shepherd.specs.Answering.{Answering, heads_in}
use Rattle.shepherd.specs.Standing.{Standing}
use Rattle.shepherd.specs.Steps.{dropped_stage}
use Rattle.shepherd.specs.declared.shepherd.Shepherd.{Shepherd}
use Rattle.site_programs.specs.Errands.{IsMadeOf}
use Rattle.site_programs.specs.declared.maker.SiteMaker.{SiteMaker}
use Rattle.seat_steps.specs.Gone.{stage_gone}
use Rattle.seat_steps.specs.Seats.{SeatWorld, home_in, seat_step}
use Rattle.seat_steps.specs.Stepped.{HasStepped, draws_in, world_from}
use Rattle.seat_laws.specs.Reporting.{HasReported}
use Rattle.seat_laws.specs.Serving.{DrewNext, SeatServes, history_in, service_of}
use Rattle.seat_laws.proofs.ReportedOnce.{given-back-reports, given-up-reports, has-still, taken-reports}
use Rattle.seat_laws.proofs.ServingCalls.{CallLaws}
use Rattle.seat_laws.proofs.ServingGone.{GoneLaws, gone-so, left-item}
use Rattle.seat_laws.proofs.ServingSteps.{AttributesFrom, EventLaws, ItemsStand, StepAnswers, same-start, step-serves}
use Rattle.seat_laws.proofs.serving.seats_serve_their_requests.Goals as goal

pub returns-clause-begins : goal.returns-clause-begins
returns-clause-begins c = λ key boot since now. record {
  heads = [];
  answers = c.seats_answer_their_requests.ensures.begins key (history_in boot since);
  attributes = c.items_go_back_to_their_requests.ensures.begins (service_of key boot) boot.start (history_in boot since) now.0;
  holds = c.items_are_held_in_order.ensures.begins (history_in boot since);
  reported = refl;
}

pub returns-clause-fed : goal.returns-clause-fed
returns-clause-fed c = λ key boot since now course s more h. record {
  heads = h.heads;
  answers = c.seats_answer_their_requests.ensures.fed key (history_in boot since) course.fed more h.heads course.written course.items s h.answers;
  attributes = c.items_go_back_to_their_requests.ensures.still (service_of key boot) boot.start (history_in boot since) h.heads course.drawn course.opened.0 now.0 course.items s (record s { received = s.received ++ more }) refl h.attributes;
  holds = c.items_are_held_in_order.ensures.still course.behind (history_in boot since) course.items s (record s { received = s.received ++ more }) refl h.holds;
  reported = h.reported;
}

pub returns-clause-ended : goal.returns-clause-ended
returns-clause-ended c = λ key boot since now course s h. record {
  heads = h.heads;
  answers = c.seats_answer_their_requests.ensures.ended key (history_in boot since) course.fed h.heads course.written course.items s h.answers;
  attributes = c.items_go_back_to_their_requests.ensures.still (service_of key boot) boot.start (history_in boot since) h.heads course.drawn course.opened.0 now.0 course.items s (record s { ended = true }) refl h.attributes;
  holds = c.items_are_held_in_order.ensures.still course.behind (history_in boot since) course.items s (record s { ended = true }) refl h.holds;
  reported = h.reported;
}

pub returns-clause-meanwhile : goal.returns-clause-meanwhile
returns-clause-meanwhile c = λ key boot after since more now later course s same late h.
    same-start key boot after (since ++ more) later course s same (record {
      heads = h.heads;
      answers = c.seats_answer_their_requests.ensures.meanwhile key (history_in boot since) more course.fed h.heads course.written course.items s h.answers;
      attributes = c.items_go_back_to_their_requests.ensures.meanwhile (service_of key boot) boot.start (history_in boot since) more h.heads course.drawn course.opened.0 now.0 course.items later.0 s late h.attributes;
      holds = c.items_are_held_in_order.ensures.meanwhile course.behind (history_in boot since) more course.items s h.holds;
      reported = h.reported;
    })

pub returns-clause-step : goal.returns-clause-step
returns-clause-step c = λ g seat w old new course boot_is since_is entries small word grown some few stepped h.
    let is : w ≡ world_from old w.store (draws_in w) = λ l. record { boot = (sym boot_is) l; since = (sym since_is) l; store = w.store; word = w.word; serial = w.serial } in
    let journal : entries_in old.since ≡ old.boot.entries = subst (λ (x : SeatWorld). entries_in x.since ≡ x.boot.entries) is entries in
    let laws : CallLaws g.key g.now old (ItemsStand g.key old.boot.start g.now course) = record {
      taken = λ history heads drawn items s new counts clock_after random random_after serials serials_after turn_is told takes so.
          let t = c.taken_requests_are_attributed.ensures (service_of g.key old.boot) counts old.boot.start history heads drawn course.opened.0 g.now.0 items s new (record { shown = g.now; told = g.now }) clock_after random random_after serials serials_after turn_is (omega arith) takes so.0 in
          record {
            more = t.more;
            mid = t.mid;
            drew = t.drew;
            looked = t.looked;
            so = (
              subst (λ (latest : ℕ). let at : Moment = record { 0 = latest } in AttributesFrom g.key old.boot.start at course history (heads ++ heads_in (taken_of s.received)) (drawn ++ t.more) items new) told t.attributes,
              c.items_are_held_in_order.ensures.taken g.key (home_in old.boot) counts course.behind history items s new (record { shown = g.now; told = g.now }) clock_after random random_after serials serials_after turn_is takes so.1,
            );
          };
      outside = λ history heads drawn items s new link after turn_is steps so. (
        c.items_go_back_to_their_requests.ensures.outside (service_of g.key old.boot) old.boot.start history heads drawn course.opened.0 g.now.0 items s new link after turn_is steps so.0,
        c.items_are_held_in_order.ensures.outside course.behind history items s new link after steps so.1,
      );
      windows = λ history heads drawn items s new windows after some few steps so. (
        c.items_go_back_to_their_requests.ensures.windows (service_of g.key old.boot) old.boot.start history heads drawn course.opened.0 g.now.0 items s new windows after some few steps so.0,
        c.items_are_held_in_order.ensures.windows course.behind history items s new windows after steps so.1,
      );
      inside = λ heads drawn items s new after steps grown so. (
        subst (λ (start : Start). Attributing steps_of LaneLinkMakes (λ (maker : SiteMaker). IsMadeOf) PlainGives PlainLooks (service_of g.key old.boot) start (events_of after) heads drawn course.opened.0 g.now.0 items new) grown.boot.start
            (c.items_go_back_to_their_requests.ensures.inside (service_of g.key old.boot) heads drawn course.opened.0 g.now.0 items s new old after steps journal grown so.0),
        c.items_are_held_in_order.ensures.inside course.behind items s new old after steps grown so.1,
      );
      out = λ history heads drawn items bytes s stage turn_is puts so. (
        c.items_go_back_to_their_requests.ensures.out (service_of g.key old.boot) old.boot.start history heads drawn course.opened.0 g.now.0 items bytes s stage turn_is puts so.0,
        c.items_are_held_in_order.ensures.out course.behind history items bytes s stage puts so.1,
      );
      advance = λ history heads drawn items s new turn_is steps so. (
        c.items_go_back_to_their_requests.ensures.advance (service_of g.key old.boot) old.boot.start history heads drawn course.opened.0 g.now.0 items g.key s new turn_is steps so.0,
        c.items_are_held_in_order.ensures.advance course.behind history items g.key s new steps so.1,
      );
      opened = λ history heads drawn items s stage worker turn_is opens so. (
        c.items_go_back_to_their_requests.ensures.open (service_of g.key old.boot) old.boot.start history heads drawn course.opened.0 g.now.0 items s stage worker turn_is opens so.0,
        c.items_are_held_in_order.ensures.open course.behind history items s stage (record {}) worker opens so.1,
      );
      item = λ history heads drawn items i s stage turn_is takes so. (
        c.items_go_back_to_their_requests.ensures.item (service_of g.key old.boot) old.boot.start history heads drawn course.opened.0 g.now.0 items i s stage (c.items_are_for_requests_in_order.ensures.item s turn_is) takes so.0,
        c.items_are_held_in_order.ensures.item course.behind history items i s stage takes so.1,
      );
    } in
    let events : EventLaws = record {
      event_is = c.events_are_fixed.ensures;
      in_turn = c.counted_numbers_come_in_turn.ensures;
      decided = c.requests_are_decided_as_read.ensures;
      cookies = c.cookies_are_accepted_of_their_texts.ensures.cookie;
      none = c.cookies_are_accepted_of_their_texts.ensures.none;
      tokens = c.tokens_are_read_once.ensures.read;
    } in
    let answers : StepAnswers = record { step = c.seats_answer_their_requests.ensures.step; shows = c.made_steps_show_texts.ensures } in
    let made : HasStepped g.key g.worker g.now seat old (world_from old w.store (draws_in w)) new (seat_step g seat w) = subst (λ (x : SeatWorld). HasStepped g.key g.worker g.now seat old x new (seat_step g seat w)) is stepped in
    let begun : SeatServes g.key old.boot old.since g.now course seat.connection = subst (λ (x : SeatWorld). SeatServes g.key x.boot x.since g.now course seat.connection) is h in
    let served = step-serves events answers g.key g.worker g.now seat old new w.store (draws_in w) (seat_step g seat w) course laws small word grown some few made begun in
    (served.0, subst (λ (x : SeatWorld). DrewNext x served.0 (seat_step g seat w).world) (sym is) served.1, served.2)

pub returns-clause-gone : goal.returns-clause-gone
unfolding stage_gone
returns-clause-gone c = λ key boot since now course seat st i is h.
    let history : List Event = history_in boot since in
    let So : List Item → Shepherd ActionCall → Type 0 = λ items s.
    Standing course.fed h.heads course.written items s × Answering key history h.heads course.written items s × (ItemsStand key boot.start now course history h.heads course.drawn items s × HasReported course.reports items s.stage) in
    let laws : GoneLaws So = record {
      given_up = λ items s so. (
        c.connections_stand_with_their_requests.ensures.given_up course.fed h.heads course.written items s so.0,
        c.connections_answer_their_requests.ensures.given_up key history h.heads course.written items s so.1,
        (
          (c.items_go_back_to_their_requests.ensures.given_up (service_of key boot) boot.start history h.heads course.drawn course.opened.0 now.0 items s so.2.0.0, c.items_are_held_in_order.ensures.given_up course.behind history items s so.2.0.1),
          has-still course.reports items s.stage (dropped_stage s.stage) (given-up-reports s.stage) so.2.1,
        ),
      );
      given_back = λ items s stage windows after back left answered so. (
        c.connections_stand_with_their_requests.ensures.given_back course.fed h.heads course.written items s stage windows after back so.0,
        c.connections_answer_their_requests.ensures.given_back key history h.heads course.written items s stage windows after back left answered so.1,
        (
          (c.items_go_back_to_their_requests.ensures.given_back (service_of key boot) boot.start history h.heads course.drawn course.opened.0 now.0 items s stage windows after back left so.2.0.0, c.items_are_held_in_order.ensures.given_back course.behind history items s stage windows after back so.2.0.1),
          has-still course.reports items s.stage stage (given-back-reports s.stage stage windows after back) so.2.1,
        ),
      );
      item = λ items i s stage has takes so. (
        c.connections_stand.ensures.item course.fed h.heads course.written items i s stage takes so.0,
        c.connections_answer_their_requests.ensures.item key history h.heads course.written items i s stage has takes so.1,
        (
          (c.items_go_back_to_their_requests.ensures.item (service_of key boot) boot.start history h.heads course.drawn course.opened.0 now.0 items i s stage has takes so.2.0.0, c.items_are_held_in_order.ensures.item course.behind history items i s stage takes so.2.0.1),
          taken-reports course.reports items i s.stage stage takes so.2.1,
        ),
      );
    } in
    let gone = gone-so So laws c.ways_have_answers.ensures.write_memory st.windows course.items seat.connection i is h.answers.hears (h.answers.stands, h.answers.answers, ((h.attributes, h.holds), h.reported)) in (
      gone.0,
      record {
        heads = h.heads;
        answers = record { stands = gone.2.0; answers = gone.2.1; hears = gone.1 };
        attributes = gone.2.2.0.0;
        holds = gone.2.2.0.1;
        reported = gone.2.2.1;
      },
    )

pub returns-clause-left : goal.returns-clause-left
unfolding stage_gone
returns-clause-left c = λ seat st v call is left. left-item seat.connection.stage v call is left

pub returns-clause-means : goal.returns-clause-means
returns-clause-means c = λ key boot since now course s h. (
  h.heads,
  λ more. (c.seats_answer_their_requests.ensures.means key (history_in boot since) course.fed more h.heads course.written course.items s h.answers).0,
  (c.seats_answer_their_requests.ensures.means key (history_in boot since) course.fed [] h.heads course.written course.items s h.answers).1,
  c.items_tell_what_was_served.ensures.served (service_of key boot) boot.start (history_in boot since) h.heads course.drawn course.opened.0 now.0 course.items s h.attributes,
  h.reported,
)
