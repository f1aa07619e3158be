use Rattle.std.proofs.Common.{◌⊎◌, ◌∙◌, arith, ◌≡◌, ℕ, inl, inr, true, List, [], ◌++◌, All, refl, sym, ap, subst}
use Rattle.std.proofs.lemmas.List.{append_cancel_left}
use Rattle.std.proofs.lemmas.List.Elements.{All-weaker}
use Rattle.container_core.specs.declared.history.Event.{Event}
use Rattle.http_wire.specs.Requests.{requests}
use Rattle.http_wire.specs.declared.taken.Head.{Head}
use Rattle.outcome_items.specs.declared.item.Item.{Item}
use Rattle.request_visit.proofs.Standing.{item_stands}
use Rattle.send_windows.specs.declared.history.WindowMark.{WindowMark}
use Rattle.served_items.specs.Attributing.{WasTakenIn}
use Rattle.served_items.specs.Served.{IsServedFor, ServedItem}
use Rattle.served_items.proofs.Serving.{served as all_served}
use Rattle.shepherd.specs.Accounting.{IsAccountedFor, trace_in, traces_in}
use Rattle.shepherd.specs.Answering.{AreResponses}
use Rattle.shepherd.specs.Standing.{coming}
use Rattle.served_connections.specs.Heard.{HeardIn}
use Rattle.served_connections.specs.Resting.{Rests, last_at}
use Rattle.shepherd.specs.declared.shepherd.EndKind.TheVariants as ends
use Rattle.served_connections.specs.Findings.{AreFoundFor}
use Rattle.served_connections.specs.Full.{full_in}
use Rattle.served_connections.specs.Spent.{spent_in}
use Rattle.served_connections.specs.Stopping.{IsUnsent}
use Rattle.served_connections.specs.Telling.{HasAddedMore, HasServedWhole, TellsHolds}
use Rattle.served_connections.proofs.Adding.{came_last, stage_added}
use Rattle.served_connections.proofs.Heard.{called_among, item_among}
use Rattle.served_connections.proofs.Leaving.{by_cases, is_end, unended, unsent_without_item}
use Rattle.served_connections.proofs.Resting.{bytes_remember, is_rest, rests_at}
use Rattle.served_connections.proofs.Findings.{told_found_for}
use Rattle.served_connections.proofs.Full.{full_elsewhere}
use Rattle.served_connections.proofs.Spent.{spent_elsewhere}
use Rattle.served_connections.proofs.Told.{all_came, all_items, all_taken, last_or_refused, last_ended, marks_spent, says_rest, says_unsent, tells_holds, tells_rest}
use Rattle.served_connections.proofs.telling.courses_tell_what_was_served.Goals as goal

pub returns-clause-rested : goal.returns-clause-rested
returns-clause-rested g c = λ service start begun history counts now course s rests h.
    let responses = c.responses_are_to_their_items.ensures service.key history h.heads course.written course.items s h.answers in
    let said = says_rest service.key history responses.0 responses.1 s.stage rests responses.3 in
    let added = c.items_tell_what_was_added.ensures start history course.own course.marks course.items s h.accounts in
    let told = tells_rest g.P.Program.asks start history added.0 added.1 s.stage rests added.3 in
    let linked = item_among g.P.Program.asks (HeardIn course.heard) g.L.Link.makes (called_among g.L.Link.makes course.heard h.called) (g.M.ProgramMaker.makes service.maker) (WasTakenIn g.R.Random.gives g.S.Serials.looks service.key service.home) start history in
    let served = all_served g.P.Program.asks (HeardIn course.heard) g.M.ProgramMaker.makes g.R.Random.gives g.S.Serials.looks c.requests_account_for_their_events.ensures.item (λ first before v i is item_is so. item_stands (HeardIn course.heard) first before v i is item_is so) service start history h.heads course.drawn begun.moment now course.items s h.attributes in
    record {
      heads = h.heads;
      requests_are = λ more. (coming s.stage (s.received ++ more), c.items_are_for_requests_in_order.ensures.taken course.fed more h.heads course.written course.items s h.stands);
      responses = subst (λ (opened : List Head). AreResponses service.key history h.heads course.written course.items opened (last_at s.stage)) said.0
          (subst (λ (last : List ℕ). AreResponses service.key history h.heads course.written course.items responses.0 last) said.1 responses.2);
      accounted = subst (λ (own : List Event). IsAccountedFor start history course.own course.marks course.items own []) told.0
          (subst (λ (marks : List WindowMark). IsAccountedFor start history course.own course.marks course.items added.0 marks) told.1 added.2);
      served = served;
      hold_on = h.holds.hold_on;
      begin = h.begin.each;
      looked = subst (λ (opened : List Head). AreFoundFor spent_in course.looked course.items opened) said.0
          (told_found_for spent_in spent_elsewhere service.key history responses.0 responses.1 course.looked course.items s.stage responses.3 h.finds);
      full = subst (λ (opened : List Head). AreFoundFor full_in course.full course.items opened) said.0
          (told_found_for full_in full_elsewhere service.key history responses.0 responses.1 course.full course.items s.stage responses.3 h.full);
      within = h.holds.within;
      holds = subst (λ (items : List Item). All (TellsHolds history) items) (sym served.items_are)
          (all_items (TellsHolds history) served.served
          (All-weaker (λ (x : ServedItem). IsServedFor g.P.Program.asks (HeardIn course.heard) g.M.ProgramMaker.makes g.R.Random.gives g.S.Serials.looks service start history x.taken x.item) (λ (x : ServedItem). TellsHolds history x.item)
          (λ x told. tells_holds start history told.errand told.facts (trace_in history x.item) x.item told.became
          (c.items_tell_what_was_served.ensures.unheld service start history x.taken x.item (linked x.taken x.item told))
          (λ place named. let there = c.items_tell_what_was_served.ensures.entry service start history x.taken x.item place (linked x.taken x.item told) named in (there.0, there.1)))
          served.served served.each));
      called = h.called;
      count_on = h.counted.count_on;
      follow = h.follow;
      keep = h.keep;
    }

pub returns-clause-ended : goal.returns-clause-ended
unfolding returns-clause-rested
returns-clause-ended g c = λ service start begun history counts now course s end is h.
    let rests : Rests s.stage = rests_at s h.remembers (ap is_rest is) in
    let rested = returns-clause-rested g c service start begun history counts now course s rests h in
    record {
      whole = record {
        heads = h.heads;
        requests_are = rested.requests_are;
        responses = subst (λ (last : List ℕ). AreResponses service.key history h.heads course.written course.items [] last) (last_ended s end rests h.remembers is) rested.responses;
        accounted = rested.accounted;
        served = rested.served;
        hold_on = rested.hold_on;
        begin = rested.begin;
        looked = rested.looked;
        full = rested.full;
        within = rested.within;
        holds = rested.holds;
        called = rested.called;
        count_on = rested.count_on;
        follow = rested.follow;
        keep = rested.keep;
      };
      all = all_taken course.fed h.heads course.written course.items s end rests h.remembers is
          (λ other. c.items_are_for_requests_in_order.ensures.all course.fed h.heads course.written course.items s end is other h.stands) h.stands;
    }

pub returns-clause-waits : goal.returns-clause-waits
unfolding returns-clause-rested
returns-clause-waits g c = λ service start begun history counts now course s is h.
    let rested = returns-clause-rested g c service start begun history counts now course s (rests_at s (bytes_remember s is) (ap is_rest is)) h in
    let all : (requests course.fed).heads ≡ rested.heads =
    all_came course.fed h.heads course.written course.items s is (λ end ends other over. c.items_are_for_requests_in_order.ensures.all course.fed h.heads course.written course.items (record s { ended = true }) end ends other over) h.stands in
    let there =
    subst (λ (last : List ℕ). (whole : HasServedWhole g.P.Program.asks g.L.Link.makes g.M.ProgramMaker.makes g.R.Random.gives g.S.Serials.looks service start begun history now course last) × ((requests course.fed).heads ≡ whole.heads))
    (unended s (ap is_end is)) (rested, all) in
    record { whole = there.0; all = there.1 }

pub returns-clause-behind : goal.returns-clause-behind
returns-clause-behind g c = λ service start begun history counts now course s rests h.
    by_cases (last_or_refused s rests h.remembers)
    (λ none. inl (subst (λ (last : List ℕ). HasServedWhole g.P.Program.asks g.L.Link.makes g.M.ProgramMaker.makes g.R.Random.gives g.S.Serials.looks service start begun history now course last) none
    (returns-clause-rested g c service start begun history counts now course s rests h)))
    (λ refused. inr (refused.0, returns-clause-ended g c service start begun history counts now course s (ends.Refused refused.0) refused.1 h))

pub returns-clause-stopped : goal.returns-clause-stopped
returns-clause-stopped g c = λ service start begun history counts now course s holds none h.
    let was = h.served in
    let unsent : IsUnsent h.was.stage = by_cases h.open_so (λ both. both.0) (λ same. subst IsUnsent same.stage_is (unsent_without_item s.stage holds none)) in
    let responses = c.responses_are_to_their_items.ensures service.key history was.heads course.written course.items h.was was.answers in
    let said : responses.1 ≡ [] = says_unsent service.key history responses.0 responses.1 h.was.stage h.unended unsent responses.3 in
    let then = c.items_tell_what_was_added.ensures start history course.own h.before course.items h.was was.accounts in
    let added = c.stopped_connections_account_for_what_they_left.ensures.told start history course.own course.marks course.items s h.stopped in
    let linked = item_among g.P.Program.asks (HeardIn course.heard) g.L.Link.makes (called_among g.L.Link.makes course.heard was.called) (g.M.ProgramMaker.makes service.maker) (WasTakenIn g.R.Random.gives g.S.Serials.looks service.key service.home) start history in
    let served = all_served g.P.Program.asks (HeardIn course.heard) g.M.ProgramMaker.makes g.R.Random.gives g.S.Serials.looks c.requests_account_for_their_events.ensures.item (λ first before v i is item_is so. item_stands (HeardIn course.heard) first before v i is item_is so) service start history was.heads course.drawn begun.moment now course.items h.was was.attributes in
    record {
      opened = responses.0;
      open_own = added.0;
      open_marks = added.1;
      served = record {
        heads = was.heads;
        requests_are = λ more. (coming h.was.stage (h.was.received ++ more), c.items_are_for_requests_in_order.ensures.taken course.fed more was.heads course.written course.items h.was was.stands);
        responses = subst (λ (last : List ℕ). AreResponses service.key history was.heads course.written course.items responses.0 last) said responses.2;
        accounted = added.2;
        served = served;
        hold_on = was.holds.hold_on;
        begin = was.begin.each;
        looked = told_found_for spent_in spent_elsewhere service.key history responses.0 responses.1 course.looked course.items h.was.stage responses.3 was.finds;
        full = told_found_for full_in full_elsewhere service.key history responses.0 responses.1 course.full course.items h.was.stage responses.3 was.full;
        within = was.holds.within;
        holds = subst (λ (items : List Item). All (TellsHolds history) items) (sym served.items_are)
            (all_items (TellsHolds history) served.served
            (All-weaker (λ (x : ServedItem). IsServedFor g.P.Program.asks (HeardIn course.heard) g.M.ProgramMaker.makes g.R.Random.gives g.S.Serials.looks service start history x.taken x.item) (λ (x : ServedItem). TellsHolds history x.item)
            (λ x told. tells_holds start history told.errand told.facts (trace_in history x.item) x.item told.became
            (c.items_tell_what_was_served.ensures.unheld service start history x.taken x.item (linked x.taken x.item told))
            (λ place named. let there = c.items_tell_what_was_served.ensures.entry service start history x.taken x.item place (linked x.taken x.item told) named in (there.0, there.1)))
            served.served served.each));
        called = was.called;
        count_on = was.counted.count_on;
        follow = was.follow;
        keep = was.keep;
      };
      few = added.3;
      more =
          subst (λ (own : List Event). (own ≡ []) ⊎ HasAddedMore g.P.Program.asks (HeardIn course.heard) (g.M.ProgramMaker.makes service.maker) (WasTakenIn g.R.Random.gives g.S.Serials.looks service.key service.home) start history responses.0 course.drawn own)
          (append_cancel_left (traces_in history course.items) then.0 added.0 (sym then.2.events ∙ added.2.events))
          (stage_added g.P.Program.asks (HeardIn course.heard) (g.M.ProgramMaker.makes service.maker) (WasTakenIn g.R.Random.gives g.S.Serials.looks service.key service.home) start history then.0 then.1 was.attributes.opened
          responses.0 course.drawn h.was.stage
          (came_last service.key history was.heads course.drawn course.written course.items responses.0 responses.1 was.attributes.served was.attributes.opened responses.2 was.attributes.heads_are was.attributes.items_are was.attributes.drawn_are)
          then.3 was.attributes.is_open);
      of_one = added.4;
      spent = marks_spent added.1 s.stage holds added.5;
    }

pub returns-clause-nothing_more : goal.returns-clause-nothing_more
returns-clause-nothing_more g c = λ service start begun history now course whole. record {
  opened = [];
  open_own = [];
  open_marks = [];
  served = whole;
  few = omega arith;
  more = inl refl;
  of_one = inl refl;
  spent = λ taken. absurd (cc);
}
