-- What the response of a request says, step by step.
use Rattle.std.specs.Prelude.{option_map, option_and_then}
use Rattle.std.proofs.Common.{◌≡◌, ◌≢◌, ◌⊎◌, ◌≤◌, ℕ, Bool, List, [], ◌++◌, length, take, Option, Some, None, refl, sym, ap, ◌∙◌, subst, inl, inr, arith, length-append}
use Rattle.std.proofs.lemmas.List.{take-append-le}
use Rattle.crash_base.specs.declared.numbers.Place.{Place}
use Rattle.call_ticket.specs.declared.next.Answer.{Answer}
use Rattle.call_ticket.specs.declared.next.Next.{Next}
use Rattle.container_core.specs.Container.{ContainerValue, events_of}
use Rattle.container_core.specs.History.{entries_in}
use Rattle.container_core.specs.declared.history.Event.{Event}
use Rattle.http_wire.specs.declared.taken.Head.{Head}
use Rattle.journal_model.specs.declared.entry.Entry.{Entry}
use Rattle.send_windows.specs.Windows.{WindowsValue}
use Rattle.send_windows.specs.declared.fact.WindowFact.{WindowFact}
use Rattle.send_windows.specs.declared.history.WindowMark.{WindowMark}
use Rattle.session_cookie.specs.declared.cookie.Cookie.{Cookie}
use Rattle.session_way.specs.Way.{answer_held, settled, wants}
use Rattle.session_way.specs.Writing.{answer_of_write}
use Rattle.session_way.specs.declared.session_read.ReadOutcome.{ReadOutcome}
use Rattle.session_way.specs.declared.session_read.ReadOutcome.TheVariants as read
use Rattle.session_way.specs.declared.session_write.WriteOutcome.{WriteOutcome}
use Rattle.session_way.specs.declared.session_write.WriteOutcome.TheVariants as outcome
use Rattle.session_way.specs.declared.way.SessionWay.{SessionWay}
use Rattle.session_way.specs.declared.way.SessionWay.TheVariants as way
use Rattle.site_responses.specs.Responses.{response}
use Rattle.request_tries.specs.Ends.{MayEnd, done_at, done_of, page_of}
use Rattle.request_tries.specs.Serving.{TriesValue, errand_of}
use Rattle.site_responses.specs.declared.answer.SiteAnswer.{SiteAnswer}
use Rattle.request_tries.specs.declared.outcome.Ended.{Ended}
use Rattle.request_tries.specs.declared.outcome.RequestOutcome.{RequestOutcome}
use Rattle.request_tries.specs.declared.outcome.RequestOutcome.TheVariants.{Page, Sentinel, Hung, Raised, Revoked, Conflict, JournalFull, KeeperFailed}
use Rattle.outcome_items.specs.Answers.{IsPage, IsResponse, IsTextWhere, answer_of, is_head_only, shown_by_entry}
use Rattle.outcome_items.specs.declared.item.Item.{Item}
use Rattle.outcome_items.specs.declared.outcome.ItemOutcome.{ItemOutcome}
use Rattle.outcome_items.specs.declared.outcome.ItemOutcome.TheVariants as item
use Rattle.request_visit.specs.Advancing.{Advances, HearsReadOf, IsItemOf, IsShown, after_read, cookie_in}
use Rattle.request_visit.specs.Ready.{ready_by, ready_of, set_in, shown_by}
use Rattle.request_visit.specs.Says.{FateSays, RespondsSoFar, Says, SaysOf}
use Rattle.request_visit.specs.Serving.{closed_with, closing_of, holds_of}
use Rattle.request_visit.specs.Stepping.{ServesWork, VisitsInside, after_closing_if, left_so, shown_so}
use Rattle.request_visit.specs.declared.facts.VisitFacts.{VisitFacts}
use Rattle.request_visit.specs.declared.ready.Ready.{Ready}
use Rattle.request_visit.specs.declared.ready.Ready.TheVariants.{Respond, Write}
use Rattle.request_visit.specs.declared.ready.Shown.{Shown}
use Rattle.request_visit.specs.declared.serving.Closed.{Closed}
use Rattle.request_visit.specs.declared.serving.Closed.TheVariants as closes
use Rattle.request_visit.specs.declared.serving.Closing.{Closing}
use Rattle.request_visit.specs.declared.visit.Fate.{Fate}
use Rattle.request_visit.specs.declared.visit.Fate.TheVariants.{Known, Writing}
use Rattle.request_visit.specs.declared.visit.Visit.{Visit}
use Rattle.request_visit.specs.declared.visit.Work.{Work}
use Rattle.request_visit.specs.declared.visit.Work.TheVariants.{Reading, Opening, Serving, Committed, Decided, Answered, Left}
use Rattle.session_way.specs.Lease.{value_to_write}
use Rattle.session_way.specs.declared.lease.SessionLease.{SessionLease}
use Rattle.request_visit.proofs.Following.{responds, shows_entry}
use Rattle.request_visit.proofs.Marking.{Answers, HasOutcome, committed_given, cookie_told, none_told, over_nothing, read_wants, refused_settling, rests_wants, settling_wants, work_told}
use Rattle.request_visit.proofs.Turning.{own_windows, over_windows}
use Rattle.outside.specs.declared.link.LinkCounts.{LinkCounts}
use Rattle.send_windows.specs.declared.windows.TakeRefusal.TheVariants as refusal
use Rattle.session_way.specs.Way.{IsRefused, StepsWindows}
use Rattle.session_way.specs.declared.way.Wants.{Wants}
use Rattle.session_way.specs.declared.way.Wants.TheVariants as wanted
use Rattle.request_visit.specs.Marks.{IsSettling, Marks, MarksOf}
use Rattle.request_visit.specs.Stepping.{IsGivenBack, VisitsWindows, dropped}
use Rattle.request_visit.specs.Advancing.{after_leaving, departed, response_in}
use Rattle.request_visit.specs.Visits.{after_outcome, begun, or_over, overloaded, turn, turn_by}
use Rattle.request_visit.specs.declared.visit.Turn.TheVariants as turns

-- a journal's entries stay where a history grows
pub meanwhile_says : {P : Type 0} (key : List ℕ) (history more : List Event) (out : List ℕ) (v : Visit P) → Says key history out v → Says key (history ++ more) out v
meanwhile_says {P} key history more out v s = record {
  within = omega (arith, s.within, length-append history more);
  says = subst (λ (seen : List Event). SaysOf key (entries_in seen) v.facts v.cookie v.way out v.work) (sym (take-append-le v.holds.held history more s.within)) s.says;
}

-- what follows a page says what its entry does
ready_says : {P : Type 0} (key : List ℕ) (es : List Entry) (out : List ℕ) (v : Visit P) (place : Place) (again : Bool) (ready : Ready) (value : Option (List ℕ))
    → ready ≡ ready_by v.facts (done_at es place) value → v.cookie ≡ None
    → SaysOf key es (shown_so place again ready v).facts (shown_so place again ready v).cookie (shown_so place again ready v).way out (shown_so place again ready v).work
ready_says {P} key es out v place again (Respond bytes) value is none =
    let r = responds v.facts (done_at es place) value bytes (sym is) in
    record { text = None; text_is = subst (λ (c : Option Cookie). IsTextWhere key c None) (sym none) refl; bytes_are = r.1 }
ready_says key es out v place again (Write order shown) None is none = absurd (cc)
ready_says key es out v place again (Write order shown) (Some value) is none =
    let same : shown ≡ shown_by (done_at es place) = cc in
    (none, same)

-- a request that has left the container so
left_says : {P : Type 0} (key : List ℕ) (es : List Entry) (out : List ℕ) (v : Visit P) (lease : Option SessionLease) (end : RequestOutcome)
    → v.cookie ≡ None
    → SaysOf key es (left_so (closed_with (λ again. ready_of v.facts lease (option_and_then (done_at es) (page_of end))) end) v).facts
    (left_so (closed_with (λ again. ready_of v.facts lease (option_and_then (done_at es) (page_of end))) end) v).cookie
    (left_so (closed_with (λ again. ready_of v.facts lease (option_and_then (done_at es) (page_of end))) end) v).way out
    (left_so (closed_with (λ again. ready_of v.facts lease (option_and_then (done_at es) (page_of end))) end) v).work
left_says key es out v lease (Page place again) none =
    ready_says key es out v place again (ready_of v.facts lease (done_at es place)) (value_to_write (set_in (done_at es place)) v.facts.now lease) refl none
left_says key es out v lease (Sentinel group down) none = (none, λ p. p)
left_says key es out v lease (Hung component fault path) none = (none, λ p. p)
left_says key es out v lease (Raised component fault path) none = (none, λ p. p)
left_says key es out v lease (Revoked tries) none = (none, λ p. p)
left_says key es out v lease (Conflict tries) none = (none, λ p. p)
left_says key es out v lease (JournalFull full) none = (none, λ p. p)
left_says key es out v lease KeeperFailed none = (none, λ p. p)

end_says : {P : Type 0} (key : List ℕ) (out : List ℕ) (v : Visit P) (events : List Event) (e : Ended) (work : Work P)
    → v.cookie ≡ None → e.held ≤ length events
    → Says key events out (left_so (closed_with (λ again. ready_of v.facts v.lease (done_of events e)) e.outcome) (record v { work = work; holds = holds_of e }))
end_says key out v events e work none within =
    pick (closed_with (λ again. ready_of v.facts v.lease (done_of events e)) e.outcome)
    (left_says key (entries_in (take e.held events)) out (record v { work = work; holds = holds_of e }) v.lease e.outcome none) where
      pick : (c : Closed) → SaysOf key (entries_in (take e.held events)) (left_so c (record v { work = work; holds = holds_of e })).facts (left_so c (record v { work = work; holds = holds_of e })).cookie (left_so c (record v { work = work; holds = holds_of e })).way out (left_so c (record v { work = work; holds = holds_of e })).work
          → Says key events out (left_so c (record v { work = work; holds = holds_of e }))
      pick (closes.Page place again (Respond bytes)) s = record { within = within; says = s }
      pick (closes.Page place again (Write order shown)) s = record { within = within; says = s }
      pick (closes.Other became) s = record { within = within; says = s }

end_if_says : {P : Type 0} (key : List ℕ) (out : List ℕ) (v : Visit P) (events : List Event) (end : Option Ended) (work : Work P)
    → v.cookie ≡ None → SaysOf key (entries_in (take v.holds.held events)) v.facts v.cookie v.way out work → v.holds.held ≤ length events
    → ((e : Ended) → end ≡ Some e → e.held ≤ length events)
    → Says key events out (after_closing_if (option_map (closing_of v.facts v.lease events) end) (record v { work = work }))
end_if_says key out v events None work none goes within ends = record { within = within; says = goes }
end_if_says key out v events (Some e) work none goes within ends = end_says key out v events e work none (ends e refl)

-- a step in the container, by how far the request had come
serving_says : {P : Type 0} (key : List ℕ) (out : List ℕ) (asks : P → List Answer → Next) (old new : Visit P) (container after : ContainerValue) (closing : Option Closing) (before work : Work P) (es : List Entry)
    → ServesWork asks container old.facts old.lease before closing after work → new ≡ after_closing_if closing (record old { work = work })
    → SaysOf key es old.facts old.cookie old.way out before → old.holds.held ≤ length (events_of after) → Says key (events_of after) out new
serving_says key out asks old new container after closing Reading work es serves is_new s within = absurd serves
serving_says key out asks old new container after closing Opening work es serves is_new s within = absurd serves
serving_says {P} key out asks old new container after closing (Serving tries program) work es serves is_new s within =
    let by = serves.serves in
    let to : new ≡ after_closing_if (option_map (closing_of old.facts old.lease (events_of after)) by.end) (record old { work = work }) =
    is_new ∙ ap (λ (c : Option Closing). after_closing_if c (record old { work = work })) by.closing_is in
    let goes : SaysOf key (entries_in (take old.holds.held (events_of after))) old.facts old.cookie old.way out work =
    subst (λ (w : Work P). SaysOf key (entries_in (take old.holds.held (events_of after))) old.facts old.cookie old.way out w) (sym serves.work_is) s in
    subst (λ (v : Visit P). Says key (events_of after) out v) (sym to)
    (end_if_says key out old (events_of after) by.end work s goes within (λ e is. held_of by.end e is by.brings.ended)) where
      held_of : (end : Option Ended) (e : Ended) → end ≡ Some e → MayEnd after.boot.start (events_of after) (errand_of tries (asks program)) end → e.held ≤ length (events_of after)
      held_of None e is ends = absurd (cc)
      held_of (Some x) e is ends = let same : x ≡ e = cc in subst (λ (y : Ended). y.held ≤ length (events_of after)) same ends.held
serving_says key out asks old new container after closing (Committed place again shown) work es serves is_new s within = absurd serves
serving_says key out asks old new container after closing (Decided became) work es serves is_new s within = absurd serves
serving_says key out asks old new container after closing (Answered fate bytes) work es serves is_new s within = absurd serves
serving_says key out asks old new container after closing (Left fate) work es serves is_new s within = absurd serves

pub inside_says : {P : Type 0} (key : List ℕ) (out : List ℕ) (asks : P → List Answer → Next) (old new : Visit P) (container after : ContainerValue)
    → VisitsInside asks old container new after → length (events_of container) ≤ length (events_of after) → Says key (events_of container) out old → Says key (events_of after) out new
inside_says key out asks old new container after visits longer s =
    serving_says key out asks old new container after visits.closing old.work visits.work (entries_in (take old.holds.held (events_of container))) visits.serves visits.new_is s.says
    (omega (arith, s.within, longer))

-- a request that shows no page is answered the same, whatever its journal has
end_answers : (es : List Entry) (end : RequestOutcome) → (IsPage (item.Ended end) → ⊥)
    → answer_of None None (item.Ended end) ≡ answer_of (shown_by_entry es (item.Ended end)) None (item.Ended end)
end_answers es (Page place again) unshown = absurd (unshown tt)
end_answers es (Sentinel group down) unshown = refl
end_answers es (Hung component fault path) unshown = refl
end_answers es (Raised component fault path) unshown = refl
end_answers es (Revoked tries) unshown = refl
end_answers es (Conflict tries) unshown = refl
end_answers es (JournalFull full) unshown = refl
end_answers es KeeperFailed unshown = refl

answers_same : (es : List Entry) (became : ItemOutcome) → (IsPage became → ⊥) → answer_of None None became ≡ answer_of (shown_by_entry es became) None became
answers_same es (item.Refused why) unshown = refl
answers_same es (item.SerialsSpent seen) unshown = refl
answers_same es (item.Expired now expiry) unshown = refl
answers_same es (item.Lost causes) unshown = refl
answers_same es (item.Ended end) unshown = end_answers es end unshown
answers_same es (item.Overload place again full) unshown = refl
answers_same es (item.Missed place again causes) unshown = refl

-- what is said of a request that is this one
abbrev SaysAt : {P : Type 0} → List ℕ → List Event → List ℕ → Visit P → Type 0
SaysAt key history out v = SaysOf key (entries_in (take v.holds.held history)) v.facts v.cookie v.way out v.work

after_read_says : {P : Type 0} (key : List ℕ) (history : List Event) (out : List ℕ) (told : ReadOutcome) (v : Visit P) → v.cookie ≡ None → SaysAt key history out (after_read told v)
after_read_says key history out (read.Found lease) v none = none
after_read_says key history out (read.Expired now expiry) v none = (none, λ p. p)
after_read_says key history out (read.Lost causes) v none = (none, λ p. p)

held_after_read : {P : Type 0} (told : ReadOutcome) (v : Visit P) → (after_read told v).holds.held ≡ v.holds.held
held_after_read (read.Found lease) v = refl
held_after_read (read.Expired now expiry) v = refl
held_after_read (read.Lost causes) v = refl

hear_says : {P : Type 0} (key : List ℕ) (history : List Event) (out : List ℕ) (old new : Visit P) (w : SessionWay) → HearsReadOf w old new → old.cookie ≡ None → old.holds.held ≤ length history → Says key history out new
hear_says {P} key history out old new (way.Reading r) hears none within =
    subst (λ (v : Visit P). Says key history out v) (sym hears.new_is)
    (record { within = subst (λ (n : ℕ). n ≤ length history) (sym (held_after_read hears.outcome old)) within; says = after_read_says key history out hears.outcome old none })
hear_says {P} key history out old new way.Resting hears none within = subst (λ (v : Visit P). Says key history out v) (sym hears) (record { within = within; says = none })
hear_says {P} key history out old new (way.Ordered order) hears none within = subst (λ (v : Visit P). Says key history out v) (sym hears) (record { within = within; says = none })
hear_says {P} key history out old new (way.Writing x) hears none within = subst (λ (v : Visit P). Says key history out v) (sym hears) (record { within = within; says = none })
hear_says {P} key history out old new (way.Settling x) hears none within = subst (λ (v : Visit P). Says key history out v) (sym hears) (record { within = within; says = none })
hear_says {P} key history out old new (way.Holding passes) hears none within = subst (λ (v : Visit P). Says key history out v) (sym hears) (record { within = within; says = none })

itself_says : {P : Type 0} (key : List ℕ) (history : List Event) (out : List ℕ) (old new : Visit P) (work : Work P)
    → old.work ≡ work → Advances key old work new → old.holds.held ≤ length history
    → SaysOf key (entries_in (take old.holds.held history)) old.facts old.cookie old.way out work → Says key history out new
itself_says key history out old new Reading is advances within s = hear_says key history out old new old.way advances s within
itself_says {P} key history out old new Opening is advances within s =
    subst (λ (v : Visit P). Says key history out v) (sym advances) (record { within = within; says = subst (λ (w : Work P). SaysOf key (entries_in (take old.holds.held history)) old.facts old.cookie old.way out w) (sym is) s })
itself_says {P} key history out old new (Serving tries program) is advances within s =
    subst (λ (v : Visit P). Says key history out v) (sym advances) (record { within = within; says = subst (λ (w : Work P). SaysOf key (entries_in (take old.holds.held history)) old.facts old.cookie old.way out w) (sym is) s })
itself_says {P} key history out old new (Committed place again shown) is advances within s =
    subst (λ (v : Visit P). Says key history out v) (sym advances.new_is)
    (record {
      within = within;
      says = record {
        no_cookie = s.0;
        is_shown = subst (λ (x : Shown). IsShown key old.facts x (cookie_in (answer_held old.way)) advances.bytes) s.1 advances.is_shown;
      };
    })
itself_says {P} key history out old new (Decided became) is advances within s =
    let es : List Entry = entries_in (take old.holds.held history) in
    subst (λ (v : Visit P). Says key history out v) (sym advances)
    (record {
      within = within;
      says = record {
        text = None;
        text_is = subst (λ (c : Option Cookie). IsTextWhere key c None) (sym s.0) refl;
        bytes_are = ap (λ (a : SiteAnswer). response a old.facts.close old.facts.head_only) (answers_same es became s.1);
      };
    })
itself_says {P} key history out old new (Answered fate bytes) is advances within s =
    subst (λ (v : Visit P). Says key history out v) (sym advances) (record { within = within; says = subst (λ (w : Work P). SaysOf key (entries_in (take old.holds.held history)) old.facts old.cookie old.way out w) (sym is) s })
itself_says {P} key history out old new (Left fate) is advances within s =
    subst (λ (v : Visit P). Says key history out v) (sym advances) (record { within = within; says = subst (λ (w : Work P). SaysOf key (entries_in (take old.holds.held history)) old.facts old.cookie old.way out w) (sym is) s })

pub advance_says : {P : Type 0} (key : List ℕ) (history : List Event) (out : List ℕ) (old new : Visit P)
    → Advances key old old.work new → Says key history out old → Says key history out new
advance_says key history out old new advances s = itself_says key history out old new old.work refl advances s.within s.says

-- what its write came to is what the response says
spent_says : (P : Type 0) (key : List ℕ) (es : List Entry) (facts : VisitFacts) (cookie : Option Cookie) (w after : SessionWay) (out : List ℕ) (told : Option WriteOutcome) (place : Place) (again : Bool)
    → RespondsSoFar key es facts cookie w place again out → option_map answer_of_write told ≡ answer_held w → answer_held w ≢ None
    → SaysOf {P = P} key es facts (cookie_told told cookie) after out (work_told told (Left (Writing place again)))
spent_says P key es facts cookie w after out None place again s is some = absurd (some (sym is))
spent_says P key es facts cookie w after out (Some (outcome.Written given)) place again s is some =
    let Shows : Option Cookie → Type 0 = λ c. IsShown key facts (shown_by (done_at es place)) c out in
    let shown : Shows (Some given) = subst Shows (sym (ap cookie_in is)) s.is_shown in
    record { text = Some shown.0; text_is = shown.1; bytes_are = shown.2 ∙ shows_entry facts (done_at es place) shown.0 }
spent_says P key es facts cookie w after out (Some (outcome.Missed causes)) place again s is some =
    let Shows : Option Cookie → Type 0 = λ c. IsShown key facts (shown_by (done_at es place)) c out in
    let shown : Shows None = subst Shows (sym (ap cookie_in is)) s.is_shown in
    record { text = None; text_is = subst (λ (c : Option Cookie). IsTextWhere key c None) (sym s.no_cookie) refl; bytes_are = shown }

-- a write that is settled and wants the windows has its answer
settled_answer : (law : Answers) (w : SessionWay) → IsSettling w → wants w ≡ wanted.Windows → answer_held w ≢ None
settled_answer law way.Resting s e = absurd s
settled_answer law (way.Reading r) s e = absurd s
settled_answer law (way.Ordered order) s e = absurd s
settled_answer law (way.Writing v) s e = absurd s
settled_answer law (way.Settling v) s e = law v e
settled_answer law (way.Holding passes) s e = absurd s

given_says : {P : Type 0} (law : Answers) (key : List ℕ) (es : List Entry) (facts : VisitFacts) (cookie : Option Cookie) (w after : SessionWay) (windows later : WindowsValue) (marks : List WindowMark) (out : List ℕ) (told : Option WriteOutcome) (work : Work P)
    → turn_by work (wants w) ≡ turns.Windows → MarksOf marks cookie w work → StepsWindows w windows after later → option_map answer_of_write told ≡ answer_held w
    → SaysOf key es facts cookie w out work → SaysOf key es facts (cookie_told told cookie) after out (work_told told work)
given_says law key es facts cookie w after windows later marks out told Reading turned m step is s = absurd (read_wants w m.2 (own_windows (wants w) turned))
given_says law key es facts cookie w after windows later marks out told Opening turned m step is s = absurd (cc)
given_says law key es facts cookie w after windows later marks out told (Serving tries program) turned m step is s = absurd (cc)
given_says {P} law key es facts cookie w after windows later marks out told (Committed place again shown) turned m step is s =
    let h = committed_given marks cookie w after windows later told m.1 (own_windows (wants w) turned) m.0 step is in
    let So : Option WriteOutcome → Type 0 = λ t. SaysOf {P = P} key es facts (cookie_told t cookie) after out (work_told t (Committed place again shown)) in
    subst So (sym h.0) s
given_says law key es facts cookie w after windows later marks out told (Decided became) turned m step is s = absurd (cc)
given_says law key es facts cookie w after windows later marks out told (Answered fate bytes) turned m step is s = absurd (cc)
given_says law key es facts cookie w after windows later marks out told (Left (Known became)) turned m step is s = absurd (rests_wants w m.rests (over_windows (wants w) turned))
given_says {P} law key es facts cookie w after windows later marks out told (Left (Writing place again)) turned m step is s =
    spent_says P key es facts cookie w after out told place again s is (settled_answer law w m.held_so (over_windows (wants w) turned))

told_says : {P : Type 0} (key : List ℕ) (history : List Event) (out : List ℕ) (told : Option WriteOutcome) (v : Visit P) → v.holds.held ≤ length history
    → SaysOf key (entries_in (take v.holds.held history)) v.facts (cookie_told told v.cookie) v.way out (work_told told v.work) → Says key history out (after_outcome told v)
told_says key history out None v within s = record { within = within; says = s }
told_says key history out (Some (outcome.Written given)) v within s = record { within = within; says = s }
told_says key history out (Some (outcome.Missed causes)) v within s = record { within = within; says = s }

full_says : {P : Type 0} (key : List ℕ) (es : List Entry) (facts : VisitFacts) (cookie : Option Cookie) (w after : SessionWay) (windows later : WindowsValue) (marks : List WindowMark) (full : List WindowFact) (out : List ℕ) (work : Work P)
    → turn_by work (wants w) ≡ turns.Windows → MarksOf marks cookie w work → IsRefused w windows after later (refusal.Overload full)
    → SaysOf key es facts cookie w out work → SaysOf key es facts cookie after out (overloaded full work)
full_says key es facts cookie w after windows later marks full out Reading turned m r s = s
full_says key es facts cookie w after windows later marks full out Opening turned m r s = s
full_says key es facts cookie w after windows later marks full out (Serving tries program) turned m r s = s
full_says key es facts cookie w after windows later marks full out (Committed place again shown) turned m r s = (s.0, λ p. p)
full_says key es facts cookie w after windows later marks full out (Decided became) turned m r s = s
full_says key es facts cookie w after windows later marks full out (Answered fate bytes) turned m r s = absurd (cc)
full_says key es facts cookie w after windows later marks full out (Left (Known became)) turned m r s = s
full_says key es facts cookie w after windows later marks full out (Left (Writing place again)) turned m r s = absurd (refused_settling w after windows later full m.held_so r)

pub windows_says : {P : Type 0} (law : Answers) (key : List ℕ) (history : List Event) (out : List ℕ) (marks : List WindowMark) (old new : Visit P) (windows after : WindowsValue)
    → turn old ≡ turns.Windows → VisitsWindows old windows new after → Marks marks old → Says key history out old → Says key history out new
windows_says {P} law key history out marks old new windows after turned visits m s =
    elim visits [
      | inl given ↦ subst (λ (v : Visit P). Says key history out v) (sym given.new_is)
          (told_says key history out given.outcome (record old { way = new.way }) s.within
          (given_says law key (entries_in (take old.holds.held history)) old.facts old.cookie old.way new.way windows after marks out given.outcome old.work turned m given.step given.is_outcome s.says))
      | inr refused ↦ subst (λ (v : Visit P). Says key history out v) (sym refused.new_is)
          (record { within = s.within; says = full_says key (entries_in (take old.holds.held history)) old.facts old.cookie old.way new.way windows after marks refused.full out old.work turned m refused.refused s.says })
    ]

-- a write that is settled holds its answer
settled_keeps : (w : SessionWay) → answer_held (settled w) ≡ answer_held w
settled_keeps way.Resting = refl
settled_keeps (way.Reading r) = refl
settled_keeps (way.Ordered order) = refl
settled_keeps (way.Writing v) = refl
settled_keeps (way.Settling v) = refl
settled_keeps (way.Holding passes) = refl

other_way : (key : List ℕ) (es : List Entry) (facts : VisitFacts) (cookie : Option Cookie) (w after : SessionWay) (out : List ℕ) (fate : Fate)
    → cookie_in (answer_held after) ≡ cookie_in (answer_held w) → FateSays key es facts cookie w out fate → FateSays key es facts cookie after out fate
other_way key es facts cookie w after out (Known became) same s = s
other_way key es facts cookie w after out (Writing place again) same s =
    record { no_cookie = s.no_cookie; is_shown = subst (λ (c : Option Cookie). IsShown key facts (shown_by (done_at es place)) c out) (sym same) s.is_shown }

outside_of : {P : Type 0} (key : List ℕ) (es : List Entry) (facts : VisitFacts) (cookie : Option Cookie) (w after : SessionWay) (out : List ℕ) (work : Work P)
    → turn_by work (wants w) ≡ turns.Outside → ((fate : Fate) → work ≡ Left fate → cookie_in (answer_held after) ≡ cookie_in (answer_held w))
    → SaysOf key es facts cookie w out work → SaysOf key es facts cookie after out work
outside_of key es facts cookie w after out Reading turned same s = s
outside_of key es facts cookie w after out Opening turned same s = s
outside_of key es facts cookie w after out (Serving tries program) turned same s = s
outside_of key es facts cookie w after out (Committed place again shown) turned same s = s
outside_of key es facts cookie w after out (Decided became) turned same s = s
outside_of key es facts cookie w after out (Answered fate bytes) turned same s = absurd (cc)
outside_of {P} key es facts cookie w after out (Left fate) turned same s = other_way key es facts cookie w after out fate (same fate refl) s

pub outside_says : {P : Type 0} (key : List ℕ) (history : List Event) (out : List ℕ) (v : Visit P) (after : SessionWay) (counts : LinkCounts)
    → turn v ≡ turns.Outside → ((fate : Fate) → v.work ≡ Left fate → cookie_in (answer_held after) ≡ cookie_in (answer_held v.way))
    → Says key history out v → Says key history out (record v { way = after; counts = counts })
outside_says key history out v after counts turned same s =
    record { within = s.within; says = outside_of key (entries_in (take v.holds.held history)) v.facts v.cookie v.way after out v.work turned same s.says }

leave_of : {P : Type 0} (key : List ℕ) (es : List Entry) (facts : VisitFacts) (cookie : Option Cookie) (w : SessionWay) (out : List ℕ) (work : Work P)
    → turn_by work (wants w) ≡ turns.Output → SaysOf key es facts cookie w out work → SaysOf key es facts cookie (settled w) (response_in work) (departed work)
leave_of key es facts cookie w out Reading turned s = s
leave_of key es facts cookie w out Opening turned s = s
leave_of key es facts cookie w out (Serving tries program) turned s = s
leave_of key es facts cookie w out (Committed place again shown) turned s = s
leave_of key es facts cookie w out (Decided became) turned s = s
leave_of {P} key es facts cookie w out (Answered fate bytes) turned s = other_way key es facts cookie w (settled w) bytes fate (ap cookie_in (settled_keeps w)) s
leave_of key es facts cookie w out (Left fate) turned s = absurd (no_output (wants w) turned) where
  no_output : (x : Wants) → or_over x ≡ turns.Output → ⊥
  no_output wanted.Nothing e = cc
  no_output wanted.Outside e = cc
  no_output wanted.Windows e = cc

pub leave_says : {P : Type 0} (key : List ℕ) (history : List Event) (out : List ℕ) (v : Visit P) → turn v ≡ turns.Output → Says key history out v → Says key history (response_in v.work) (after_leaving v)
leave_says key history out v turned s =
    record { within = s.within; says = leave_of key (entries_in (take v.holds.held history)) v.facts v.cookie v.way out v.work turned s.says }

item_of_work : {P : Type 0} (key : List ℕ) (history : List Event) (out : List ℕ) (marks : List WindowMark) (v : Visit P) (work : Work P) (i : Item) (head : Head)
    → turn_by work (wants v.way) ≡ turns.Over → IsItemOf v work i → MarksOf marks v.cookie v.way work → v.facts.close ≡ head.close → v.facts.head_only ≡ is_head_only head.method
    → SaysOf key (entries_in (take v.holds.held history)) v.facts v.cookie v.way out work → IsResponse key (entries_in (take i.holds.held history)) i head out
item_of_work key history out marks v Reading i head turned is m close only s = absurd is
item_of_work key history out marks v Opening i head turned is m close only s = absurd is
item_of_work key history out marks v (Serving tries program) i head turned is m close only s = absurd is
item_of_work key history out marks v (Committed place again shown) i head turned is m close only s = absurd is
item_of_work key history out marks v (Decided became) i head turned is m close only s = absurd is
item_of_work key history out marks v (Answered fate bytes) i head turned is m close only s = absurd is
item_of_work key history out marks v (Left (Known became)) i head turned is m close only s =
    let es : List Entry = entries_in (take v.holds.held history) in
    subst (λ (x : Item). IsResponse key (entries_in (take x.holds.held history)) x head out) (sym is)
    (record {
      text = s.text;
      text_is = s.text_is;
      bytes_are = s.bytes_are ∙ ap (λ (b : Bool). response (answer_of (shown_by_entry es became) s.text became) b v.facts.head_only) close
          ∙ ap (λ (b : Bool). response (answer_of (shown_by_entry es became) s.text became) head.close b) only;
    })
item_of_work key history out marks v (Left (Writing place again)) i head turned is m close only s = absurd (settling_wants v.way m.held_so (over_nothing (wants v.way) turned))

pub item_says : {P : Type 0} (key : List ℕ) (history : List Event) (out : List ℕ) (marks : List WindowMark) (v : Visit P) (i : Item) (head : Head)
    → turn v ≡ turns.Over → IsItemOf v v.work i → Marks marks v → v.facts.close ≡ head.close → v.facts.head_only ≡ is_head_only head.method
    → Says key history out v → IsResponse key (entries_in (take i.holds.held history)) i head out
item_says key history out marks v i head turned is m close only s = item_of_work key history out marks v v.work i head turned is m close only s.says

-- a request that begins says nothing yet
begun_says : {P : Type 0} (key : List ℕ) (history : List Event) (facts : VisitFacts) (counts : LinkCounts) (w : SessionWay) (work : Work P)
    → SaysOf key (entries_in []) facts None w [] work → Says key history [] (begun facts counts w work)
begun_says key history facts counts w work s = record { within = omega arith; says = s }

pub same_says : {P : Type 0} (key : List ℕ) (history : List Event) (facts : VisitFacts) (counts : LinkCounts) (w : SessionWay) (work : Work P) (v : Visit P)
    → v ≡ begun facts counts w work → SaysOf key (entries_in []) facts None w [] work → Says key history [] v
same_says {P} key history facts counts w work v is s = subst (λ (x : Visit P). Says key history [] x) (sym is) (begun_says key history facts counts w work s)

pub either_says : {P : Type 0} (key : List ℕ) (history : List Event) (facts : VisitFacts) (counts : LinkCounts) (w : SessionWay) (v : Visit P)
    → ((v ≡ begun facts counts w Reading) ⊎ (v ≡ begun facts counts w Opening)) → Says key history [] v
either_says key history facts counts w v (inl is) = same_says key history facts counts w Reading v is refl
either_says key history facts counts w v (inr is) = same_says key history facts counts w Opening v is refl

pub opened_says : {P : Type 0} (key : List ℕ) (history : List Event) (out : List ℕ) (v : Visit P) (tries : TriesValue) (program : P)
    → v.work ≡ Opening → Says key history out v → Says key history out (record v { work = Serving tries program })
opened_says {P} key history out v tries program is s =
    record { within = s.within; says = subst (λ (w : Work P). SaysOf key (entries_in (take v.holds.held history)) v.facts v.cookie v.way out w) is s.says }

-- passes are given back behind a response
back_of : (P : Type 0) (key : List ℕ) (es : List Entry) (facts : VisitFacts) (cookie : Option Cookie) (w : SessionWay) (marks : List WindowMark) (out : List ℕ) (told : Option WriteOutcome) (fate : Fate)
    → option_map answer_of_write told ≡ answer_held w → HasOutcome w fate → MarksOf {P = P} marks cookie w (Left fate)
    → SaysOf {P = P} key es facts cookie w out (Left fate) → SaysOf {P = P} key es facts (cookie_told told cookie) way.Resting out (work_told told (Left fate))
back_of P key es facts cookie w marks out told (Known became) is some m s =
    let none : told ≡ None = none_told told (is ∙ ap answer_held m.rests) in
    let So : Option WriteOutcome → Type 0 = λ t. SaysOf {P = P} key es facts (cookie_told t cookie) way.Resting out (work_told t (Left (Known became))) in
    subst So (sym none) s
back_of P key es facts cookie w marks out told (Writing place again) is some m s =
    spent_says P key es facts cookie w way.Resting out told place again s is (some place again refl)

pub back_says : {P : Type 0} (key : List ℕ) (history : List Event) (out : List ℕ) (marks : List WindowMark) (old new : Visit P) (fate : Fate)
    → IsGivenBack old new → old.work ≡ Left fate → HasOutcome old.way fate → Marks marks old → Says key history out old → Says key history out new
back_says {P} key history out marks old new fate back is some m s =
    let es : List Entry = entries_in (take old.holds.held history) in
    subst (λ (v : Visit P). Says key history out v) (sym back.new_is)
    (told_says key history out back.outcome (record old { way = way.Resting }) s.within
    (subst (λ (w : Work P). SaysOf key es old.facts (cookie_told back.outcome old.cookie) way.Resting out (work_told back.outcome w)) (sym is)
    (back_of P key es old.facts old.cookie old.way marks out back.outcome fate back.is_outcome some
    (subst (λ (w : Work P). MarksOf marks old.cookie old.way w) is m)
    (subst (λ (w : Work P). SaysOf key es old.facts old.cookie old.way out w) is s.says))))

dropped_of : {P : Type 0} (key : List ℕ) (es : List Entry) (facts : VisitFacts) (cookie : Option Cookie) (w : SessionWay) (out : List ℕ) (work : Work P)
    → SaysOf key es facts cookie w out work → SaysOf key es facts cookie w out (dropped work)
dropped_of key es facts cookie w out Reading s = s
dropped_of key es facts cookie w out Opening s = s
dropped_of key es facts cookie w out (Serving tries program) s = s
dropped_of key es facts cookie w out (Committed place again shown) s = s
dropped_of key es facts cookie w out (Decided became) s = s
dropped_of key es facts cookie w out (Answered fate bytes) s = s
dropped_of key es facts cookie w out (Left fate) s = s

pub dropped_says : {P : Type 0} (key : List ℕ) (history : List Event) (out : List ℕ) (v : Visit P) → Says key history out v → Says key history out (record v { work = dropped v.work })
dropped_says key history out v s =
    record { within = s.within; says = dropped_of key (entries_in (take v.holds.held history)) v.facts v.cookie v.way out v.work s.says }
