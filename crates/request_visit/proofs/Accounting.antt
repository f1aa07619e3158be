-- What a request has added to the history, step by step.
use Rattle.std.specs.Prelude.{option_map}
use Rattle.std.proofs.Common.{◌≡◌, ◌≤◌, ℕ, suc, zero, Bool, true, false, List, [], ◌∷◌, ◌++◌, length, take, drop, slice_get, Option, Some, None, refl, sym, ap, ◌∙◌, subst}
use Rattle.std.proofs.lemmas.Grind.{flat_map-append}
use Rattle.std.proofs.lemmas.List.{append-nil, take-append-drop, take-append-le}
use Rattle.crash_base.specs.declared.numbers.Place.{Place}
use Rattle.crash_base.specs.declared.numbers.RequestNo.{RequestNo}
use Rattle.boot_core.specs.declared.boot.Start.{Start}
use Rattle.journal_model.specs.declared.entry.CommitEntry.{CommitEntry}
use Rattle.journal_model.specs.declared.entry.Entry.{Entry}
use Rattle.journal_model.specs.declared.entry.Entry.TheVariants.{Commit}
use Rattle.call_ticket.specs.declared.next.Answer.{Answer}
use Rattle.call_ticket.specs.declared.next.Next.{Next}
use Rattle.container_core.specs.Container.{ContainerValue, events_of}
use Rattle.container_core.specs.History.{entries_in, entry_in}
use Rattle.container_core.specs.declared.history.Event.{Event}
use Rattle.container_core.specs.declared.history.Event.TheVariants.{Added, KeeperFailed as FailedMark, Started}
use Rattle.request_tries.specs.Ends.{Adds, EndStands, Errand, IsServed as IsServedBy, OutcomeStands, done_of}
use Rattle.request_tries.specs.Serving.{TriesValue, errand_of}
use Rattle.request_tries.specs.Steps.{Brings}
use Rattle.request_tries.specs.declared.outcome.Ended.{Ended}
use Rattle.request_tries.specs.declared.outcome.RequestOutcome.{RequestOutcome}
use Rattle.request_tries.specs.declared.outcome.RequestOutcome.TheVariants.{Page, Sentinel, Hung, Raised, Revoked, Conflict, JournalFull, KeeperFailed}
use Rattle.outcome_items.specs.Traces.{added_if, events_of_end}
use Rattle.outcome_items.specs.declared.item.Holds.{Holds}
use Rattle.outcome_items.specs.declared.outcome.ItemOutcome.{ItemOutcome}
use Rattle.outcome_items.specs.declared.outcome.ItemOutcome.TheVariants as item
use Rattle.request_visit.specs.Accounts.{Accounts, AccountsOf, AddsOwn, Became, EndsWith, FateStands, IsServed}
use Rattle.request_visit.specs.Serving.{closed_with, closing_of, holds_of}
use Rattle.request_visit.specs.declared.serving.Closed.TheVariants as closes
use Rattle.request_visit.specs.Ready.{ready_of}
use Rattle.request_visit.specs.declared.serving.Closing.{Closing}
use Rattle.request_visit.specs.Stepping.{ServesBy, ServesWork, VisitsInside, after_closing_if, left_so}
use Rattle.request_visit.specs.declared.facts.VisitFacts.{VisitFacts}
use Rattle.request_visit.specs.declared.ready.Ready.{Ready}
use Rattle.request_visit.specs.declared.ready.Ready.TheVariants.{Respond, Write}
use Rattle.request_visit.specs.declared.visit.Fate.{Fate}
use Rattle.request_visit.specs.declared.visit.Fate.TheVariants.{Known, Writing}
use Rattle.request_visit.specs.declared.visit.Visit.{Visit}
use Rattle.request_visit.specs.declared.visit.Work.{Work}
use Rattle.request_visit.specs.declared.visit.Work.TheVariants.{Reading, Opening, Serving, Committed, Decided, Answered, Left}
use Rattle.request_visit.proofs.Kept.{errand_kept}

-- a longer list has the same item at a place
get_longer : {A : Type 0} (xs ys : List A) (i : ℕ) (v : A) → slice_get xs i ≡ Some v → slice_get (xs ++ ys) i ≡ Some v
get_longer [] ys i v e = absurd (cc)
get_longer (x ∷ xs) ys zero v e = e
get_longer (x ∷ xs) ys (suc i) v e = get_longer xs ys i v e

-- the last item of a list
get_last : {A : Type 0} (xs : List A) (y : A) → slice_get (xs ++ y ∷ []) (length xs) ≡ Some y
get_last [] y = refl
get_last (x ∷ xs) y = get_last xs y

-- the entries of the first events, and of those behind them
entries_split : (h : List Event) (k : ℕ) → entries_in h ≡ entries_in (take k h) ++ entries_in (drop k h)
entries_split h k = ap entries_in (sym (take-append-drop k h)) ∙ flat_map-append entry_in (take k h) (drop k h)

entries_last : (h : List Event) (e : Entry) → entries_in (h ++ Added e ∷ []) ≡ entries_in h ++ e ∷ []
entries_last h e = flat_map-append entry_in h (Added e ∷ [])

-- the entry at the place that a served request names
served_entry : (start : Start) (seen : List Event) (errand : Errand) (from place : ℕ) (s : IsServedBy start seen errand from place)
    → slice_get (entries_in seen) place ≡ Some (Commit s.entry)
served_entry start seen errand from place s =
    let es : entries_in seen ≡ entries_in s.before ++ Commit s.entry ∷ [] = ap entries_in s.last ∙ entries_last s.before (Commit s.entry) in
    let Named : List Entry → ℕ → Type 0 = λ xs i. slice_get xs i ≡ Some (Commit s.entry) in
    subst (λ (xs : List Entry). Named xs place) (sym es)
    (subst (λ (i : ℕ). Named (entries_in s.before ++ Commit s.entry ∷ []) i) (sym s.place_is) (get_last (entries_in s.before) (Commit s.entry)))

-- it is the entry that was added there
same_entry : (start : Start) (old new : List Event) (errand : Errand) (from : ℕ) (held : ℕ) (place : Place) (entry : CommitEntry)
    → new ≡ old ++ Added (Commit entry) ∷ [] → place.0 ≡ length (entries_in old)
    → IsServedBy start (take held new) errand from place.0
    → slice_get (entries_in (take held new)) place.0 ≡ Some (Commit entry)
same_entry start old new errand from held place entry grown at s =
    let there = served_entry start (take held new) errand from place.0 s in
    let longer : slice_get (entries_in (take held new) ++ entries_in (drop held new)) place.0 ≡ Some (Commit s.entry) =
    get_longer (entries_in (take held new)) (entries_in (drop held new)) place.0 (Commit s.entry) there in
    let whole : slice_get (entries_in new) place.0 ≡ Some (Commit s.entry) =
    subst (λ (xs : List Entry). slice_get xs place.0 ≡ Some (Commit s.entry)) (sym (entries_split new held)) longer in
    let last : slice_get (entries_in new) place.0 ≡ Some (Commit entry) =
    subst (λ (xs : List Entry). slice_get xs place.0 ≡ Some (Commit entry)) (sym (ap entries_in grown ∙ entries_last old (Commit entry)))
    (subst (λ (i : ℕ). slice_get (entries_in old ++ Commit entry ∷ []) i ≡ Some (Commit entry)) (sym at) (get_last (entries_in old) (Commit entry))) in
    let same : Some (Commit s.entry) ≡ Some (Commit entry) = sym whole ∙ last in
    there ∙ same

-- The events of an end that was brought: those by which the history grew.
record Grows (old new : ContainerValue) (errand : Errand) (held : ℕ) (end : RequestOutcome) : Type 0 where
  added : List Event
  grown : new.since ≡ old.since ++ added
  tells : added ≡ events_of_end (entries_in (take held (events_of new))) (Some errand.request) end

nothing : (old new : ContainerValue) (errand : Errand) (held : ℕ) (end : RequestOutcome) → new.since ≡ old.since
    → [] ≡ events_of_end (entries_in (take held (events_of new))) (Some errand.request) end → Grows old new errand held end
nothing old new errand held end same none = record { added = []; grown = same ∙ sym (append-nil old.since); tells = none }

grows : (old new : ContainerValue) (errand : Errand) (from held : ℕ) (end : RequestOutcome) → entries_in old.since ≡ old.boot.entries
    → Adds errand.request end old new → OutcomeStands new.boot.start (take held (events_of new)) errand from end → Grows old new errand held end
grows old new errand from held (Page place true) is adds stands = nothing old new errand held (Page place true) adds refl
grows old new errand from held (Page place false) is adds stands =
    let events : events_of new ≡ Started new.boot.start ∷ (old.since ++ Added (Commit adds.0) ∷ []) = ap (λ (s : List Event). Started new.boot.start ∷ s) adds.1 in
    let at : place.0 ≡ length (entries_in (Started new.boot.start ∷ old.since)) = adds.2 ∙ ap length (sym is) in
    let there = same_entry new.boot.start (Started new.boot.start ∷ old.since) (events_of new) errand from held place adds.0 events at stands in
    record { added = Added (Commit adds.0) ∷ []; grown = adds.1; tells = sym (ap added_if there) }
grows old new errand from held (Sentinel group down) is adds stands = nothing old new errand held (Sentinel group down) adds refl
grows old new errand from held (Hung component fault path) is adds stands = nothing old new errand held (Hung component fault path) adds refl
grows old new errand from held (Raised component fault path) is adds stands = nothing old new errand held (Raised component fault path) adds refl
grows old new errand from held (Revoked tries) is adds stands = nothing old new errand held (Revoked tries) adds refl
grows old new errand from held (Conflict tries) is adds stands = nothing old new errand held (Conflict tries) adds refl
grows old new errand from held (JournalFull full) is adds stands = nothing old new errand held (JournalFull full) adds refl
grows old new errand from held KeeperFailed is adds stands = record { added = FailedMark errand.request ∷ []; grown = adds; tells = refl }

-- a request that has left the container so, whatever follows
left_accounts : {P : Type 0} (asks : P → List Answer → Next) (start : Start) (history : List Event) (errand : Errand) (v : Visit P) (ready : Bool → Ready) (end : RequestOutcome) (holds : Holds) (own : List Event)
    → EndsWith start history errand v.facts holds end own
    → Accounts asks start history errand own (left_so (closed_with ready end) (record v { holds = holds }))
left_accounts asks start history errand v ready (Page place again) holds own ends = by_ready (ready again) where
  by_ready : (r : Ready) → Accounts asks start history errand own (left_so (closes.Page place again r) (record v { holds = holds }))
  by_ready (Respond bytes) = ends
  by_ready (Write order shown) = ends
left_accounts asks start history errand v ready (Sentinel group down) holds own ends = ends
left_accounts asks start history errand v ready (Hung component fault path) holds own ends = ends
left_accounts asks start history errand v ready (Raised component fault path) holds own ends = ends
left_accounts asks start history errand v ready (Revoked tries) holds own ends = ends
left_accounts asks start history errand v ready (Conflict tries) holds own ends = ends
left_accounts asks start history errand v ready (JournalFull full) holds own ends = ends
left_accounts asks start history errand v ready KeeperFailed holds own ends = ends

-- a request that asks for this
abbrev served_errand : {P : Type 0} → (P → List Answer → Next) → TriesValue → P → Errand
served_errand asks tries program = errand_of tries (asks program)

-- a request that goes on
goes_on : {P : Type 0} (asks : P → List Answer → Next) (errand : Errand) (own : List Event) (container after : ContainerValue) (v : Visit P) (tries later : TriesValue) (program : P)
    → IsServed errand (served_errand asks tries program) v.facts v.holds own → after.since ≡ container.since
    → served_errand asks later program ≡ served_errand asks tries program
    → AddsOwn asks errand own container after (record v { work = Serving later program })
goes_on asks errand own container after v tries later program served same kept = record {
  added = [];
  grown = same ∙ sym (append-nil container.since);
  accounts = record {
    errand_is = served.errand_is ∙ sym kept;
    number_is = served.number_is;
    unheld_is = record { holds_are = served.unheld_is.holds_are; own_is = append-nil own ∙ served.unheld_is.own_is };
  };
}

-- a request that has ended
ends_so : {P : Type 0} (asks : P → List Answer → Next) (errand : Errand) (own : List Event) (container after : ContainerValue) (v : Visit P) (tries : TriesValue) (program : P) (ready : Bool → Ready) (e : Ended)
    → IsServed errand (served_errand asks tries program) v.facts v.holds own → entries_in container.since ≡ container.boot.entries
    → EndStands after.boot.start (events_of after) (served_errand asks tries program) e → Adds tries.request e.outcome container after
    → AddsOwn asks errand own container after (left_so (closed_with ready e.outcome) (record v { holds = holds_of e }))
ends_so asks errand own container after v tries program ready e served is stands adds =
    let g = grows container after (served_errand asks tries program) e.from.0 e.held e.outcome is adds stands.outcome in
    let number : v.facts.request ≡ Some (served_errand asks tries program).request = served.number_is ∙ ap (λ (x : Errand). Some x.request) served.errand_is in
    let ends : EndsWith after.boot.start (events_of after) errand v.facts (holds_of e) e.outcome (own ++ g.added) = record {
      ended = e;
      stands = subst (λ (x : Errand). EndStands after.boot.start (events_of after) x e) (sym served.errand_is) stands;
      outcome_is = refl;
      holds_is = refl;
      number_is = served.number_is;
      own_is = ap (λ (xs : List Event). xs ++ g.added) served.unheld_is.own_is ∙ g.tells
          ∙ ap (λ (r : Option RequestNo). events_of_end (entries_in (take e.held (events_of after))) r e.outcome) (sym number);
    } in
    record {
      added = g.added;
      grown = g.grown;
      accounts = left_accounts asks after.boot.start (events_of after) errand v ready e.outcome (holds_of e) (own ++ g.added) ends;
    }

-- the visit after a step that came to this end
by_end : {P : Type 0} (asks : P → List Answer → Next) (errand : Errand) (own : List Event) (container after : ContainerValue) (v : Visit P) (tries later : TriesValue) (program : P) (end : Option Ended)
    → IsServed errand (served_errand asks tries program) v.facts v.holds own → entries_in container.since ≡ container.boot.entries
    → Brings container after (asks program) tries later end
    → (end ≡ None → served_errand asks later program ≡ served_errand asks tries program)
    → AddsOwn asks errand own container after (after_closing_if (option_map (closing_of v.facts v.lease (events_of after)) end) (record v { work = Serving later program }))
by_end asks errand own container after v tries later program None served is brings kept =
    goes_on asks errand own container after v tries later program served brings.adds (kept refl)
by_end asks errand own container after v tries later program (Some e) served is brings kept =
    ends_so asks errand own container after (record v { work = Serving later program }) tries program (λ again. ready_of v.facts v.lease (done_of (events_of after) e)) e served is brings.ended brings.adds

-- a step of a request that is served
by_serving : {P : Type 0} (asks : P → List Answer → Next) (errand : Errand) (own : List Event) (old new : Visit P) (container after : ContainerValue) (tries : TriesValue) (program : P) (closing : Option Closing) (work : Work P)
    → ServesBy asks container old.facts old.lease tries program closing after work → new ≡ after_closing_if closing (record old { work = work })
    → IsServed errand (served_errand asks tries program) old.facts old.holds own → entries_in container.since ≡ container.boot.entries
    → AddsOwn asks errand own container after new
by_serving {P} asks errand own old new container after tries program closing work by is_new served is =
    let s = by.serves in
    let adds = by_end asks errand own container after old tries by.after program s.end served is s.brings
    (λ none. errand_kept container s.between after (asks program) tries s.mid by.after s.to s.end none s.steps s.goes_on) in
    let to : new ≡ after_closing_if (option_map (closing_of old.facts old.lease (events_of after)) s.end) (record old { work = Serving by.after program }) =
    is_new ∙ ap (λ (w : Work P). after_closing_if closing (record old { work = w })) by.work_is
    ∙ ap (λ (c : Option Closing). after_closing_if c (record old { work = Serving by.after program })) s.closing_is in
    subst (λ (v : Visit P). AddsOwn asks errand own container after v) (sym to) adds

-- a step in the container, by how far the request has come
by_work : {P : Type 0} (asks : P → List Answer → Next) (start : Start) (errand : Errand) (own : List Event) (old new : Visit P) (container after : ContainerValue) (closing : Option Closing) (before work : Work P)
    → ServesWork asks container old.facts old.lease before closing after work → new ≡ after_closing_if closing (record old { work = work })
    → AccountsOf asks start (events_of container) errand old.facts old.holds own before → entries_in container.since ≡ container.boot.entries
    → AddsOwn asks errand own container after new
by_work asks start errand own old new container after closing Reading work serves is_new accounts is = absurd serves
by_work asks start errand own old new container after closing Opening work serves is_new accounts is = absurd serves
by_work asks start errand own old new container after closing (Serving tries program) work serves is_new accounts is =
    by_serving asks errand own old new container after tries program closing work serves is_new accounts is
by_work asks start errand own old new container after closing (Committed place again shown) work serves is_new accounts is = absurd serves
by_work asks start errand own old new container after closing (Decided became) work serves is_new accounts is = absurd serves
by_work asks start errand own old new container after closing (Answered fate bytes) work serves is_new accounts is = absurd serves
by_work asks start errand own old new container after closing (Left fate) work serves is_new accounts is = absurd serves

pub inside : {P : Type 0} (asks : P → List Answer → Next) (start : Start) (errand : Errand) (own : List Event) (old new : Visit P) (container after : ContainerValue)
    → VisitsInside asks old container new after → Accounts asks start (events_of container) errand own old → entries_in container.since ≡ container.boot.entries
    → AddsOwn asks errand own container after new
inside asks start errand own old new container after visits accounts is =
    by_work asks start errand own old new container after visits.closing old.work visits.work visits.serves visits.new_is accounts is

-- the law that ends stay true
abbrev pub EndsStay : Type 0
EndsStay = (start : Start) (events more : List Event) (a : Errand) (e : Ended) → EndStands start events a e → EndStands start (events ++ more) a e

-- an end goes on standing, with what it added
ends_stay : (law : EndsStay) (start : Start) (history more : List Event) (errand : Errand) (facts : VisitFacts) (holds : Holds) (end : RequestOutcome) (own : List Event)
    → EndsWith start history errand facts holds end own → EndsWith start (history ++ more) errand facts holds end own
ends_stay law start history more errand facts holds end own ends =
    let held : holds.held ≡ ends.ended.held = ap (λ (h : Holds). h.held) ends.holds_is in
    let le : holds.held ≤ length history = subst (λ (k : ℕ). k ≤ length history) (sym held) ends.stands.held in
    let same : take holds.held (history ++ more) ≡ take holds.held history = take-append-le holds.held history more le in
    record {
      ended = ends.ended;
      stands = law start history more errand ends.ended ends.stands;
      outcome_is = ends.outcome_is;
      holds_is = ends.holds_is;
      number_is = ends.number_is;
      own_is = ends.own_is ∙ ap (λ (seen : List Event). events_of_end (entries_in seen) facts.request end) (sym same);
    }

became_stays : (law : EndsStay) (start : Start) (history more : List Event) (errand : Errand) (facts : VisitFacts) (holds : Holds) (own : List Event) (became : ItemOutcome)
    → Became start history errand facts holds own became → Became start (history ++ more) errand facts holds own became
became_stays law start history more errand facts holds own (item.Refused why) b = b
became_stays law start history more errand facts holds own (item.SerialsSpent seen) b = b
became_stays law start history more errand facts holds own (item.Expired now expiry) b = b
became_stays law start history more errand facts holds own (item.Lost causes) b = b
became_stays law start history more errand facts holds own (item.Ended end) b = ends_stay law start history more errand facts holds end own b
became_stays law start history more errand facts holds own (item.Overload place again full) b = ends_stay law start history more errand facts holds (Page place again) own b
became_stays law start history more errand facts holds own (item.Missed place again causes) b = ends_stay law start history more errand facts holds (Page place again) own b

fate_stays : (law : EndsStay) (start : Start) (history more : List Event) (errand : Errand) (facts : VisitFacts) (holds : Holds) (own : List Event) (fate : Fate)
    → FateStands start history errand facts holds own fate → FateStands start (history ++ more) errand facts holds own fate
fate_stays law start history more errand facts holds own (Known became) b = became_stays law start history more errand facts holds own became b
fate_stays law start history more errand facts holds own (Writing place again) b = ends_stay law start history more errand facts holds (Page place again) own b

pub meanwhile : {P : Type 0} (law : EndsStay) (asks : P → List Answer → Next) (start : Start) (history more : List Event) (errand : Errand) (facts : VisitFacts) (holds : Holds) (own : List Event) (work : Work P)
    → AccountsOf asks start history errand facts holds own work → AccountsOf asks start (history ++ more) errand facts holds own work
meanwhile law asks start history more errand facts holds own Reading a = a
meanwhile law asks start history more errand facts holds own Opening a = a
meanwhile law asks start history more errand facts holds own (Serving tries program) a = a
meanwhile law asks start history more errand facts holds own (Committed place again shown) a = ends_stay law start history more errand facts holds (Page place again) own a
meanwhile law asks start history more errand facts holds own (Decided became) a = became_stays law start history more errand facts holds own became a
meanwhile law asks start history more errand facts holds own (Answered fate bytes) a = fate_stays law start history more errand facts holds own fate a
meanwhile law asks start history more errand facts holds own (Left fate) a = fate_stays law start history more errand facts holds own fate a
