-- The entries that the history shows of requests.
use Rattle.std.specs.Prelude.{option_and_then, option_map}
use Rattle.std.proofs.Common.{◌≡◌, ℕ, true, false, List, [], ◌∷◌, ◌++◌, length, take, drop, slice_get, Option, Some, refl, sym, ap, ◌∙◌, subst}
use Rattle.std.proofs.lemmas.Grind.{flat_map-append}
use Rattle.std.proofs.lemmas.List.{append_assoc, take-append-drop}
use Rattle.std.proofs.Math.Seq.{take-append_seam}
use Rattle.crash_base.specs.declared.numbers.Place.{Place}
use Rattle.crash_base.specs.declared.rows.RowWrite.{RowWrite}
use Rattle.journal_model.specs.declared.entry.ActionEntry.{ActionEntry}
use Rattle.journal_model.specs.declared.entry.CommitEntry.{CommitEntry}
use Rattle.journal_model.specs.declared.entry.Entry.{Entry}
use Rattle.journal_model.specs.declared.entry.Entry.TheVariants.{Commit}
use Rattle.journal_model.specs.declared.limits.FullAt.{FullAt}
use Rattle.journal_model.specs.Rows.{rows_after}
use Rattle.journal_model.specs.Snapshots.{snapshot}
use Rattle.journal_model.proofs.Found.{commit_there}
use Rattle.journal_model.proofs.Places.{slice_get-append}
use Rattle.action_plans.specs.declared.plan.Outcome.{Outcome}
use Rattle.auction_calls.specs.declared.action.ActionCall.{ActionCall}
use Rattle.auction_calls.specs.Texts.{Spells}
use Rattle.auction_site.specs.Actions.{site}
use Rattle.auction_site.specs.Meant.{AreMeant, IsMeant}
use Rattle.boot_core.specs.declared.boot.Start.{Start}
use Rattle.container_core.specs.History.{entries_in, entry_in}
use Rattle.container_core.specs.declared.history.Event.{Event}
use Rattle.container_core.specs.declared.history.Event.TheVariants.{Added}
use Rattle.request_tries.specs.Ends.{EndStands, Errand, HasNoRoom, IsServed, OutcomeStands, done_at, done_if, done_of, page_of}
use Rattle.request_tries.specs.declared.outcome.Ended.{Ended}
use Rattle.request_tries.specs.declared.outcome.RequestOutcome.{RequestOutcome}
use Rattle.request_tries.specs.declared.outcome.RequestOutcome.TheVariants as outcomes
use Rattle.site_programs.specs.Errands.{AsksSite}
use Rattle.site_programs.specs.Pages.{HasNoRoomFor, HasOutcome, IsMeantThere, ShowsEntry}
use Rattle.site_programs.proofs.Meanings.{RunRule, made_so, one_outcome}

-- the item after others
at_seam : {A : Type 0} (xs ys : List A) (x : A) → slice_get (xs ++ x ∷ ys) (length xs) ≡ Some x
at_seam [] ys x = refl
at_seam (z ∷ xs) ys x = at_seam xs ys x

-- the entries of a history are those of its first events, and then the others
entries_of : (n : ℕ) (events : List Event) → entries_in events ≡ entries_in (take n events) ++ entries_in (drop n events)
entries_of n events = ap entries_in (sym (take-append-drop n events)) ∙ flat_map-append entry_in (take n events) (drop n events)

-- what an end says of its outcome
pub outcome_of_end : (start : Start) (events : List Event) (errand : Errand) (e : Ended) (o : RequestOutcome) → EndStands start events errand e → e.outcome ≡ o
    → OutcomeStands start (take e.held events) errand e.from.0 o
outcome_of_end start events errand e o stands is = subst (λ (x : RequestOutcome). OutcomeStands start (take e.held events) errand e.from.0 x) is stands.outcome

-- the entry of a request that was served: those before it, itself, and none yet behind it
pub served_entries : (start : Start) (seen : List Event) (errand : Errand) (from place : ℕ) → (served : IsServed start seen errand from place)
    → entries_in seen ≡ entries_in served.before ++ Commit served.entry ∷ []
served_entries start seen errand from place served =
    ap entries_in served.last ∙ flat_map-append entry_in served.before (Added (Commit served.entry) ∷ [])

-- a journal in which an entry stands at a place behind these
record StandsAt (es before : List Entry) (entry : CommitEntry) (place : ℕ) : Type 0 where
  there : slice_get es place ≡ Some (Commit entry)
  before_is : take place es ≡ before

-- the entry of a request that was served, in each longer history
served_stands : (start : Start) (events : List Event) (n : ℕ) (errand : Errand) (from place : ℕ) → (served : IsServed start (take n events) errand from place)
    → StandsAt (entries_in events) (entries_in served.before) served.entry place
served_stands start events n errand from place served =
    let first : List Entry = entries_in served.before in
    let rest : List Entry = entries_in (drop n events) in
    let e : Entry = Commit served.entry in
    let parts : entries_in events ≡ first ++ e ∷ rest =
    entries_of n events ∙ ap (λ (es : List Entry). es ++ rest) (served_entries start (take n events) errand from place served) ∙ append_assoc first (e ∷ []) rest in
    record {
      there = ap (λ (es : List Entry). slice_get es place) parts ∙ ap (λ (k : ℕ). slice_get (first ++ e ∷ rest) k) served.place_is ∙ at_seam first rest e;
      before_is = ap (λ (es : List Entry). take place es) parts ∙ ap (λ (k : ℕ). take k (first ++ e ∷ rest)) served.place_is ∙ take-append_seam first (e ∷ rest);
    }

pub own_page : RunRule → (start : Start) (events : List Event) (errand : Errand) (call : ActionCall) (e : Ended) (place : Place) → AsksSite start errand call
    → EndStands start events errand e → e.outcome ≡ outcomes.Page place false → IsMeantThere start.base (entries_in events) place errand call
own_page rule start events errand call e place asks stands is =
    let served : IsServed start (take e.held events) errand e.from.0 place.0 = outcome_of_end start events errand e (outcomes.Page place false) stands is in
    let at = served_stands start events e.held errand e.from.0 place.0 served in
    let rows : List RowWrite = rows_after start.base (entries_in served.before) in
    record {
      entry = served.entry;
      there = at.there;
      outcome = subst (λ (es : List Entry). HasOutcome errand (site call (rows_after start.base es)) served.entry) (sym at.before_is)
          (made_so rule start errand call e.from.0 rows served.entry served.done asks served.asked_for served.made);
    }

-- what the end of a request shows whose page is of an entry
shows_done : (events : List Event) (e : Ended) (place : Place) (o : RequestOutcome) (entry : CommitEntry) → page_of o ≡ Some place → e.outcome ≡ o
    → slice_get (entries_in (take e.held events)) place.0 ≡ Some (Commit entry) → done_of events e ≡ option_map (λ (a : ActionEntry). a.done) entry.action
shows_done events e place o entry page is there =
    let es : List Entry = entries_in (take e.held events) in
    ap (λ (x : RequestOutcome). option_and_then (done_at es) (page_of x)) is ∙ ap (λ (p : Option Place). option_and_then (done_at es) p) page ∙ ap done_if there

-- its own page
pub own_shown : RunRule → (start : Start) (events : List Event) (errand : Errand) (call : ActionCall) (e : Ended) (place : Place) → AsksSite start errand call
    → EndStands start events errand e → e.outcome ≡ outcomes.Page place false
    → done_of events e ≡ Some (site call (snapshot start.base (entries_in events) place.0)).done
own_shown rule start events errand call e place asks stands is =
    let served : IsServed start (take e.held events) errand e.from.0 place.0 = outcome_of_end start events errand e (outcomes.Page place false) stands is in
    let seen : List Event = take e.held events in
    let there : slice_get (entries_in seen) place.0 ≡ Some (Commit served.entry) =
    ap (λ (es : List Entry). slice_get es place.0) (served_entries start seen errand e.from.0 place.0 served)
    ∙ ap (λ (k : ℕ). slice_get (entries_in served.before ++ Commit served.entry ∷ []) k) served.place_is ∙ at_seam (entries_in served.before) [] (Commit served.entry) in
    let at = served_stands start events e.held errand e.from.0 place.0 served in
    let rows : List RowWrite = rows_after start.base (entries_in served.before) in
    let has : HasOutcome errand (site call rows) served.entry = made_so rule start errand call e.from.0 rows served.entry served.done asks served.asked_for served.made in
    shows_done events e place (outcomes.Page place false) served.entry refl is there
    ∙ ap (λ (o : Option ActionEntry). option_map (λ (a : ActionEntry). a.done) o) has.action_is
    ∙ ap (λ (es : List Entry). Some (site call (rows_after start.base es)).done) (sym at.before_is)

-- a place has one entry
same_entry : (o : Option Entry) (a b : CommitEntry) → o ≡ Some (Commit a) → o ≡ Some (Commit b) → a ≡ b
same_entry o a b x y = cc

-- no text spells two calls
abbrev pub OneCall : Type 0
OneCall = (text : List ℕ) (call other : ActionCall) → Spells text call → Spells text other → call ≡ other

pub one_meaning : RunRule → OneCall → (start : Start) (events : List Event) (errand : Errand) (call other : ActionCall) (e : Ended) (place : Place) (entry : CommitEntry) (outcome : Outcome)
    → AsksSite start errand call → EndStands start events errand e → e.outcome ≡ outcomes.Page place false → slice_get (entries_in events) place.0 ≡ Some (Commit entry)
    → Spells errand.text other → HasOutcome errand outcome entry
    → (other ≡ call) × (outcome ≡ site call (snapshot start.base (entries_in events) place.0))
one_meaning rule one start events errand call other e place entry outcome asks stands is there spells has =
    let own = own_page rule start events errand call e place asks stands is in
    let its : Outcome = site call (snapshot start.base (entries_in events) place.0) in
    let same : entry ≡ own.entry = same_entry (slice_get (entries_in events) place.0) entry own.entry there own.there in
    (one errand.text other call spells asks.spelled, one_outcome errand own.entry outcome its (subst (λ (x : CommitEntry). HasOutcome errand outcome x) same has) own.outcome)

-- the page of an entry that was there already
pub earlier_page : (start : Start) (events : List Event) (errand : Errand) (e : Ended) (place : Place) → EndStands start events errand e → e.outcome ≡ outcomes.Page place true
    → ShowsEntry events place errand.request e
earlier_page start events errand e place stands is =
    let seen : List Entry = entries_in (take e.held events) in
    let rest : List Entry = entries_in (drop e.held events) in
    let found = commit_there seen errand.request place (outcome_of_end start events errand e (outcomes.Page place true) stands is) in
    record {
      entry = found.0;
      there = ap (λ (es : List Entry). slice_get es place.0) (entries_of e.held events) ∙ slice_get-append seen rest place.0 (Commit found.0) found.1;
      request_is = found.2;
      shown = shows_done events e place (outcomes.Page place true) found.0 refl is found.1;
    }

pub earlier_meant : (start : Start) (events : List Event) (errand : Errand) (e : Ended) (place : Place) → AreMeant start.base (entries_in events) → EndStands start events errand e
    → e.outcome ≡ outcomes.Page place true → (shows : ShowsEntry events place errand.request e) × IsMeant (snapshot start.base (entries_in events) place.0) shows.entry
earlier_meant start events errand e place are stands is =
    let shows = earlier_page start events errand e place stands is in
    (shows, are.each place.0 (Commit shows.entry) shows.there)

pub no_room : RunRule → (start : Start) (events : List Event) (errand : Errand) (call : ActionCall) (e : Ended) (full : FullAt) → AsksSite start errand call
    → EndStands start events errand e → e.outcome ≡ outcomes.JournalFull full → HasNoRoomFor start (entries_in (take e.held events)) errand e.from.0 call full
no_room rule start events errand call e full asks stands is =
    let seen : List Entry = entries_in (take e.held events) in
    let shows = outcome_of_end start events errand e (outcomes.JournalFull full) stands is in
    let none : HasNoRoom start seen errand e.from.0 = shows.0 in
    record {
      entry = none.entry;
      since = none.asked_for.since;
      within = none.within;
      outcome = made_so rule start errand call e.from.0 (snapshot start.base seen none.entry.at.0) none.entry none.done asks none.asked_for none.made;
      full_is = shows.1;
    }
