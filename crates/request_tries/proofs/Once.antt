-- That a request commits once, has three tries at most, and is not tried again after an enter that may not be repeated.
use Rattle.std.specs.Prelude.{IfSome, Result, Ok, Err, option_map}
use Rattle.std.proofs.Common.{◌≡◌, ◌≢◌, ℕ, ◌<◌, ◌≤◌, Bool, true, false, List, [], ◌∷◌, ◌++◌, length, take, drop, slice_get, Option, Some, None, inl, inr, refl, sym, ap, ◌∙◌, subst, arith}
use Rattle.std.proofs.lemmas.Bool.{cases_lt}
use Rattle.std.proofs.lemmas.Grind.{flat_map-append}
use Rattle.std.proofs.lemmas.List.{take-append-drop}
use Rattle.crash_base.specs.Refusals.{first_of}
use Rattle.crash_base.specs.declared.numbers.ComponentNo.{ComponentNo}
use Rattle.crash_base.specs.declared.numbers.Place.{Place}
use Rattle.crash_base.specs.declared.numbers.RequestNo.{RequestNo}
use Rattle.crash_base.specs.declared.rows.RowWrite.{RowWrite}
use Rattle.journal_model.specs.declared.conflict.Conflict.{Conflict}
use Rattle.journal_model.specs.declared.entry.CommitEntry.{CommitEntry}
use Rattle.journal_model.specs.declared.entry.DoneText.{DoneText}
use Rattle.journal_model.specs.declared.entry.Entry.{Entry}
use Rattle.journal_model.specs.declared.entry.Entry.TheVariants.{Commit}
use Rattle.journal_model.specs.declared.limits.FullAt.{FullAt}
use Rattle.journal_model.specs.declared.stale.Stale.{Stale}
use Rattle.journal_model.specs.Calls.{entry_of}
use Rattle.journal_model.specs.Conflicts.{conflict_of}
use Rattle.journal_model.specs.Legal.{IsLegal, MayCommit}
use Rattle.journal_model.specs.Limits.{entry_bytes, full_for}
use Rattle.journal_model.specs.Requests.{commit_of, place_no}
use Rattle.journal_model.specs.Stale.{stale_in}
use Rattle.journal_model.proofs.Found.{commit_there, none_is}
use Rattle.journal_model.proofs.Places.{slice_get-append, slice_get-take}
use Rattle.call_ticket.specs.declared.next.Answer.{Answer}
use Rattle.call_ticket.specs.declared.next.Next.{Next}
use Rattle.boot_core.specs.Boot.{BootValue}
use Rattle.boot_core.specs.Refusals.{CommitAnswer, IsCause, commit_refusal}
use Rattle.boot_core.specs.declared.boot.Start.{Start}
use Rattle.boot_core.specs.declared.refusals.CommitRefusal.{CommitRefusal}
use Rattle.boot_core.specs.declared.refusals.CommitRefusal.TheVariants as commits
use Rattle.boot_core.specs.declared.refusals.Refused.{Refused}
use Rattle.container_core.specs.Container.{ContainerValue}
use Rattle.container_core.specs.History.{entries_in, entry_in}
use Rattle.container_core.specs.declared.history.Event.{Event}
use Rattle.container_core.specs.declared.history.Event.TheVariants.{Added}
use Rattle.call_attempts.specs.Attempt.{AttemptValue, HasEnteredOnce, HasStepped, IsUnderWay, stop_of_attempt, wanted}
use Rattle.call_attempts.specs.declared.attempt.Stepped.{Stepped}
use Rattle.call_attempts.specs.declared.attempt.Stepped.TheVariants as coming
use Rattle.call_attempts.specs.declared.stop.Stop.{Stop}
use Rattle.call_attempts.specs.declared.stop.Stop.TheVariants as stops
use Rattle.call_attempts.proofs.Stopping.{revoked_is}
use Rattle.call_attempts.proofs.UnderWay.{same_request}
use Rattle.request_tries.specs.Ends.{Errand, EndStands, OutcomeStands}
use Rattle.request_tries.specs.Serving.{TriesValue, IsServing, closed}
use Rattle.request_tries.specs.Steps.{ComesTo, CommitsAs, EndsTry, HearsCommit, IsRefused, IsStopped, StepsAs, end_of, front_at}
use Rattle.request_tries.specs.declared.outcome.Ended.{Ended}
use Rattle.request_tries.specs.declared.outcome.HistoryFront.{HistoryFront}
use Rattle.request_tries.specs.declared.outcome.Progress.{Progress}
use Rattle.request_tries.specs.declared.outcome.Progress.TheVariants as progress
use Rattle.request_tries.specs.declared.outcome.RequestOutcome.{RequestOutcome}
use Rattle.request_tries.specs.declared.outcome.RequestOutcome.TheVariants as outcomes
use Rattle.request_tries.specs.declared.outcome.Try.{Try}
use Rattle.request_tries.specs.declared.outcome.TryCause.{TryCause}
use Rattle.request_tries.specs.declared.outcome.TryCause.TheVariants as cause
use Rattle.request_tries.proofs.Serving.{end_is}

-- a commit of the request is at a place
abbrev CommitsAt : List Entry → RequestNo → ℕ → Type 0
CommitsAt es r i = (e : CommitEntry) × (slice_get es i ≡ Some (Commit e)) × (e.request ≡ r)

-- of two commits of a request, none is the earlier one
none_earlier : (base : List RowWrite) (es : List Entry) (r : RequestNo) (i j : ℕ) → IsLegal base es → CommitsAt es r i → CommitsAt es r j → i < j → ⊥
none_earlier base es r i j legal (e, there, is) (f, here, same) lt =
    let may : MayCommit base (take j es) f = legal.each j (Commit f) here in
    (none_is (take j es) f.request).0 may.once i e (slice_get-take es j i (Commit e) lt there) (is ∙ sym same)

one_place : (base : List RowWrite) (es : List Entry) (r : RequestNo) (p q : Place) → IsLegal base es → CommitsAt es r p.0 → CommitsAt es r q.0 → p ≡ q
one_place base es r p q legal a b =
    let same : p.0 ≡ q.0 = elim (cases_lt p.0 q.0) [
      | inl lt ↦ absurd (none_earlier base es r p.0 q.0 legal a b lt)
      | inr ge ↦ elim (cases_lt q.0 p.0) [ inl lt ↦ absurd (none_earlier base es r q.0 p.0 legal b a lt) | inr le ↦ omega (arith, ge, le) ]
    ] in
    ap place_no same

-- the entry after others
at_end : (es : List Entry) (e : Entry) → slice_get (es ++ e ∷ []) (length es) ≡ Some e
at_end [] e = refl
at_end (x ∷ es) e = at_end es e

-- the page of an end is of a commit of its request
page_there : (start : Start) (seen : List Event) (a : Errand) (from : ℕ) (place : Place) (again : Bool) → OutcomeStands start seen a from (outcomes.Page place again)
    → CommitsAt (entries_in seen) a.request place.0
page_there start seen a from place true stands = commit_there (entries_in seen) a.request place stands
page_there start seen a from place false stands =
    let es : List Entry = entries_in stands.before in
    let entries : entries_in seen ≡ es ++ Commit stands.entry ∷ [] = ap entries_in stands.last ∙ flat_map-append entry_in stands.before (Added (Commit stands.entry) ∷ []) in
    (stands.entry, ap (λ (xs : List Entry). slice_get xs place.0) entries ∙ ap (λ (n : ℕ). slice_get (es ++ Commit stands.entry ∷ []) n) stands.place_is ∙ at_end es (Commit stands.entry), stands.asked_for.request)

commits_there : (start : Start) (events : List Event) (a : Errand) (e : Ended) (place : Place) (again : Bool) → EndStands start events a e → e.outcome ≡ outcomes.Page place again
    → CommitsAt (entries_in events) a.request place.0
commits_there start events a e place again stands is =
    let shows : OutcomeStands start (take e.held events) a e.from.0 (outcomes.Page place again) = subst (λ (o : RequestOutcome). OutcomeStands start (take e.held events) a e.from.0 o) is stands.outcome in
    let there = page_there start (take e.held events) a e.from.0 place again shows in
    let parts : entries_in (take e.held events) ++ entries_in (drop e.held events) ≡ entries_in events =
    sym (flat_map-append entry_in (take e.held events) (drop e.held events)) ∙ ap entries_in (take-append-drop e.held events) in
    (there.0, subst (λ (es : List Entry). slice_get es place.0 ≡ Some (Commit there.0)) parts (slice_get-append (entries_in (take e.held events)) (entries_in (drop e.held events)) place.0 (Commit there.0) there.1), there.2)

pub commits_once : (start : Start) (events : List Event) (a b : Errand) (e f : Ended) (place other : Place) (again once_more : Bool) → IsLegal start.base (entries_in events)
    → EndStands start events a e → EndStands start events b f → a.request ≡ b.request → e.outcome ≡ outcomes.Page place again → f.outcome ≡ outcomes.Page other once_more → place ≡ other
commits_once start events a b e f place other again once_more legal one two same page second =
    one_place start.base (entries_in events) a.request place other legal (commits_there start events a e place again one page)
    (subst (λ (r : RequestNo). CommitsAt (entries_in events) r other.0) (sym same) (commits_there start events b f other once_more two second))

-- how many tries there are
pub few_served : (boot : BootValue) (asks : List Answer → Next) (s : TriesValue) → IsServing boot asks s → length s.tries ≤ 2
few_served boot asks s serving = let few = serving.few in omega (arith, few)

pub few_revoked : (start : Start) (events : List Event) (a : Errand) (e : Ended) (tries : List Try) → EndStands start events a e → e.outcome ≡ outcomes.Revoked tries → length tries ≤ 3
few_revoked start events a e tries stands is =
    let shows : OutcomeStands start (take e.held events) a e.from.0 (outcomes.Revoked tries) = subst (λ (o : RequestOutcome). OutcomeStands start (take e.held events) a e.from.0 o) is stands.outcome in
    elim shows.2 [ inl all ↦ omega (arith, all) | inr fewer ↦ (let lt = fewer.0 in omega (arith, lt)) ]

pub few_conflict : (start : Start) (events : List Event) (a : Errand) (e : Ended) (tries : List Try) → EndStands start events a e → e.outcome ≡ outcomes.Conflict tries → length tries ≡ 3
few_conflict start events a e tries stands is =
    let shows : OutcomeStands start (take e.held events) a e.from.0 (outcomes.Conflict tries) = subst (λ (o : RequestOutcome). OutcomeStands start (take e.held events) a e.from.0 o) is stands.outcome in
    shows.2

-- a request bears its own number, and so does the attempt that is open
abbrev BearsNumber : RequestNo → TriesValue → Type 0
BearsNumber r s = (s.request ≡ r) × IfSome s.attempt (λ a. a.ticket.call.request ≡ r)

-- a request bears its own number, and no attempt is open
abbrev pub Rests : RequestNo → TriesValue → Type 0
Rests r s = (s.request ≡ r) × (s.attempt ≡ None)

after_try : (now : HistoryFront) (s after : TriesValue) (at : Place) (why : TryCause) (repeats : Bool) (r : RequestNo) → s.request ≡ r → EndsTry now s at why repeats None after → Rests r after
after_try now s after at why repeats r is ends = subst (Rests r) (sym ends.2) (is, refl)

after_commit : (now : HistoryFront) (es : List Entry) (s after : TriesValue) (at : Place) (repeats : Bool) (answer : Result Place Refused) (r : RequestNo) → s.request ≡ r
    → HearsCommit now es s at repeats answer None after → Rests r after
after_commit now es s after at repeats (Ok place) r is hears = absurd (cc)
after_commit now es s after at repeats (Err refused) r is hears = go refused.cause hears
  where
    go : (w : CommitRefusal) → IsRefused now es s at w repeats None after → Rests r after
    go (commits.Already place) h = absurd (cc)
    go (commits.Revoked shown) h = after_try now s after at (cause.Revoked shown) repeats r is h
    go (commits.Conflict conflict) h = after_try now s after at (cause.Conflict conflict.mark conflict.newest) true r is h
    go (commits.JournalFull full) h = absurd (cc)
    go commits.KeeperFailed h = absurd (cc)
    go commits.OutOfMemory h = absurd h

after_stop : (now : HistoryFront) (s after : TriesValue) (at : Place) (repeats : Bool) (entered : List ComponentNo) (stop : Stop) (r : RequestNo) → s.request ≡ r → IsStopped now s at repeats entered stop None after → Rests r after
after_stop now s after at repeats entered (stops.Sentinel group down) r is h = absurd (cc)
after_stop now s after at repeats entered (stops.Hung component fault) r is h = absurd (cc)
after_stop now s after at repeats entered (stops.Raised component fault) r is h = absurd (cc)
after_stop now s after at repeats entered (stops.Revoked shown) r is h = after_try now s after at (cause.Revoked shown) repeats r is h

-- the number after a step
pub bears_number : (c new : ContainerValue) (asks : List Answer → Next) (s after : TriesValue) (o : Option AttemptValue) (to : Progress) → s.attempt ≡ o → StepsAs c asks s o to new after → end_of to ≡ None
    → IfSome s.attempt (λ a. a.ticket.call.request ≡ s.request) → BearsNumber s.request after
bears_number c new asks s after None to is steps goes bears = subst (BearsNumber s.request) (sym steps.1) (refl, refl)
bears_number c new asks s after (Some a) to is steps goes bears = go steps.0 steps.3
  where
    own : a.ticket.call.request ≡ s.request
    own = subst (λ (o : Option AttemptValue). IfSome o (λ b. b.ticket.call.request ≡ s.request)) is bears

    go : (came : Stepped) → ComesTo c asks s a came to after → BearsNumber s.request after
    go coming.Went h = subst (BearsNumber s.request) (sym h.1) (refl, same_request c.boot a.ticket (wanted asks a) ∙ own)
    go (coming.Done d) h = subst (BearsNumber s.request) (sym h.1) (refl, bears)
    go (coming.Stopped stop) h =
        let none : h.0 ≡ None = sym (end_is h.0) ∙ sym (ap end_of h.1) ∙ goes in
        let rests : Rests s.request after =
        after_stop (front_at c) (closed s) after a.ticket.call.at a.repeats a.entered stop s.request refl (subst (λ (e : Option Ended). IsStopped (front_at c) (closed s) a.ticket.call.at a.repeats a.entered stop e after) none h.2) in
        (rests.0, subst (λ (x : Option AttemptValue). IfSome x (λ b. b.ticket.call.request ≡ s.request)) (sym rests.1) tt)

-- and after a commit
pub rests_after : (old new : ContainerValue) (s after : TriesValue) (o : Option AttemptValue) (done : DoneText) → CommitsAs old s o done None new after → Rests s.request after
rests_after old new s after None done made = absurd made
rests_after old new s after (Some a) done made = after_commit (front_at new) new.boot.entries (closed s) after a.ticket.call.at a.repeats made.answer s.request refl made.hears

-- a try that may not be repeated ends its request
ends_then : (now : HistoryFront) (s after : TriesValue) (at : Place) (why : TryCause) (repeats : Bool) (end : Option Ended) → repeats ≡ false → EndsTry now s at why repeats end after → end ≢ None
ends_then now s after at why repeats None is ends none = let again = ends.1 in absurd (cc)
ends_then now s after at why repeats (Some e) is ends none = absurd (cc)

-- a call that is stale is refused by no conflict
no_conflict : (already : Option Place) (shown : Stale) (later : List (Option CommitRefusal)) (conflict : Conflict)
    → first_of (option_map (λ (p : Place). commits.Already p) already ∷ Some (commits.Revoked shown) ∷ later) ≡ Some (commits.Conflict conflict) → ⊥
no_conflict None shown later conflict e = cc
no_conflict (Some p) shown later conflict e = cc

pub step_ends : (c new : ContainerValue) (asks : List Answer → Next) (s after : TriesValue) (a : AttemptValue) (shown : Stale) (to : Progress) → IsUnderWay c.boot asks a
    → HasEnteredOnce c.boot.start.deployment asks a.answers → stale_in c.boot.entries a.ticket.call.touched ≡ Some shown → StepsAs c asks s (Some a) to new after → to ≢ progress.Went
step_ends c new asks s after a shown to way entered stale steps = go steps.0 steps.1 steps.2 steps.3
  where
    never : a.repeats ≡ false
    never = way.once.1 entered

    stop : stop_of_attempt c.boot asks a ≡ Some (stops.Revoked shown)
    stop = (revoked_is c.boot a.ticket.call (wanted asks a) shown).1 stale

    stopped : (x : Stop) (end : Option Ended) → stop_of_attempt c.boot asks a ≡ Some x → IsStopped (front_at c) (closed s) a.ticket.call.at a.repeats a.entered x end after → end ≢ None
    stopped (stops.Sentinel group down) end is h none = let held = stop in absurd (cc)
    stopped (stops.Hung component fault) end is h none = let held = stop in absurd (cc)
    stopped (stops.Raised component fault) end is h none = let held = stop in absurd (cc)
    stopped (stops.Revoked x) end is h none = ends_then (front_at c) (closed s) after a.ticket.call.at (cause.Revoked x) a.repeats end never h none

    go : (came : Stepped) (next : AttemptValue) → HasStepped c.boot asks a came next → ComesTo c asks s a came to after → to ≢ progress.Went
    go coming.Went next made h went = let clear = made.1 in let held = stop in absurd (cc)
    go (coming.Done d) next made h went = let is = h.0 in absurd (cc)
    go (coming.Stopped x) next made h went = stopped x h.0 made.1 h.2 (sym (end_is h.0) ∙ sym (ap end_of h.1) ∙ ap end_of went)

pub commit_ends : (old new : ContainerValue) (asks : List Answer → Next) (s after : TriesValue) (a : AttemptValue) (shown : Stale) (done : DoneText) (end : Option Ended) → IsUnderWay old.boot asks a
    → HasEnteredOnce old.boot.start.deployment asks a.answers → stale_in old.boot.entries a.ticket.call.touched ≡ Some shown → CommitsAs old s (Some a) done end new after → end ≢ None
commit_ends old new asks s after a shown done end way entered stale made none = heard made.answer made.is_answer made.hears
  where
    later : List (Option CommitRefusal)
    later = option_map (λ (x : Conflict). commits.Conflict x) (conflict_of old.boot.entries a.ticket.call)
        ∷ option_map (λ (x : FullAt). commits.JournalFull x) (full_for old.boot.start.limits old.boot.entries 1 (entry_bytes (Commit (entry_of a.ticket.call (Some (record { text = s.text; done = done }))))))
        ∷ []

    refused : (w : CommitRefusal) → IsCause (commit_refusal old.boot.start.limits old.boot.entries a.ticket.call (Some (record { text = s.text; done = done }))) w
        → IsRefused (front_at new) new.boot.entries (closed s) a.ticket.call.at w a.repeats end after → ⊥
    refused (commits.Already place) why h = absurd (cc)
    refused (commits.Revoked x) why h = ends_then (front_at new) (closed s) after a.ticket.call.at (cause.Revoked x) a.repeats end (way.once.1 entered) h none
    refused (commits.Conflict x) why h = no_conflict (commit_of old.boot.entries a.ticket.call.request) shown later x (rw stale at why)
    refused (commits.JournalFull full) why h = absurd (cc)
    refused commits.KeeperFailed why h = absurd (cc)
    refused commits.OutOfMemory why h = absurd h

    heard : (answer : Result Place Refused) → CommitAnswer (commit_refusal old.boot.start.limits old.boot.entries a.ticket.call (Some (record { text = s.text; done = done }))) answer
        → HearsCommit (front_at new) new.boot.entries (closed s) a.ticket.call.at a.repeats answer end after → ⊥
    heard (Ok place) why h = absurd (cc)
    heard (Err r) why h = refused r.cause why h
