-- What a commit, or a stop, brings to a request.
use Rattle.std.specs.Prelude.{All, IfErr, IfSome, IsSome, Result, Ok, Err, option_map}
use Rattle.std.proofs.Common.{◌≡◌, ◌≢◌, ℕ, ◌+◌, ◌≤◌, Bool, true, false, List, [], ◌∷◌, ◌++◌, length, map, take, slice_get, Option, Some, None, refl, sym, ap, ◌∙◌, subst, arith, length-append}
use Rattle.std.proofs.lemmas.Grind.{flat_map-append}
use Rattle.std.proofs.lemmas.List.{append-nil, take_all}
use Rattle.std.proofs.lemmas.List.Elements.{All-append, All-map}
use Rattle.crash_base.specs.Refusals.{first_of}
use Rattle.crash_base.specs.declared.fault_plans.FaultKind.TheVariants.{Raise, Hang}
use Rattle.crash_base.specs.declared.numbers.Place.{Place}
use Rattle.crash_base.specs.declared.numbers.RequestNo.{RequestNo}
use Rattle.crash_base.specs.declared.rows.RowWrite.{RowWrite}
use Rattle.deployment.specs.declared.parts.Parts.{Parts}
use Rattle.journal_model.specs.declared.conflict.Conflict.{Conflict}
use Rattle.journal_model.specs.declared.entry.CommitEntry.{CommitEntry}
use Rattle.journal_model.specs.declared.entry.DoneText.{DoneText}
use Rattle.journal_model.specs.declared.entry.Entry.{Entry}
use Rattle.journal_model.specs.declared.entry.Entry.TheVariants.{Commit}
use Rattle.journal_model.specs.declared.entry.Mark.{Mark}
use Rattle.journal_model.specs.declared.entry.ReadMark.{ReadMark}
use Rattle.journal_model.specs.declared.entry.ReadMark.TheVariants as read
use Rattle.journal_model.specs.declared.limits.FullAt.{FullAt}
use Rattle.journal_model.specs.declared.stale.Stale.{Stale}
use Rattle.journal_model.specs.Calls.{Call, entry_of}
use Rattle.journal_model.specs.Conflicts.{conflict_of, rests_on, IsFirstNewer}
use Rattle.journal_model.specs.Legal.{MayCommit}
use Rattle.journal_model.specs.Limits.{entry_bytes, full_for}
use Rattle.journal_model.specs.Reboots.{down_of}
use Rattle.journal_model.specs.Requests.{commit_of}
use Rattle.journal_model.specs.Rows.{rows_after}
use Rattle.journal_model.specs.Stale.{stale_in}
use Rattle.journal_model.proofs.Conflicting.{first_newer}
use Rattle.journal_model.proofs.Fitting.{fits_commit}
use Rattle.outside.specs.Faults.{Rose}
use Rattle.call_ticket.specs.declared.next.Answer.{Answer}
use Rattle.call_ticket.specs.declared.next.Next.{Next}
use Rattle.call_ticket.specs.declared.next.Next.TheVariants as next
use Rattle.call_ticket.specs.Following.{Follows}
use Rattle.call_ticket.specs.Runs.{Makes, run_of}
use Rattle.call_ticket.proofs.EqualRuns.{serial}
use Rattle.boot_core.specs.Boot.{BootValue, with_entry}
use Rattle.boot_core.specs.declared.boot.Start.{Start}
use Rattle.boot_core.specs.Refusals.{CommitAnswer, IsCause, commit_refusal}
use Rattle.boot_core.specs.declared.refusals.CommitRefusal.{CommitRefusal}
use Rattle.boot_core.specs.declared.refusals.CommitRefusal.TheVariants as commits
use Rattle.boot_core.specs.declared.refusals.Refused.{Refused}
use Rattle.boot_core.proofs.Sounding.{IsFree, is_free}
use Rattle.container_core.specs.Container.{ContainerValue, CommitLeaves, RefusalLeaves, event_count, events_of}
use Rattle.container_core.specs.History.{entries_in, entry_in}
use Rattle.container_core.specs.declared.history.Event.{Event}
use Rattle.container_core.specs.declared.history.Event.TheVariants.{Added, KeeperFailed as FailedMark, Started}
use Rattle.call_attempts.specs.Attempt.{Accesses, AttemptValue, EntersOnce, IsUnderWay, rows_at_begin, stop_of_attempt, table_in, wanted}
use Rattle.call_attempts.specs.declared.stop.Stop.{Stop}
use Rattle.call_attempts.specs.declared.stop.Stop.TheVariants as stops
use Rattle.call_attempts.proofs.Stopping.{hung_is, raised_is, revoked_is}
use Rattle.request_tries.specs.Ends.{Adds, HasUncuredPlan, HasNoRoom, IsServed, EndStands, OutcomeStands, StepAdds, WasRevoked, copied_for, done_at, done_if, done_of}
use Rattle.request_tries.specs.Serving.{TriesValue, IsOpen, IsServing, closed, errand_of}
use Rattle.request_tries.specs.Steps.{AnswersOwn, Brings, CommitsTry, EndsTry, HearsCommit, IsRefused, IsStopped, action_of, ended_at, from_of, front_at, outcome_by, refusal_of, try_ended}
use Rattle.request_tries.specs.Tries.{CauseStands, first_begin}
use Rattle.request_tries.specs.declared.outcome.Ended.{Ended}
use Rattle.request_tries.specs.declared.outcome.HistoryFront.{HistoryFront}
use Rattle.request_tries.specs.declared.outcome.RequestOutcome.{RequestOutcome}
use Rattle.request_tries.specs.declared.outcome.RequestOutcome.TheVariants.{Page, Sentinel, Hung, Raised, JournalFull, KeeperFailed}
use Rattle.request_tries.specs.declared.outcome.Try.{Try}
use Rattle.request_tries.specs.declared.outcome.TryCause.{TryCause}
use Rattle.request_tries.specs.declared.outcome.TryCause.TheVariants as cause
use Rattle.request_tries.proofs.Ending.{TryMayEnd, all_middle, fault_shows, revoked_shows, sentinel_shows, stands, try_ends}
use Rattle.request_tries.proofs.Trying.{first_before}

-- which of the causes a refusal is
pub record FirstCause (a : Option Place) (s : Option Stale) (c : Option Conflict) (f : Option FullAt) (why : CommitRefusal) : Type 0 where
  pub already : (p : Place) → why ≡ commits.Already p → a ≡ Some p
  pub stale : (x : Stale) → why ≡ commits.Revoked x → s ≡ Some x
  pub conflict : (x : Conflict) → why ≡ commits.Conflict x → c ≡ Some x
  pub full : (x : FullAt) → why ≡ commits.JournalFull x → f ≡ Some x

first_cause : (a : Option Place) (s : Option Stale) (c : Option Conflict) (f : Option FullAt) (why : CommitRefusal)
    → first_of (option_map (λ (place : Place). commits.Already place) a ∷ option_map (λ (x : Stale). commits.Revoked x) s ∷ option_map (λ (x : Conflict). commits.Conflict x) c ∷ option_map (λ (x : FullAt). commits.JournalFull x) f ∷ []) ≡ Some why
    → FirstCause a s c f why
first_cause (Some p) s c f why e = record { already = λ q is. cc; stale = λ x is. absurd (cc); conflict = λ x is. absurd (cc); full = λ x is. absurd (cc) }
first_cause None (Some y) c f why e = record { already = λ q is. absurd (cc); stale = λ x is. cc; conflict = λ x is. absurd (cc); full = λ x is. absurd (cc) }
first_cause None None (Some y) f why e = record { already = λ q is. absurd (cc); stale = λ x is. absurd (cc); conflict = λ x is. cc; full = λ x is. absurd (cc) }
first_cause None None None (Some y) why e = record { already = λ q is. absurd (cc); stale = λ x is. absurd (cc); conflict = λ x is. absurd (cc); full = λ x is. cc }
first_cause None None None None why e = absurd (cc)

-- which of the causes refuses the commit of an attempt
pub cause_of : (c : ContainerValue) (s : TriesValue) (a : AttemptValue) (done : DoneText) (why : CommitRefusal) → refusal_of c s a done ≡ Some why
    → FirstCause (commit_of c.boot.entries a.ticket.call.request) (stale_in c.boot.entries a.ticket.call.touched) (conflict_of c.boot.entries a.ticket.call) (full_for c.boot.start.limits c.boot.entries 1 (entry_bytes (Commit (entry_of a.ticket.call (action_of s done))))) why
cause_of c s a done why e =
    first_cause (commit_of c.boot.entries a.ticket.call.request) (stale_in c.boot.entries a.ticket.call.touched) (conflict_of c.boot.entries a.ticket.call) (full_for c.boot.start.limits c.boot.entries 1 (entry_bytes (Commit (entry_of a.ticket.call (action_of s done))))) why e

-- the last of a list
get_last : {A : Type 0} (xs : List A) (y : A) → slice_get (xs ++ y ∷ []) (length xs) ≡ Some y
get_last [] y = refl
get_last (x ∷ xs) y = get_last xs y

-- what two options that are one have
pub some_is : {A : Type 0} {x y : A} → Some x ≡ Some y → x ≡ y
some_is e = cc

-- the law of calls that follow a program to its end
abbrev pub DoneLaw : Type 0
DoneLaw = (parts : Parts) (asks : List Answer → Next) (rows : List RowWrite) (answers : List Answer) (call : Call) (d : DoneText)
    → IsSome (run_of parts asks rows) → Follows asks rows answers call → asks answers ≡ next.Done d
    → run_of parts asks rows ≡ Some (record { marks = call.marks; writes = call.writes; done = d })

-- What an attempt made that is done is what its program makes over the rows at its begin.
made_there : (law : DoneLaw) (boot : BootValue) (asks : List Answer → Next) (s : TriesValue) (a : AttemptValue) (done : DoneText)
    → IsSome (run_of boot.start.deployment asks (rows_at_begin boot a.ticket.call)) → IsUnderWay boot asks a → wanted asks a ≡ next.Done done
    → Makes boot.start.deployment asks (rows_at_begin boot a.ticket.call) (entry_of a.ticket.call (action_of s done)) done
unfolding Makes
made_there law boot asks s a done some way is = law boot.start.deployment asks (rows_at_begin boot a.ticket.call) a.answers a.ticket.call done some way.follows is

-- An attempt whose commit nothing refuses is served by its entry.
served_at : (law : DoneLaw) (boot : BootValue) (asks : List Answer → Next) (s : TriesValue) (a : AttemptValue) (done : DoneText) (before : List Event)
    → entries_in before ≡ boot.entries → IsSome (run_of boot.start.deployment asks (rows_at_begin boot a.ticket.call)) → IsServing boot asks s → IsOpen boot asks s a → wanted asks a ≡ next.Done done
    → commit_refusal boot.start.limits boot.entries a.ticket.call (action_of s done) ≡ None
    → IsServed boot.start (before ++ Added (Commit (entry_of a.ticket.call (action_of s done))) ∷ []) (errand_of s asks) (first_begin s.tries a.ticket.call.at.0) (length boot.entries)
served_at law boot asks s a done before seen some serving opened is none =
    let e : CommitEntry = entry_of a.ticket.call (action_of s done) in
    let free : IsFree boot.start.limits boot.entries a.ticket.call (action_of s done) = is_free boot.start.limits boot.entries a.ticket.call (action_of s done) none in
    let may : MayCommit boot.start.base boot.entries e = fits_commit boot.start.base boot.entries a.ticket.call (action_of s done) opened.way.fits.journal free.once free.fresh free.current in
    let made : Makes boot.start.deployment asks (rows_after boot.start.base boot.entries) e done = serial boot.start.deployment asks boot.start.base boot.entries e done may.current (made_there law boot asks s a done some opened.way is) in
    record {
      before = before;
      entry = e;
      done = done;
      last = refl;
      place_is = sym (ap (λ (es : List Entry). length es) seen);
      asked_for = record { request = opened.request; action = refl; since = first_before boot.start.deployment asks boot.entries s.tries a.ticket.call.at.0 serving.tries opened.after };
      made = subst (λ (es : List Entry). Makes boot.start.deployment asks (rows_after boot.start.base es) e done) (sym seen) made;
    }

-- the entries of a history that is one event longer
entries_more : (since : List Event) (e : Event) → entries_in (since ++ e ∷ []) ≡ entries_in since ++ entries_in (e ∷ [])
entries_more since e = flat_map-append entry_in since (e ∷ [])

-- where a request began
began : (boot : BootValue) (asks : List Answer → Next) (s : TriesValue) (a : AttemptValue) → IsServing boot asks s → IsOpen boot asks s a
    → first_begin s.tries a.ticket.call.at.0 ≤ length boot.entries
began boot asks s a serving opened =
    let before = first_before boot.start.deployment asks boot.entries s.tries a.ticket.call.at.0 serving.tries opened.after in
    let within = opened.way.fits.journal.at in
    omega (arith, before, within)

-- A commit that nothing refuses brings an end that stands, and adds just its entry.
committed : (law : DoneLaw) (old new : ContainerValue) (asks : List Answer → Next) (s after : TriesValue) (a : AttemptValue) (done : DoneText) (place : Place) (end : Option Ended)
    → entries_in old.since ≡ old.boot.entries
    → IsSome (run_of old.boot.start.deployment asks (rows_at_begin old.boot a.ticket.call)) → IsServing old.boot asks s → IsOpen old.boot asks s a → wanted asks a ≡ next.Done done
    → refusal_of old s a done ≡ None → CommitLeaves a.ticket.call (action_of s done) (Ok place) old new
    → end ≡ Some (ended_at (front_at new) (from_of s a.ticket.call.at) (Page place false) None) → Brings old new asks s after end
committed law old new asks s after a done place end seen some serving opened is none left hears =
    let e : CommitEntry = entry_of a.ticket.call (action_of s done) in
    let from : Place = from_of s a.ticket.call.at in
    let page : RequestOutcome = Page place false in
    let boot : new.boot ≡ with_entry old.boot (Commit e) = ap (λ (c : ContainerValue). c.boot) left.1 in
    let since : new.since ≡ old.since ++ Added (Commit e) ∷ [] = ap (λ (c : ContainerValue). c.since) left.1 in
    let entries : new.boot.entries ≡ old.boot.entries ++ Commit e ∷ [] = ap (λ (b : BootValue). b.entries) boot in
    let now : entries_in new.since ≡ new.boot.entries =
    ap entries_in since ∙ entries_more old.since (Added (Commit e)) ∙ ap (λ (es : List Entry). es ++ Commit e ∷ []) seen ∙ sym entries in
    let start : new.boot.start ≡ old.boot.start = ap (λ (b : BootValue). b.start) boot in
    let last : events_of new ≡ events_of old ++ Added (Commit e) ∷ [] =
    ap (λ (x : Start). Started x ∷ new.since) start ∙ ap (λ (xs : List Event). Started old.boot.start ∷ xs) since in
    let served : IsServed old.boot.start (events_of old ++ Added (Commit e) ∷ []) (errand_of s asks) from.0 place.0 =
    subst (λ (n : ℕ). IsServed old.boot.start (events_of old ++ Added (Commit e) ∷ []) (errand_of s asks) from.0 n) (sym left.0) (served_at law old.boot asks s a done (events_of old) seen some serving opened is none) in
    let there : IsServed new.boot.start (events_of old ++ Added (Commit e) ∷ []) (errand_of s asks) from.0 place.0 =
    subst (λ (x : Start). IsServed x (events_of old ++ Added (Commit e) ∷ []) (errand_of s asks) from.0 place.0) (sym start) served in
    let shows : OutcomeStands new.boot.start (events_of new) (errand_of s asks) from.0 page =
    subst (λ (es : List Event). IsServed new.boot.start es (errand_of s asks) from.0 place.0) (sym last) there in
    let before = began old.boot asks s a serving opened in
    let longer : length new.boot.entries ≡ length old.boot.entries + 1 = ap (λ (es : List Entry). length es) entries ∙ length-append old.boot.entries (Commit e ∷ []) in
    let stood : EndStands new.boot.start (events_of new) (errand_of s asks) (ended_at (front_at new) from page None) = stands new (errand_of s asks) from page None now (omega (arith, before, longer)) shows refl in
    let P : Option Ended → Type 0 = λ o. Brings old new asks s after o in
    subst P (sym hears) (record { serving = λ never. absurd (cc); ended = stood; counted = refl; adds = (e, since, left.0); failed = λ never. absurd (cc) })

-- what the end of a try adds to the history, where the container has stayed as it was
adds_nothing : (c : ContainerValue) (request : RequestNo) (s : TriesValue) (at : Place) (why : TryCause) (repeats : Bool) (end : Option Ended) (after : TriesValue)
    → EndsTry (front_at c) s at why repeats end after → StepAdds request end c c
adds_nothing c request s at why repeats None after ends = refl
adds_nothing c request s at (cause.Revoked shown) repeats (Some e) after ends = subst (λ (x : Ended). Adds request x.outcome c c) (sym ends.1) refl
adds_nothing c request s at (cause.Conflict mark newest) repeats (Some e) after ends = subst (λ (x : Ended). Adds request x.outcome c c) (sym ends.1) refl

-- and it tells the number of its events
all_counted : (c : ContainerValue) (s : TriesValue) (at : Place) (why : TryCause) (repeats : Bool) (end : Option Ended) (after : TriesValue)
    → EndsTry (front_at c) s at why repeats end after → IfSome end (λ e. e.held ≡ event_count c)
all_counted c s at why repeats None after ends = tt
all_counted c s at why repeats (Some e) after ends = ap (λ (x : Ended). x.held) ends.1

-- and no keeper failed
never_failed : (why : TryCause) (ts : List Try) → outcome_by why ts ≢ KeeperFailed
never_failed (cause.Revoked shown) ts is = absurd (cc)
never_failed (cause.Conflict mark newest) ts is = absurd (cc)

none_failed : (c : ContainerValue) (s : TriesValue) (at : Place) (why : TryCause) (repeats : Bool) (end : Option Ended) (after : TriesValue)
    → EndsTry (front_at c) s at why repeats end after → IfSome end (λ e. e.outcome ≡ KeeperFailed → Rose c.faults c.faults)
none_failed c s at why repeats None after ends = tt
none_failed c s at why repeats (Some e) after ends = λ is. absurd (never_failed why (s.tries ++ try_ended (front_at c) at why ∷ []) (sym (ap (λ (x : Ended). x.outcome) ends.1) ∙ is))

-- a try that ends with the container as it was
try_brings : (c : ContainerValue) (asks : List Answer → Next) (s : TriesValue) (a : AttemptValue) (why : TryCause) (repeats : Bool) (end : Option Ended) (after : TriesValue)
    → entries_in c.since ≡ c.boot.entries → IsServing c.boot asks s → IsOpen c.boot asks s a
    → CauseStands c.boot.start.deployment asks c.boot.entries a.ticket.call.at.0 why → (repeats ≡ false → EntersOnce c.boot.start.deployment asks × WasRevoked why)
    → EndsTry (front_at c) (closed s) a.ticket.call.at why repeats end after → Brings c c asks s after end
try_brings c asks s a why repeats end after seen serving opened shows once ends =
    let may : TryMayEnd c asks (closed s) a.ticket.call.at why repeats = record { seen = seen; few = serving.few; tries = serving.tries; after = opened.after; within = opened.way.fits.journal.at; shows = shows; once = once } in
    let both = try_ends c asks (closed s) a.ticket.call.at why repeats end after may ends in
    record { serving = both.0; ended = both.1; counted = all_counted c (closed s) a.ticket.call.at why repeats end after ends; adds = adds_nothing c s.request (closed s) a.ticket.call.at why repeats end after ends; failed = none_failed c (closed s) a.ticket.call.at why repeats end after ends }

-- a program entered once where its attempt tells it
entered_once : (boot : BootValue) (asks : List Answer → Next) (a : AttemptValue) (shown : Stale) → IsUnderWay boot asks a → a.repeats ≡ false → EntersOnce boot.start.deployment asks × WasRevoked (cause.Revoked shown)
entered_once boot asks a shown way is = let h = way.once.0 is in (record { answers = take h.before a.answers; once = h.once }, tt)

-- an end that leaves the container as it was
end_brings : (c : ContainerValue) (asks : List Answer → Next) (s after : TriesValue) (a : AttemptValue) (o : RequestOutcome) (done : Option DoneText) (end : Option Ended)
    → entries_in c.since ≡ c.boot.entries → IsServing c.boot asks s → IsOpen c.boot asks s a
    → OutcomeStands c.boot.start (events_of c) (errand_of s asks) (first_begin s.tries a.ticket.call.at.0) o → done ≡ copied_for c.boot.entries o → Adds s.request o c c → o ≢ KeeperFailed
    → end ≡ Some (ended_at (front_at c) (from_of s a.ticket.call.at) o done) → Brings c c asks s after end
end_brings c asks s after a o done end seen serving opened shows answers adds other is =
    let stood : EndStands c.boot.start (events_of c) (errand_of s asks) (ended_at (front_at c) (from_of s a.ticket.call.at) o done) = stands c (errand_of s asks) (from_of s a.ticket.call.at) o done seen (began c.boot asks s a serving opened) shows answers in
    subst (λ (x : Option Ended). Brings c c asks s after x) (sym is) (record { serving = λ none. absurd (cc); ended = stood; counted = refl; adds = adds; failed = λ failed. absurd (other failed) })

-- The stop of an attempt brings its end, and adds nothing.
pub stopped : (c : ContainerValue) (asks : List Answer → Next) (s after : TriesValue) (a : AttemptValue) (stop : Stop) (end : Option Ended)
    → entries_in c.since ≡ c.boot.entries → IsServing c.boot asks s → IsOpen c.boot asks s a → stop_of_attempt c.boot asks a ≡ Some stop
    → IsStopped (front_at c) (closed s) a.ticket.call.at a.repeats a.entered stop end after → Brings c c asks s after end
stopped c asks s after a (stops.Sentinel group down) end seen serving opened is ends =
    let shows = sentinel_shows c.boot asks a group down is in
    let o : RequestOutcome = Sentinel group down in
    let now : OutcomeStands c.boot.start (events_of c) (errand_of s asks) (first_begin s.tries a.ticket.call.at.0) o = (subst (λ (es : List Entry). down_of es group.0 ≡ Some down) (sym seen) shows.0, shows.1) in
    end_brings c asks s after a o None end seen serving opened now refl refl (λ never. absurd (cc)) ends
stopped c asks s after a (stops.Hung component fault) end seen serving opened is ends =
    let shows = fault_shows c.boot asks a component fault Hang opened.way ((hung_is c.boot a.ticket.call (wanted asks a) component fault).0 is).1 in
    let o : RequestOutcome = Hung component fault (a.entered ++ component ∷ []) in
    let now : OutcomeStands c.boot.start (events_of c) (errand_of s asks) (first_begin s.tries a.ticket.call.at.0) o = (subst (λ (es : List Entry). HasUncuredPlan c.boot.start es component fault Hang) (sym seen) shows.0, shows.1) in
    end_brings c asks s after a o None end seen serving opened now refl refl (λ never. absurd (cc)) ends
stopped c asks s after a (stops.Raised component fault) end seen serving opened is ends =
    let shows = fault_shows c.boot asks a component fault Raise opened.way ((raised_is c.boot a.ticket.call (wanted asks a) component fault).0 is).1 in
    let o : RequestOutcome = Raised component fault (a.entered ++ component ∷ []) in
    let now : OutcomeStands c.boot.start (events_of c) (errand_of s asks) (first_begin s.tries a.ticket.call.at.0) o = (subst (λ (es : List Entry). HasUncuredPlan c.boot.start es component fault Raise) (sym seen) shows.0, shows.1) in
    end_brings c asks s after a o None end seen serving opened now refl refl (λ never. absurd (cc)) ends
stopped c asks s after a (stops.Revoked shown) end seen serving opened is ends =
    let stale = (revoked_is c.boot a.ticket.call (wanted asks a) shown).0 is in
    try_brings c asks s a (cause.Revoked shown) a.repeats end after seen serving opened (revoked_shows c.boot asks a shown opened.way stale) (entered_once c.boot asks a shown opened.way) ends

-- all that a call rests on is of tables that its program accesses
all_accessed : (asks : List Answer → Next) (call : Call) → All (λ (m : Mark). Accesses asks (table_in m.read)) call.marks → All (λ (w : RowWrite). Accesses asks w.id.table) call.writes → All (λ (r : ReadMark). Accesses asks (table_in r)) (rests_on call)
all_accessed asks call marks writes =
    let P : ReadMark → Type 0 = λ r. Accesses asks (table_in r) in
    All-append P (map (λ (m : Mark). m.read) call.marks) (map (λ (w : RowWrite). read.Row w.id) call.writes)
    (All-map P (λ (m : Mark). m.read) call.marks marks) (All-map P (λ (w : RowWrite). read.Row w.id) call.writes writes)

-- A commit that is refused brings its end, and adds the mark of a keeper that failed alone.
uncommitted : (law : DoneLaw) (old new : ContainerValue) (asks : List Answer → Next) (s after : TriesValue) (a : AttemptValue) (done : DoneText) (end : Option Ended) (why : CommitRefusal)
    → entries_in old.since ≡ old.boot.entries
    → IsSome (run_of old.boot.start.deployment asks (rows_at_begin old.boot a.ticket.call)) → IsServing old.boot asks s → IsOpen old.boot asks s a → wanted asks a ≡ next.Done done
    → IsCause (refusal_of old s a done) why → RefusalLeaves why a.ticket.call old new → (why ≡ commits.KeeperFailed → Rose old.faults new.faults)
    → IsRefused (front_at new) new.boot.entries (closed s) a.ticket.call.at why a.repeats end after → Brings old new asks s after end
uncommitted law old new asks s after a done end why seen some serving opened is is_why leaves failed refused = go why is_why leaves failed refused
  where
    call : Call
    call = a.ticket.call

    from : Place
    from = from_of s call.at

    -- where the container is as it was
    as_it_was : (w : CommitRefusal) → new ≡ old → IsRefused (front_at new) new.boot.entries (closed s) call.at w a.repeats end after
        → (IsRefused (front_at old) old.boot.entries (closed s) call.at w a.repeats end after → Brings old old asks s after end) → Brings old new asks s after end
    as_it_was w e h brings =
        subst (λ (c : ContainerValue). Brings old c asks s after end) (sym e) (brings (subst (λ (c : ContainerValue). IsRefused (front_at c) c.boot.entries (closed s) call.at w a.repeats end after) e h))

    go : (w : CommitRefusal) → IsCause (refusal_of old s a done) w → RefusalLeaves w call old new → (w ≡ commits.KeeperFailed → Rose old.faults new.faults) → IsRefused (front_at new) new.boot.entries (closed s) call.at w a.repeats end after → Brings old new asks s after end
    go (commits.Already place) why left failed h =
        let there : commit_of old.boot.entries s.request ≡ Some place = rw (sym opened.request) ((cause_of old s a done (commits.Already place) why).already place refl) in
        let shows : OutcomeStands old.boot.start (events_of old) (errand_of s asks) from.0 (Page place true) = subst (λ (es : List Entry). commit_of es s.request ≡ Some place) (sym seen) there in
        as_it_was (commits.Already place) left h (λ now. end_brings old asks s after a (Page place true) (done_at old.boot.entries place) end seen serving opened shows refl refl (λ never. absurd (cc)) now)
    go (commits.Revoked shown) why left failed h =
        let stale = (cause_of old s a done (commits.Revoked shown) why).stale shown refl in
        as_it_was (commits.Revoked shown) left h (λ now. try_brings old asks s a (cause.Revoked shown) a.repeats end after seen serving opened (revoked_shows old.boot asks a shown opened.way stale) (entered_once old.boot asks a shown opened.way) now)
    go (commits.Conflict conflict) why left failed h =
        let newer : IsFirstNewer old.boot.entries call.at.0 (rests_on call) conflict = first_newer old.boot.entries call.at.0 (rests_on call) conflict ((cause_of old s a done (commits.Conflict conflict) why).conflict conflict refl) in
        let accessed : Accesses asks (table_in newer.read) = all_middle (λ (r : ReadMark). Accesses asks (table_in r)) newer.before newer.read newer.after
        (subst (λ (rs : List ReadMark). All (λ (r : ReadMark). Accesses asks (table_in r)) rs) newer.parts (all_accessed asks call opened.way.marks opened.way.writes)) in
        let shows : CauseStands old.boot.start.deployment asks old.boot.entries call.at.0 (cause.Conflict conflict.mark conflict.newest) =
        subst (λ (x : Conflict). CauseStands old.boot.start.deployment asks old.boot.entries call.at.0 (cause.Conflict x.mark x.newest)) (sym newer.shown) (record { newest_is = refl; newer = newer.newer }, accessed) in
        as_it_was (commits.Conflict conflict) left h (λ now. try_brings old asks s a (cause.Conflict conflict.mark conflict.newest) true end after seen serving opened shows (λ no_more. absurd (cc)) now)
    go (commits.JournalFull full) why left failed h =
        let none : HasNoRoom old.boot.start old.boot.entries (errand_of s asks) from.0 = record {
          entry = entry_of call (action_of s done);
          done = done;
          asked_for = record { request = opened.request; action = refl; since = first_before old.boot.start.deployment asks old.boot.entries s.tries call.at.0 serving.tries opened.after };
          within = opened.way.fits.journal.at;
          made = made_there law old.boot asks s a done some opened.way is;
        } in
        let shows : OutcomeStands old.boot.start (events_of old) (errand_of s asks) from.0 (JournalFull full) =
        subst (λ (es : List Entry). (n : HasNoRoom old.boot.start es (errand_of s asks) from.0) × (full_for old.boot.start.limits es 1 (entry_bytes (Commit n.entry)) ≡ Some full)) (sym seen)
        (none, (cause_of old s a done (commits.JournalFull full) why).full full refl) in
        as_it_was (commits.JournalFull full) left h (λ now. end_brings old asks s after a (JournalFull full) None end seen serving opened shows refl refl (λ never. absurd (cc)) now)
    go commits.KeeperFailed why left failed h =
        let since : new.since ≡ old.since ++ FailedMark s.request ∷ [] = rw (sym opened.request) left.1 in
        let entries : new.boot.entries ≡ old.boot.entries = ap (λ (b : BootValue). b.entries) left.0 in
        let now : entries_in new.since ≡ new.boot.entries = ap entries_in since ∙ entries_more old.since (FailedMark s.request) ∙ append-nil (entries_in old.since) ∙ seen ∙ sym entries in
        let shows : OutcomeStands new.boot.start (events_of new) (errand_of s asks) from.0 KeeperFailed = (Started new.boot.start ∷ old.since, ap (λ (xs : List Event). Started new.boot.start ∷ xs) since) in
        let before = began old.boot asks s a serving opened in
        let same : length new.boot.entries ≡ length old.boot.entries = ap (λ (es : List Entry). length es) entries in
        let stood : EndStands new.boot.start (events_of new) (errand_of s asks) (ended_at (front_at new) from KeeperFailed None) = stands new (errand_of s asks) from KeeperFailed None now (omega (arith, before, same)) shows refl in
        subst (λ (x : Option Ended). Brings old new asks s after x) (sym h) (record { serving = λ never. absurd (cc); ended = stood; counted = refl; adds = since; failed = λ is. failed refl })
    go commits.OutOfMemory why left failed h = absurd h

-- A commit brings its end.
pub commit_brings : (law : DoneLaw) (old new : ContainerValue) (asks : List Answer → Next) (s after : TriesValue) (a : AttemptValue) (done : DoneText) (end : Option Ended)
    → entries_in old.since ≡ old.boot.entries
    → IsSome (run_of old.boot.start.deployment asks (rows_at_begin old.boot a.ticket.call)) → IsServing old.boot asks s → IsOpen old.boot asks s a → wanted asks a ≡ next.Done done
    → CommitsTry old s a done end new after → Brings old new asks s after end
commit_brings law old new asks s after a done end seen some serving opened is c = go c.answer c.is_answer c.leaves c.failed c.hears
  where
    go : (answer : Result Place Refused) → CommitAnswer (refusal_of old s a done) answer → CommitLeaves a.ticket.call (action_of s done) answer old new
        → IfErr answer (λ refused. refused.cause ≡ commits.KeeperFailed → Rose old.faults new.faults)
        → HearsCommit (front_at new) new.boot.entries (closed s) a.ticket.call.at a.repeats answer end after → Brings old new asks s after end
    go (Ok place) none left failed hears = committed law old new asks s after a done place end seen some serving opened is none left hears
    go (Err refused) why left failed hears = uncommitted law old new asks s after a done end refused.cause seen some serving opened is why left.0 failed hears

-- The end of a try is by no entry.
no_page : (now : HistoryFront) (s after : TriesValue) (at : Place) (why : TryCause) (repeats : Bool) (e : Ended) (place : Place) → EndsTry now s at why repeats (Some e) after → e.outcome ≡ Page place false → ⊥
no_page now s after at (cause.Revoked shown) repeats e place ends is = let told = ap (λ (x : Ended). x.outcome) ends.1 in absurd (cc)
no_page now s after at (cause.Conflict mark newest) repeats e place ends is = let told = ap (λ (x : Ended). x.outcome) ends.1 in absurd (cc)

-- And no end of a refused commit is by an entry of its own.
refused_page : (now : HistoryFront) (es : List Entry) (s after : TriesValue) (at : Place) (why : CommitRefusal) (repeats : Bool) (e : Ended) (place : Place)
    → IsRefused now es s at why repeats (Some e) after → e.outcome ≡ Page place false → ⊥
refused_page now es s after at (commits.Already there) repeats e place h is = let told = ap (λ (o : Option Ended). option_map (λ (x : Ended). x.outcome) o) h in absurd (cc)
refused_page now es s after at (commits.Revoked shown) repeats e place h is = no_page now s after at (cause.Revoked shown) repeats e place h is
refused_page now es s after at (commits.Conflict conflict) repeats e place h is = no_page now s after at (cause.Conflict conflict.mark conflict.newest) true e place h is
refused_page now es s after at (commits.JournalFull full) repeats e place h is = let told = ap (λ (o : Option Ended). option_map (λ (x : Ended). x.outcome) o) h in absurd (cc)
refused_page now es s after at commits.KeeperFailed repeats e place h is = let told = ap (λ (o : Option Ended). option_map (λ (x : Ended). x.outcome) o) h in absurd (cc)
refused_page now es s after at commits.OutOfMemory repeats e place h is = absurd h

-- what the entry of a commit answers, which nothing refused
own_answers : (old new : ContainerValue) (s : TriesValue) (a : AttemptValue) (done : DoneText) (place : Place) (e : Ended) → entries_in old.since ≡ old.boot.entries
    → CommitLeaves a.ticket.call (action_of s done) (Ok place) old new → e ≡ ended_at (front_at new) (from_of s a.ticket.call.at) (Page place false) None → done_of (events_of new) e ≡ Some done
own_answers old new s a done place e seen left is =
    let entry : CommitEntry = entry_of a.ticket.call (action_of s done) in
    let since : new.since ≡ old.since ++ Added (Commit entry) ∷ [] = ap (λ (c : ContainerValue). c.since) left.1 in
    let now : entries_in new.since ≡ old.boot.entries ++ Commit entry ∷ [] =
    ap entries_in since ∙ entries_more old.since (Added (Commit entry)) ∙ ap (λ (es : List Entry). es ++ Commit entry ∷ []) seen in
    let whole : take (event_count new) (events_of new) ≡ events_of new = take_all (length (events_of new)) (events_of new) (omega arith) in
    let answers : done_at (entries_in new.since) place ≡ Some done =
    ap (λ (es : List Entry). done_at es place) now ∙ ap (λ (n : ℕ). done_if (slice_get (old.boot.entries ++ Commit entry ∷ []) n)) left.0 ∙ ap done_if (get_last old.boot.entries (Commit entry)) in
    ap (λ (x : Ended). done_of (events_of new) x) is ∙ ap (λ (es : List Event). done_at (entries_in es) place) whole ∙ answers

-- The end of a commit answers what was committed, where it is by an entry of its own.
pub commit_answers : (old new : ContainerValue) (s after : TriesValue) (a : AttemptValue) (done : DoneText) (end : Option Ended) → entries_in old.since ≡ old.boot.entries
    → CommitsTry old s a done end new after → IfSome end (AnswersOwn (events_of new) done)
commit_answers old new s after a done None seen c = tt
commit_answers old new s after a done (Some e) seen c = λ place is. go c.answer c.leaves c.hears place is
  where
    go : (answer : Result Place Refused) → CommitLeaves a.ticket.call (action_of s done) answer old new
        → HearsCommit (front_at new) new.boot.entries (closed s) a.ticket.call.at a.repeats answer (Some e) after → (place : Place) → e.outcome ≡ Page place false → done_of (events_of new) e ≡ Some done
    go (Ok there) left hears place is = own_answers old new s a done there e seen left (some_is hears)
    go (Err refused) left hears place is = absurd (refused_page (front_at new) new.boot.entries (closed s) after a.ticket.call.at refused.cause a.repeats e place hears is)
