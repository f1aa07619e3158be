-- The step of a request in a container is the one that the function gives.
use Rattle.std.proofs.Common.{◌≡◌, ◌≢◌, ◌⊎◌, ◌≤◌, ◌<◌, ◌+◌, inl, inr, ℕ, Bool, true, false, ◌&&◌, List, [], ◌∷◌, ◌++◌, length, Option, Some, None, Result, Ok, Err, refl, sym, ap, ◌∙◌, subst, arith}
use Rattle.std.specs.Prelude.{nat_lt, if◌then◌else◌}
use Rattle.std.proofs.lemmas.Bool.Decides.{nat_tests}
use Rattle.boot_core.specs.Boot.{BootValue}
use Rattle.boot_core.specs.Keeper.{TellsCause}
use Rattle.boot_core.specs.Refusals.{CommitAnswer}
use Rattle.boot_core.specs.declared.refusals.CommitRefusal.{CommitRefusal}
use Rattle.boot_core.specs.declared.refusals.CommitRefusal.TheVariants as commits
use Rattle.boot_core.specs.declared.refusals.Refused.{Refused}
use Rattle.call_attempts.specs.Attempt.{AttemptValue, Continues, HasStepped, boot_after, boot_left, stop_of_attempt, stepped, wanted}
use Rattle.call_attempts.specs.declared.attempt.Stepped.{Stepped}
use Rattle.call_attempts.specs.declared.attempt.Stepped.TheVariants as coming
use Rattle.call_attempts.specs.declared.stop.Stop.{Stop}
use Rattle.call_attempts.specs.declared.stop.Stop.TheVariants as stops
use Rattle.call_ticket.specs.declared.next.Answer.{Answer}
use Rattle.call_ticket.specs.declared.next.Next.{Next}
use Rattle.call_ticket.specs.declared.next.Next.TheVariants as next
use Rattle.container_core.specs.Container.{CommitLeaves, ContainerValue, RefusalLeaves, with_boot}
use Rattle.container_core.specs.declared.history.Event.{Event}
use Rattle.container_core.specs.declared.history.Event.TheVariants.{Added, KeeperFailed}
use Rattle.crash_base.specs.declared.numbers.ComponentNo.{ComponentNo}
use Rattle.crash_base.specs.declared.numbers.Place.{Place}
use Rattle.crash_base.specs.declared.rows.RowWrite.{RowWrite}
use Rattle.journal_model.specs.Calls.{Call, entry_of}
use Rattle.journal_model.specs.declared.entry.ActionEntry.{ActionEntry}
use Rattle.journal_model.specs.declared.entry.DoneText.{DoneText}
use Rattle.journal_model.specs.declared.entry.Entry.{Entry}
use Rattle.journal_model.specs.declared.entry.Entry.TheVariants.{Commit}
use Rattle.request_tries.specs.Serving.{TriesValue, closed, has_begun, with_try}
use Rattle.request_tries.specs.Steps.{CommitsAs, CommitsTry, ComesTo, EndsTry, HearsCommit, IsRefused, IsStopped, StepsAs, action_of, ended_at, from_of, front_at, outcome_by, progress_of, refusal_of, try_ended}
use Rattle.request_tries.specs.declared.outcome.Ended.{Ended}
use Rattle.request_tries.specs.declared.outcome.HistoryFront.{HistoryFront}
use Rattle.request_tries.specs.declared.outcome.Progress.{Progress}
use Rattle.request_tries.specs.declared.outcome.Progress.TheVariants as progress
use Rattle.request_tries.specs.declared.outcome.TheConstants.{MAX_TRIES}
use Rattle.request_tries.specs.declared.outcome.TryCause.{TryCause}
use Rattle.request_tries.specs.declared.outcome.TryCause.TheVariants as cause
use Rattle.request_visit.specs.Serving.{GoesOn}
use Rattle.shepherd_steps.specs.Inside.{Course, Goes, Ends, Stride, added_to, after_commit, after_entry, after_refusal, after_stop, after_try, are_kept, came_by, commit_inside, commits_by, kept_in, stride, stride_by, unless_stopped, with_keeper}

-- what comes of a step that does not end the call
goes_on : (x : Next) (stop : Option Stop) → Continues x → came_by x stop ≡ unless_stopped stop
goes_on (next.Enter component method) stop h = refl
goes_on (next.Read id) stop h = refl
goes_on (next.List table) stop h = refl
goes_on (next.Put write) stop h = refl
goes_on next.Exit stop h = refl
goes_on (next.Done done) stop h = absurd h

pub came-so : (boot : BootValue) (asks : List Answer → Next) (a : AttemptValue) (came : Stepped) (after : AttemptValue)
    → HasStepped boot asks a came after → came_by (wanted asks a) (stop_of_attempt boot asks a) ≡ came
came-so boot asks a coming.Went after h =
    goes_on (wanted asks a) (stop_of_attempt boot asks a) h.0 ∙ ap unless_stopped h.1
came-so boot asks a (coming.Done done) after h = ap (λ (x : Next). came_by x (stop_of_attempt boot asks a)) h.0
came-so boot asks a (coming.Stopped stop) after h =
    goes_on (wanted asks a) (stop_of_attempt boot asks a) h.0 ∙ ap unless_stopped h.1

-- what a step came to, as a course
abbrev pub came_to : Option Ended → TriesValue → Course
came_to None tries = Goes tries
came_to (Some end) tries = Ends end

goes-so : (end : Option Ended) (tries : TriesValue) → end ≡ None → came_to end tries ≡ Goes tries
goes-so end tries h = ap (λ (e : Option Ended). came_to e tries) h

ends-so : (end : Option Ended) (tries : TriesValue) (e : Ended) → end ≡ Some e → came_to end tries ≡ Ends e
ends-so end tries e h = ap (λ (o : Option Ended). came_to o tries) h

may : (n : ℕ) (repeats : Bool) → n < MAX_TRIES → repeats ≡ true → (nat_lt n MAX_TRIES && repeats) ≡ true
may n repeats few again = grind (arith, nat_tests)

may_not : (n : ℕ) (repeats : Bool) → (MAX_TRIES ≤ n) ⊎ (repeats ≡ false) → (nat_lt n MAX_TRIES && repeats) ≡ false
may_not n repeats (inl many) = grind (arith, nat_tests)
may_not n repeats (inr once) = grind (arith, nat_tests)

choose : (test known : Bool) (x y : Course) → test ≡ known → (if test then x else y) ≡ (if known then x else y)
choose test known x y e = ap (λ (b : Bool). if b then x else y) e

tried : (now : HistoryFront) (s : TriesValue) (at : Place) (why : TryCause) (repeats : Bool) (end : Option Ended) (after : TriesValue)
    → EndsTry now s at why repeats end after → came_to end after ≡ after_try now s at why repeats
tried now s at why repeats None after h =
    ap Goes h.2 ∙ sym (choose (nat_lt (length s.tries + 1) MAX_TRIES && repeats) true
    (Goes (with_try s (try_ended now at why)))
    (Ends (ended_at now (from_of s at) (outcome_by why (s.tries ++ try_ended now at why ∷ [])) None))
    (may (length s.tries + 1) repeats h.0 h.1))
tried now s at why repeats (Some end) after h =
    ap Ends h.1 ∙ sym (choose (nat_lt (length s.tries + 1) MAX_TRIES && repeats) false
    (Goes (with_try s (try_ended now at why)))
    (Ends (ended_at now (from_of s at) (outcome_by why (s.tries ++ try_ended now at why ∷ [])) None))
    (may_not (length s.tries + 1) repeats h.0))

stopped : (now : HistoryFront) (s : TriesValue) (at : Place) (repeats : Bool) (entered : List ComponentNo) (stop : Stop) (end : Option Ended) (after : TriesValue)
    → IsStopped now s at repeats entered stop end after → came_to end after ≡ after_stop now s at repeats entered stop
stopped now s at repeats entered (stops.Sentinel group down) end after h = ends-so end after _ h
stopped now s at repeats entered (stops.Hung component fault) end after h = ends-so end after _ h
stopped now s at repeats entered (stops.Raised component fault) end after h = ends-so end after _ h
stopped now s at repeats entered (stops.Revoked shown) end after h = tried now s at (cause.Revoked shown) repeats end after h

refused : (now : HistoryFront) (es : List Entry) (s : TriesValue) (at : Place) (refusal : CommitRefusal) (repeats : Bool) (end : Option Ended) (after : TriesValue)
    → IsRefused now es s at refusal repeats end after → came_to end after ≡ after_refusal now es s at repeats refusal
refused now es s at (commits.Revoked shown) repeats end after h = tried now s at (cause.Revoked shown) repeats end after h
refused now es s at (commits.Conflict conflict) repeats end after h =
    tried now s at (cause.Conflict conflict.mark conflict.newest) true end after h
refused now es s at (commits.Already place) repeats end after h = ends-so end after _ h
refused now es s at (commits.JournalFull full) repeats end after h = ends-so end after _ h
refused now es s at commits.KeeperFailed repeats end after h = ends-so end after _ h
refused now es s at commits.OutOfMemory repeats end after h = absurd h

-- the refusal in an answer, if it is one
refusal_in : Result Place Refused → Option CommitRefusal
refusal_in (Ok place) = None
refusal_in (Err refused) = Some refused.cause

heard : (now : HistoryFront) (es : List Entry) (s : TriesValue) (at : Place) (repeats : Bool) (place : Place) (answer : Result Place Refused) (end : Option Ended) (after : TriesValue)
    → ((own : Place) → answer ≡ Ok own → own ≡ place)
    → HearsCommit now es s at repeats answer end after → came_to end after ≡ after_commit now es s at repeats place (refusal_in answer)
unfolding refusal_in
heard now es s at repeats place (Ok own) end after placed h =
    ends-so end after _ h ∙ ap (λ (p : Place). after_commit now es s at repeats p None) (placed own refl)
heard now es s at repeats place (Err why) end after placed h = refused now es s at why.cause repeats end after h

-- A step came to this, and left this of the container.
pub record Comes (to : Stride) (end : Option Ended) (tries : TriesValue) (new : ContainerValue) : Type 0 where
  pub course : came_to end tries ≡ to.course
  pub boot : new.boot ≡ to.container.boot
  pub since : new.since ≡ to.container.since

front-same : (x y : ContainerValue) → x.boot ≡ y.boot → x.since ≡ y.since → front_at x ≡ front_at y
front-same x y boot since =
    ap (λ (b : BootValue). front_at (record x { boot = b })) boot
    ∙ ap (λ (es : List Event). front_at (record x { boot = y.boot; since = es })) since

-- what a commit leaves of the boot and of its events
record Left (old : ContainerValue) (call : Call) (action : Option ActionEntry) (refusal : Option CommitRefusal) (new : ContainerValue) : Type 0 where
  boot : new.boot ≡ (after_entry old call action refusal).boot
  since : new.since ≡ (after_entry old call action refusal).since

same-left : (old : ContainerValue) (call : Call) (action : Option ActionEntry) (new : ContainerValue) (refusal : CommitRefusal)
    → (after_entry old call action (Some refusal)) ≡ old → new ≡ old → Left old call action (Some refusal) new
same-left old call action new refusal kept same = record {
  boot = ap (λ (c : ContainerValue). c.boot) same ∙ sym (ap (λ (c : ContainerValue). c.boot) kept);
  since = ap (λ (c : ContainerValue). c.since) same ∙ sym (ap (λ (c : ContainerValue). c.since) kept);
}

refusal-leaves : (old : ContainerValue) (call : Call) (action : Option ActionEntry) (refusal : CommitRefusal) (new : ContainerValue)
    → RefusalLeaves refusal call old new → Left old call action (Some refusal) new
refusal-leaves old call action commits.KeeperFailed new h = record { boot = h.0; since = h.1 }
refusal-leaves old call action commits.OutOfMemory new h = record { boot = h.0; since = h.1 }
refusal-leaves old call action (commits.Already place) new h = same-left old call action new (commits.Already place) refl h
refusal-leaves old call action (commits.Revoked shown) new h = same-left old call action new (commits.Revoked shown) refl h
refusal-leaves old call action (commits.Conflict conflict) new h = same-left old call action new (commits.Conflict conflict) refl h
refusal-leaves old call action (commits.JournalFull full) new h = same-left old call action new (commits.JournalFull full) refl h

commit-leaves : (old : ContainerValue) (call : Call) (action : Option ActionEntry) (answer : Result Place Refused) (new : ContainerValue)
    → CommitLeaves call action answer old new → Left old call action (refusal_in answer) new
unfolding refusal_in
commit-leaves old call action (Ok place) new h =
    record { boot = ap (λ (c : ContainerValue). c.boot) h.1; since = ap (λ (c : ContainerValue). c.since) h.1 }
commit-leaves old call action (Err why) new h = refusal-leaves old call action why.cause new h.0

ok-same : (x y : Place) → (let a : Result Place Refused = Ok x in a) ≡ Ok y → x ≡ y
ok-same x y e = cc

own-place : (old : ContainerValue) (call : Call) (action : Option ActionEntry) (answer : Result Place Refused) (new : ContainerValue)
    → CommitLeaves call action answer old new → (own : Place) → answer ≡ Ok own → own ≡ record { 0 = length old.boot.entries }
own-place old call action (Ok place) new h own is =
    sym (ok-same place own is) ∙ ap (λ (n : ℕ). let p : Place = record { 0 = n } in p) h.0
own-place old call action (Err why) new h own is = absurd (cc)

-- a commit, by its answer
committed : (old : ContainerValue) (s : TriesValue) (a : AttemptValue) (done : DoneText) (answer : Result Place Refused) (end : Option Ended) (new : ContainerValue) (after : TriesValue)
    → CommitLeaves a.ticket.call (action_of s done) answer old new
    → HearsCommit (front_at new) new.boot.entries (closed s) a.ticket.call.at a.repeats answer end after
    → Comes (commits_by old s a done (refusal_in answer)) end after new
committed old s a done answer end new after leaves hears =
    let left = commit-leaves old a.ticket.call (action_of s done) answer new leaves in
    let committed_so : ContainerValue = after_entry old a.ticket.call (action_of s done) (refusal_in answer) in
    let place : Place = record { 0 = length old.boot.entries } in
    record {
      course = heard (front_at new) new.boot.entries (closed s) a.ticket.call.at a.repeats place answer end after
          (own-place old a.ticket.call (action_of s done) answer new leaves) hears
          ∙ (ap (λ (now : HistoryFront). after_commit now new.boot.entries (closed s) a.ticket.call.at a.repeats place (refusal_in answer)) (front-same new committed_so left.boot left.since)
          ∙ ap (λ (b : BootValue). after_commit (front_at committed_so) b.entries (closed s) a.ticket.call.at a.repeats place (refusal_in answer)) left.boot);
      boot = left.boot;
      since = left.since;
    }

pub behind-all : (xs ys : List Event) → added_to xs (xs ++ ys) ≡ ys
behind-all [] ys = refl
behind-all (x ∷ xs) ys = behind-all xs ys

kept-alone : (writes : List RowWrite) → are_kept writes true ≡ true
kept-alone [] = refl
kept-alone (w ∷ ws) = refl

unkept : (writes : List RowWrite) → writes ≢ [] → with_keeper None writes false ≡ Some commits.KeeperFailed
unkept [] some = absurd (some refl)
unkept (w ∷ ws) some = refl

-- what refuses a commit is what the boot refuses, and then what the history tells of the keeper
asked : (old : ContainerValue) (s : TriesValue) (a : AttemptValue) (done : DoneText) (answer : Result Place Refused) (end : Option Ended) (new : ContainerValue) (after : TriesValue)
    → CommitAnswer (refusal_of old s a done) answer → CommitLeaves a.ticket.call (action_of s done) answer old new
    → HearsCommit (front_at new) new.boot.entries (closed s) a.ticket.call.at a.repeats answer end after
    → with_keeper (refusal_of old s a done) a.ticket.call.writes (kept_in (added_to old.since new.since)) ≡ refusal_in answer
unfolding refusal_in
asked old s a done (Ok place) end new after is leaves hears =
    let kept : kept_in (added_to old.since new.since) ≡ true =
    ap (λ (es : List Event). kept_in (added_to old.since es)) (ap (λ (c : ContainerValue). c.since) leaves.1)
    ∙ ap kept_in (behind-all old.since (Added (Commit (entry_of a.ticket.call (action_of s done))) ∷ [])) in
    ap (λ (r : Option CommitRefusal). with_keeper r a.ticket.call.writes (kept_in (added_to old.since new.since))) is
    ∙ (ap (λ (k : Bool). with_keeper None a.ticket.call.writes k) kept
    ∙ ap (λ (k : Bool). if k then None else Some commits.KeeperFailed) (kept-alone a.ticket.call.writes))
asked old s a done (Err why) end new after is leaves hears = by why.cause is leaves hears where
  by : (c : CommitRefusal) → Rattle.boot_core.specs.Refusals.IsCause (refusal_of old s a done) c
      → RefusalLeaves c a.ticket.call old new × TellsCause c a.ticket.call.writes old.told new.told
      → IsRefused (front_at new) new.boot.entries (closed s) a.ticket.call.at c a.repeats end after
      → with_keeper (refusal_of old s a done) a.ticket.call.writes (kept_in (added_to old.since new.since)) ≡ Some c
  by commits.KeeperFailed none left h =
      let failed : kept_in (added_to old.since new.since) ≡ false =
      ap (λ (es : List Event). kept_in (added_to old.since es)) left.0.1
      ∙ ap kept_in (behind-all old.since (KeeperFailed a.ticket.call.request ∷ [])) in
      ap (λ (r : Option CommitRefusal). with_keeper r a.ticket.call.writes (kept_in (added_to old.since new.since))) none
      ∙ (ap (λ (k : Bool). with_keeper None a.ticket.call.writes k) failed ∙ unkept a.ticket.call.writes left.1.0)
  by commits.OutOfMemory none left h = absurd h
  by (commits.Already place) some left h =
      ap (λ (r : Option CommitRefusal). with_keeper r a.ticket.call.writes (kept_in (added_to old.since new.since))) some
  by (commits.Revoked shown) some left h =
      ap (λ (r : Option CommitRefusal). with_keeper r a.ticket.call.writes (kept_in (added_to old.since new.since))) some
  by (commits.Conflict conflict) some left h =
      ap (λ (r : Option CommitRefusal). with_keeper r a.ticket.call.writes (kept_in (added_to old.since new.since))) some
  by (commits.JournalFull full) some left h =
      ap (λ (r : Option CommitRefusal). with_keeper r a.ticket.call.writes (kept_in (added_to old.since new.since))) some

-- a commit, by what the history tells of the keeper
tries-commit : (old : ContainerValue) (s : TriesValue) (a : AttemptValue) (done : DoneText) (end : Option Ended) (new : ContainerValue) (after : TriesValue)
    → CommitsTry old s a done end new after → Comes (commit_inside (kept_in (added_to old.since new.since)) old s a done) end after new
tries-commit old s a done end new after h =
    subst (λ (r : Option CommitRefusal). Comes (commits_by old s a done r) end after new)
    (sym (asked old s a done h.answer end new after h.is_answer h.leaves h.hears))
    (committed old s a done h.answer end new after h.leaves h.hears)

-- a step that commits nothing leaves this container
still-comes : (c new : ContainerValue) (to : Course) (end : Option Ended) (after : TriesValue) → new ≡ c → came_to end after ≡ to
    → Comes (record { course = to; container = c }) end after new
still-comes c new to end after same course = record {
  course = course;
  boot = ap (λ (x : ContainerValue). x.boot) same;
  since = ap (λ (x : ContainerValue). x.since) same;
}

-- a step that goes on, and then no more is done
pub went-on : (between : ContainerValue) (mid : TriesValue) (to : Progress) (end : Option Ended) (new : ContainerValue) (after : TriesValue)
    → to ≡ progress.Went → GoesOn between mid to end new after → (new ≡ between) × (came_to end after ≡ Goes mid)
went-on between mid to end new after is goes =
    let now : GoesOn between mid progress.Went end new after = subst (λ (p : Progress). GoesOn between mid p end new after) is goes in
    (now.1, goes-so end after now.0 ∙ ap Goes now.2)

-- a step that was given up
pub gave-up : (between : ContainerValue) (mid : TriesValue) (to : Progress) (ended end : Option Ended) (new : ContainerValue) (after : TriesValue)
    → to ≡ progress_of ended → GoesOn between mid to end new after → (new ≡ between) × (came_to end after ≡ came_to ended mid)
gave-up between mid to None end new after is goes = went-on between mid to end new after is goes
gave-up between mid to (Some e) end new after is goes =
    let now : GoesOn between mid (progress.Ended e) end new after = subst (λ (p : Progress). GoesOn between mid p end new after) is goes in
    (now.1, ends-so end after e now.0)

-- a step that found its program done is committed in the container as it was
pub was-done : (old : ContainerValue) (s : TriesValue) (a : AttemptValue) (done : DoneText) (to : Progress) (between : ContainerValue) (mid : TriesValue) (end : Option Ended) (new : ContainerValue) (after : TriesValue)
    → s.attempt ≡ Some a → to ≡ progress.Done done → mid ≡ s → between ≡ old → GoesOn between mid to end new after → CommitsTry old s a done end new after
was-done old s a done to between mid end new after under is same_tries same goes =
    let now : GoesOn between mid (progress.Done done) end new after = subst (λ (p : Progress). GoesOn between mid p end new after) is goes in
    let of_s : CommitsAs between s s.attempt done end new after = subst (λ (m : TriesValue). CommitsAs between m m.attempt done end new after) same_tries now in
    let of_a : CommitsAs between s (Some a) done end new after = subst (λ (o : Option AttemptValue). CommitsAs between s o done end new after) under of_s in
    subst (λ (c : ContainerValue). CommitsTry c s a done end new after) same of_a

-- the step of an open attempt, by what came of it
attempt-comes : (asks : List Answer → Next) (old : ContainerValue) (s : TriesValue) (a : AttemptValue) (came : Stepped) (to : Progress) (between : ContainerValue) (mid : TriesValue) (end : Option Ended) (new : ContainerValue) (after : TriesValue)
    → s.attempt ≡ Some a → ComesTo old asks s a came to mid → between ≡ with_boot old (boot_left old.boot (wanted asks a) came) → GoesOn between mid to end new after
    → Comes (stride_by asks (kept_in (added_to old.since new.since)) old s a came) end after new
attempt-comes asks old s a coming.Went to between mid end new after under comes left goes =
    let went = went-on between mid to end new after comes.0 goes in
    still-comes (with_boot old (boot_after old.boot (wanted asks a))) new (Goes (record s { attempt = Some (stepped old.boot a (wanted asks a)) })) end after
    (went.0 ∙ left) (went.1 ∙ ap Goes comes.1)
attempt-comes asks old s a (coming.Done done) to between mid end new after under comes left goes =
    tries-commit old s a done end new after (was-done old s a done to between mid end new after under comes.0 comes.1 left goes)
attempt-comes asks old s a (coming.Stopped stop) to between mid end new after under comes left goes =
    let gone = gave-up between mid to comes.0 end new after comes.1 goes in
    still-comes old new _ end after (gone.0 ∙ left) (gone.1 ∙ stopped (front_at old) (closed s) a.ticket.call.at a.repeats a.entered stop comes.0 mid comes.2)

pub strides : (asks : List Answer → Next) (old : ContainerValue) (s : TriesValue) (at : Option AttemptValue) (to : Progress) (between : ContainerValue) (mid : TriesValue) (end : Option Ended) (new : ContainerValue) (after : TriesValue)
    → s.attempt ≡ at → StepsAs old asks s at to between mid → GoesOn between mid to end new after
    → Comes (stride asks (kept_in (added_to old.since new.since)) old s at) end after new
strides asks old s None to between mid end new after under steps goes =
    let went = went-on between mid to end new after steps.0 goes in
    still-comes old new (Goes (has_begun old.boot s)) end after (went.0 ∙ steps.2) (went.1 ∙ ap Goes steps.1)
strides asks old s (Some a) to between mid end new after under steps goes =
    subst (λ (c : Stepped). Comes (stride_by asks (kept_in (added_to old.since new.since)) old s a c) end after new)
    (sym (came-so old.boot asks a steps.0 steps.1 steps.2))
    (attempt-comes asks old s a steps.0 to between mid end new after under steps.3 steps.4 goes)
