-- Each step in the container leaves fewer.
use Rattle.std.specs.Prelude.{IfSome, IsSome, Result, Ok, Err}
use Rattle.std.proofs.Common.{arith, ◌≡◌, ◌+◌, ◌-◌, ◌*◌, ◌<◌, ◌≤◌, ℕ, Bool, List, [], ◌∷◌, ◌++◌, length, Option, Some, None, inl, inr, refl, sym, ap, subst, length-append}
use Rattle.std.proofs.lemmas.Bool.{cases_lt}
use Rattle.crash_base.specs.declared.numbers.Place.{Place}
use Rattle.journal_model.specs.declared.entry.DoneText.{DoneText}
use Rattle.call_ticket.specs.Runs.{run_of}
use Rattle.call_ticket.specs.declared.limits.TheConstants.{MAX_STEPS}
use Rattle.call_ticket.specs.declared.next.Answer.{Answer}
use Rattle.call_ticket.specs.declared.next.Next.{Next}
use Rattle.call_ticket.specs.declared.next.Next.TheVariants as next
use Rattle.boot_core.specs.Boot.{BootValue}
use Rattle.boot_core.specs.declared.refusals.CommitRefusal.{CommitRefusal}
use Rattle.boot_core.specs.declared.refusals.CommitRefusal.TheVariants as commits
use Rattle.boot_core.specs.declared.refusals.Refused.{Refused}
use Rattle.container_core.specs.Container.{ContainerValue}
use Rattle.call_attempts.specs.Attempt.{AttemptValue, Continues, HasStepped, IsUnderWay, attempt_begun, rows_at_begin, stepped, wanted}
use Rattle.call_attempts.specs.declared.attempt.Stepped.{Stepped}
use Rattle.call_attempts.specs.declared.attempt.Stepped.TheVariants as coming
use Rattle.call_attempts.specs.declared.stop.Stop.{Stop}
use Rattle.call_attempts.specs.declared.stop.Stop.TheVariants as stops
use Rattle.request_tries.specs.Serving.{TriesValue, closed}
use Rattle.request_tries.specs.Steps.{CommitsTry, ComesTo, EndsTry, HearsCommit, IsRefused, IsStopped, StepsAs, front_at, progress_of}
use Rattle.request_tries.specs.declared.outcome.Ended.{Ended}
use Rattle.request_tries.specs.declared.outcome.HistoryFront.{HistoryFront}
use Rattle.request_tries.specs.declared.outcome.Progress.{Progress}
use Rattle.request_tries.specs.declared.outcome.Progress.TheVariants as progress
use Rattle.request_tries.specs.declared.outcome.TheConstants.{MAX_TRIES}
use Rattle.request_tries.specs.declared.outcome.Try.{Try}
use Rattle.request_tries.specs.declared.outcome.TryCause.{TryCause}
use Rattle.request_tries.specs.declared.outcome.TryCause.TheVariants as cause
use Rattle.unhindered_requests.specs.TriesLeft.{steps_of, tries_left, try_steps}

-- the law that an attempt comes to its end
abbrev pub DoneInTime : Type 0
DoneInTime = (boot : BootValue) (asks : List Answer → Next) (a : AttemptValue) → IsSome (run_of boot.start.deployment asks (rows_at_begin boot a.ticket.call)) → IsUnderWay boot asks a → MAX_STEPS ≤ length a.answers → (done : DoneText) × (wanted asks a ≡ next.Done done)

-- some steps are left for a request that is served
pub some_left : (s : TriesValue) (o : Option AttemptValue) → length s.tries < MAX_TRIES → 1 ≤ steps_of (length s.tries) o
some_left s None few = omega (arith, few)
some_left s (Some a) few = omega arith

-- at most as many as for three tries
pub few_left : (tries : ℕ) (o : Option AttemptValue) → steps_of tries o ≤ MAX_TRIES * try_steps
few_left tries None = omega arith
few_left tries (Some a) = omega arith

-- an attempt that has begun
pub begun_fewer : (tries : ℕ) (a : AttemptValue) → tries < MAX_TRIES → steps_of tries (Some a) < steps_of tries None
begun_fewer tries a few = omega (arith, few)

-- one answer more
pub answered_fewer : (tries : ℕ) (a later : AttemptValue) → length a.answers < MAX_STEPS → length later.answers ≡ length a.answers + 1 → steps_of tries (Some later) < steps_of tries (Some a)
answered_fewer tries a later few more = omega (arith, few, more)

-- one try more
pub tried_fewer : (s after : TriesValue) (t : Try) (a : AttemptValue) → after ≡ record s { tries = s.tries ++ t ∷ []; attempt = None } → tries_left after < steps_of (length s.tries) (Some a)
tried_fewer s after t a is =
    let more : length (s.tries ++ t ∷ []) ≡ length s.tries + 1 = length-append s.tries (t ∷ []) in
    let left : tries_left after ≡ (MAX_TRIES - length (s.tries ++ t ∷ [])) * try_steps = ap tries_left is in
    omega (arith, more, left)

-- fewer steps are left, where the request goes on
abbrev pub LeavesFewer : TriesValue → AttemptValue → Option Ended → TriesValue → Type 0
LeavesFewer s a end after = end ≡ None → tries_left after < steps_of (length s.tries) (Some a)

try_fewer : (now : HistoryFront) (s after : TriesValue) (a : AttemptValue) (at : Place) (why : TryCause) (repeats : Bool) (end : Option Ended) → EndsTry now (closed s) at why repeats end after → LeavesFewer s a end after
try_fewer now s after a at why repeats None ends none = tried_fewer s after _ a ends.2
try_fewer now s after a at why repeats (Some e) ends none = absurd (cc)

-- a commit after which the request goes on
pub commit_fewer : (old new : ContainerValue) (s after : TriesValue) (a : AttemptValue) (done : DoneText) (end : Option Ended) → CommitsTry old s a done end new after → LeavesFewer s a end after
commit_fewer old new s after a done end made = heard made.answer made.hears
  where
    refused : (why : CommitRefusal) → IsRefused (front_at new) new.boot.entries (closed s) a.ticket.call.at why a.repeats end after → LeavesFewer s a end after
    refused (commits.Already place) h none = absurd (let some = h in cc)
    refused (commits.Revoked shown) h none = try_fewer (front_at new) s after a a.ticket.call.at (cause.Revoked shown) a.repeats end h none
    refused (commits.Conflict conflict) h none = try_fewer (front_at new) s after a a.ticket.call.at (cause.Conflict conflict.mark conflict.newest) _ end h none
    refused (commits.JournalFull full) h none = absurd (let some = h in cc)
    refused commits.KeeperFailed h none = absurd (let some = h in cc)
    refused commits.OutOfMemory h none = absurd h

    heard : (answer : Result Place Refused) → HearsCommit (front_at new) new.boot.entries (closed s) a.ticket.call.at a.repeats answer end after → LeavesFewer s a end after
    heard (Ok place) h none = absurd (let some = h in cc)
    heard (Err r) h none = refused r.cause h none

-- What a step leaves: fewer; or the program is done, and the open try is to be committed.
abbrev pub StepsOn : TriesValue → Progress → TriesValue → Type 0
StepsOn s progress.Went mid = tries_left mid < tries_left s
StepsOn s (progress.Done done) mid = (a : AttemptValue) × (mid ≡ s) × (s.attempt ≡ Some a)
StepsOn s (progress.Ended e) mid = Unit {0}

goes_not : (x : Next) (done : DoneText) → x ≡ next.Done done → Continues x → ⊥
goes_not x done is goes = subst Continues is goes

-- a try that goes on has had fewer answers than it may have
pub few_answers : (law : DoneInTime) (c : ContainerValue) (asks : List Answer → Next) (a : AttemptValue) → IsSome (run_of c.boot.start.deployment asks (rows_at_begin c.boot a.ticket.call)) → IsUnderWay c.boot asks a → Continues (wanted asks a) → length a.answers < MAX_STEPS
few_answers law c asks a some way goes = elim (cases_lt (length a.answers) MAX_STEPS) [
  | inl few ↦ few
  | inr many ↦ (let done = law c.boot asks a some way many in absurd (goes_not (wanted asks a) done.0 done.1 goes))
]

-- a step of an open try
open_fewer : (law : DoneInTime) (c : ContainerValue) (asks : List Answer → Next) (s : TriesValue) (new : ContainerValue) (mid : TriesValue) (a : AttemptValue) (to : Progress) → IsSome (run_of c.boot.start.deployment asks (rows_at_begin c.boot a.ticket.call)) → IsUnderWay c.boot asks a
    → s.attempt ≡ Some a → StepsAs c asks s (Some a) to new mid → StepsOn s to mid
open_fewer law c asks s new mid a to some way is steps = go steps.0 steps.1 steps.2 steps.3
  where
    here : tries_left s ≡ steps_of (length s.tries) (Some a)
    here = ap (λ o. steps_of (length s.tries) o) is

    by_stop : (stop : Stop) (end : Option Ended) → IsStopped (front_at c) (closed s) a.ticket.call.at a.repeats a.entered stop end mid → StepsOn s (progress_of end) mid
    by_stop stop (Some e) h = tt
    by_stop (stops.Sentinel group down) None h = absurd (cc)
    by_stop (stops.Hung component fault) None h = absurd (cc)
    by_stop (stops.Raised component fault) None h = absurd (cc)
    by_stop (stops.Revoked shown) None h = (let less = try_fewer (front_at c) s mid a a.ticket.call.at (cause.Revoked shown) a.repeats None h refl in subst (λ n. tries_left mid < n) (sym here) less)

    go : (came : Stepped) (next : AttemptValue) → HasStepped c.boot asks a came next → ComesTo c asks s a came to mid → StepsOn s to mid
    go coming.Went next made h =
        let later : AttemptValue = stepped c.boot a (wanted asks a) in
        let less = answered_fewer (length s.tries) a later (few_answers law c asks a some way made.0) (length-append a.answers _) in
        let is_mid : tries_left mid ≡ steps_of (length s.tries) (Some later) = ap tries_left h.1 in
        subst (λ (p : Progress). StepsOn s p mid) (sym h.0) (omega (arith, less, here, is_mid))
    go (coming.Done done) next made h = subst (λ (p : Progress). StepsOn s p mid) (sym h.0) (a, h.1, is)
    go (coming.Stopped stop) next made h = subst (λ (p : Progress). StepsOn s p mid) (sym h.1) (by_stop stop h.0 h.2)

-- a step of a request that is served
pub step_fewer : (law : DoneInTime) (c : ContainerValue) (asks : List Answer → Next) (s : TriesValue) (new : ContainerValue) (mid : TriesValue) (o : Option AttemptValue) (to : Progress) → ((a : AttemptValue) → IsSome (run_of c.boot.start.deployment asks (rows_at_begin c.boot a.ticket.call)))
    → length s.tries < MAX_TRIES → IfSome o (λ a. IsUnderWay c.boot asks a) → s.attempt ≡ o → StepsAs c asks s o to new mid → StepsOn s to mid
step_fewer law c asks s new mid None to some few way is steps =
    let here : tries_left s ≡ steps_of (length s.tries) None = ap (λ o. steps_of (length s.tries) o) is in
    let is_mid : tries_left mid ≡ steps_of (length s.tries) (Some (attempt_begun s.request s.worker (record { 0 = length c.boot.entries }))) = ap tries_left steps.1 in
    let less = begun_fewer (length s.tries) (attempt_begun s.request s.worker (record { 0 = length c.boot.entries })) few in
    subst (λ (p : Progress). StepsOn s p mid) (sym steps.0) (omega (arith, here, is_mid, less))
step_fewer law c asks s new mid (Some a) to some few way is steps = open_fewer law c asks s new mid a to (some a) way is steps
