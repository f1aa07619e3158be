-- The steps of a request in a container.
use Rattle.std.specs.Prelude.{◌≡◌, ◌⊎◌, ◌+◌, ◌<◌, ◌≤◌, Bool, true, false, List, [], ◌∷◌, ◌++◌, length, Option, Some, None, IfSome, IfErr, Result, Ok, Err}
use Rattle.crash_base.specs.declared.numbers.ComponentNo.{ComponentNo}
use Rattle.crash_base.specs.declared.numbers.Place.{Place}
use Rattle.journal_model.specs.declared.entry.ActionEntry.{ActionEntry}
use Rattle.journal_model.specs.declared.entry.DoneText.{DoneText}
use Rattle.journal_model.specs.declared.entry.Entry.{Entry}
use Rattle.outside.specs.Faults.{Rose}
use Rattle.outside.specs.Keeper.{TellsRefusal}
use Rattle.outside.specs.declared.keeper.KeeperFault.TheVariants as faults
use Rattle.call_ticket.specs.declared.next.Answer.{Answer}
use Rattle.call_ticket.specs.declared.next.Next.{Next}
use Rattle.boot_core.specs.Boot.{BootValue, HasOnlyEntered}
use Rattle.boot_core.specs.Refusals.{CommitAnswer, commit_refusal}
use Rattle.boot_core.specs.declared.refusals.CommitRefusal.{CommitRefusal}
use Rattle.boot_core.specs.declared.refusals.CommitRefusal.TheVariants as commits
use Rattle.boot_core.specs.declared.refusals.Refused.{Refused}
use Rattle.container_core.specs.Container.{ContainerValue, CommitLeaves, event_count, events_of, with_boot}
use Rattle.container_core.specs.declared.history.Event.{Event}
use Rattle.call_attempts.specs.Attempt.{AttemptValue, HasAtMostMade, HasStepped, IsUnderWay, boot_left, stepped, wanted}
use Rattle.call_attempts.specs.declared.attempt.Stepped.{Stepped}
use Rattle.call_attempts.specs.declared.attempt.Stepped.TheVariants as coming
use Rattle.call_attempts.specs.declared.stop.Stop.{Stop}
use Rattle.call_attempts.specs.declared.stop.Stop.TheVariants as stops
use Rattle.request_tries.specs.Ends.{MayEnd, StepAdds, done_at, done_of}
use Rattle.request_tries.specs.Serving.{IsServing, TriesValue, closed, errand_of, has_begun, with_try}
use Rattle.request_tries.specs.Tries.{first_begin}
use Rattle.request_tries.specs.declared.outcome.Ended.{Ended}
use Rattle.request_tries.specs.declared.outcome.HistoryFront.{HistoryFront}
use Rattle.request_tries.specs.declared.outcome.Progress.{Progress}
use Rattle.request_tries.specs.declared.outcome.Progress.TheVariants as progress
use Rattle.request_tries.specs.declared.outcome.RequestOutcome.{RequestOutcome}
use Rattle.request_tries.specs.declared.outcome.RequestOutcome.TheVariants.{Page, Sentinel, Hung, Raised, Revoked, Conflict, JournalFull, KeeperFailed}
use Rattle.request_tries.specs.declared.outcome.Try.{Try}
use Rattle.request_tries.specs.declared.outcome.TryCause.{TryCause}
use Rattle.request_tries.specs.declared.outcome.TryCause.TheVariants as cause
use Rattle.request_tries.specs.declared.outcome.TheConstants.{MAX_TRIES}

-- how far the history of a container has come
abbrev pub front_at : ContainerValue → HistoryFront
front_at c = record { front = record { 0 = length c.boot.entries }; held = event_count c }

-- an end, when the history has come so far
abbrev pub ended_at : HistoryFront → Place → RequestOutcome → Option DoneText → Ended
ended_at now from outcome done =
    record { outcome = outcome; from = from; front = now.front; held = now.held; done = done }

-- where the first try of a request began, whose last one began at a place
abbrev pub from_of : TriesValue → Place → Place
from_of s at = record { 0 = first_begin s.tries at.0 }

-- the outcome of a request whose last try ended so
abbrev pub outcome_by : TryCause → List Try → RequestOutcome
outcome_by (cause.Revoked shown) tries = Revoked tries
outcome_by (cause.Conflict mark newest) tries = Conflict tries

-- a try that ends now
abbrev pub try_ended : HistoryFront → Place → TryCause → Try
try_ended now at why = record { at = at; cause = why; front = now.front }

-- A try that began at a place has ended without a commit: another one may be made, where there were fewer than there
-- may be and all that it entered may be called again; and else the request has ended.
abbrev pub EndsTry : HistoryFront → TriesValue → Place → TryCause → Bool → Option Ended → TriesValue → Type 0
EndsTry now old at why repeats None new =
    (length old.tries + 1 < MAX_TRIES) × (repeats ≡ true) × (new ≡ with_try old (try_ended now at why))
EndsTry now old at why repeats (Some e) new =
    ((MAX_TRIES ≤ length old.tries + 1) ⊎ (repeats ≡ false))
    × (e ≡ ended_at now (from_of old at) (outcome_by why (old.tries ++ try_ended now at why ∷ [])) None)

-- A commit of a try was refused for this cause: the try has ended, or the request. A conflict leaves nothing, so it may
-- always be tried again. Without memory nothing is told.
abbrev pub IsRefused : HistoryFront → List Entry → TriesValue → Place → CommitRefusal → Bool → Option Ended → TriesValue → Type 0
IsRefused now es old at (commits.Revoked shown) repeats end new = EndsTry now old at (cause.Revoked shown) repeats end new
IsRefused now es old at (commits.Conflict conflict) repeats end new =
    EndsTry now old at (cause.Conflict conflict.mark conflict.newest) true end new
IsRefused now es old at (commits.Already place) repeats end new =
    end ≡ Some (ended_at now (from_of old at) (Page place true) (done_at es place))
IsRefused now es old at (commits.JournalFull full) repeats end new =
    end ≡ Some (ended_at now (from_of old at) (JournalFull full) None)
IsRefused now es old at commits.KeeperFailed repeats end new =
    end ≡ Some (ended_at now (from_of old at) KeeperFailed None)
IsRefused now es old at commits.OutOfMemory repeats end new = ⊥

-- A request hears the answer to the commit of a try that began at a place: it has ended by its entry; or the try, or
-- the request, has ended by the cause.
abbrev pub HearsCommit : HistoryFront → List Entry → TriesValue → Place → Bool → Result Place Refused → Option Ended → TriesValue → Type 0
HearsCommit now es old at repeats (Ok place) end new =
    end ≡ Some (ended_at now (from_of old at) (Page place false) None)
HearsCommit now es old at repeats (Err refused) end new = IsRefused now es old at refused.cause repeats end new

-- A try that began at a place, and entered these components, was stopped: it met a group that is down, or a component
-- that fails, the last on its path, and the request has ended; or it was revoked.
abbrev pub IsStopped : HistoryFront → TriesValue → Place → Bool → List ComponentNo → Stop → Option Ended → TriesValue → Type 0
IsStopped now old at repeats entered (stops.Sentinel group down) end new =
    end ≡ Some (ended_at now (from_of old at) (Sentinel group down) None)
IsStopped now old at repeats entered (stops.Hung component fault) end new =
    end ≡ Some (ended_at now (from_of old at) (Hung component fault (entered ++ component ∷ [])) None)
IsStopped now old at repeats entered (stops.Raised component fault) end new =
    end ≡ Some (ended_at now (from_of old at) (Raised component fault (entered ++ component ∷ [])) None)
IsStopped now old at repeats entered (stops.Revoked shown) end new =
    EndsTry now old at (cause.Revoked shown) repeats end new

-- the action that a request commits with its answer
abbrev pub action_of : TriesValue → DoneText → Option ActionEntry
action_of s done = Some (record { text = s.text; done = done })

-- the refusal of the commit of an attempt that is done
abbrev pub refusal_of : ContainerValue → TriesValue → AttemptValue → DoneText → Option CommitRefusal
refusal_of c s a done =
    commit_refusal c.boot.start.limits c.boot.entries a.ticket.call (action_of s done)

-- An open attempt was committed, or was not, and the request heard the answer.
pub record CommitsTry (old : ContainerValue) (s : TriesValue) (a : AttemptValue) (done : DoneText) (end : Option Ended) (new : ContainerValue) (after : TriesValue) : Type 0 where
  pub answer : Result Place Refused
  pub is_answer : CommitAnswer (refusal_of old s a done) answer
  pub leaves : CommitLeaves a.ticket.call (action_of s done) answer old new
  pub failed : IfErr answer (λ refused. refused.cause ≡ commits.KeeperFailed → Rose old.faults new.faults)
  pub hears : HearsCommit (front_at new) new.boot.entries (closed s) a.ticket.call.at a.repeats answer end after

-- The open attempt has made a step, and is under way still in the boot that this leaves.
pub record HasAdvanced (boot : BootValue) (asks : List Answer → Next) (old : TriesValue) (came : Stepped) (new : TriesValue) : Type 0 where
  pub before : AttemptValue
  pub after : AttemptValue
  pub was_open : old.attempt ≡ Some before
  pub has_stepped : HasStepped boot asks before came after
  pub way : IsUnderWay (boot_left boot (wanted asks before) came) asks after
  pub open_now : new ≡ record old { attempt = Some after }

-- the open attempt makes a step, if one is open
abbrev pub Advances : BootValue → (List Answer → Next) → TriesValue → Option Stepped → TriesValue → Type 0
Advances boot asks old None new = (old.attempt ≡ None) × (new ≡ old)
Advances boot asks old (Some came) new = HasAdvanced boot asks old came new

-- A container is left as the step of an open attempt leaves its boot; where none is open, as it was.
abbrev pub LeavesBoot : ContainerValue → (List Answer → Next) → Option AttemptValue → Option Stepped → ContainerValue → Type 0
LeavesBoot old asks None came new = new ≡ old
LeavesBoot old asks (Some a) None new = new ≡ old
LeavesBoot old asks (Some a) (Some came) new = new ≡ with_boot old (boot_left old.boot (wanted asks a) came)

-- A container is as it was, or as the step leaves it that an open attempt asks for; where none is open, as it was.
abbrev pub HasAtMostAdvanced : ContainerValue → (List Answer → Next) → Option AttemptValue → ContainerValue → Type 0
HasAtMostAdvanced old asks None new = new ≡ old
HasAtMostAdvanced old asks (Some a) new = HasAtMostMade old (wanted asks a) new

-- the end that a step came to, if it came to one
abbrev pub end_of : Progress → Option Ended
end_of progress.Went = None
end_of (progress.Done done) = None
end_of (progress.Ended e) = Some e

-- Where a step found the program done, this is so of what it answers.
abbrev pub IfDone : Progress → (DoneText → Type 0) → Type 0
IfDone progress.Went So = Unit {0}
IfDone (progress.Done done) So = So done
IfDone (progress.Ended e) So = Unit {0}

-- what a step comes to that has ended the request, or else a try alone
abbrev pub progress_of : Option Ended → Progress
progress_of None = progress.Went
progress_of (Some e) = progress.Ended e

-- What the step of an open attempt comes to: it goes on; its program is done, and it stays open for its commit; or it
-- is given up.
abbrev pub ComesTo : ContainerValue → (List Answer → Next) → TriesValue → AttemptValue → Stepped → Progress → TriesValue → Type 0
ComesTo c asks s a coming.Went to after =
    (to ≡ progress.Went) × (after ≡ record s { attempt = Some (stepped c.boot a (wanted asks a)) })
ComesTo c asks s a (coming.Done done) to after = (to ≡ progress.Done done) × (after ≡ s)
ComesTo c asks s a (coming.Stopped stop) to after =
    (end : Option Ended) × (to ≡ progress_of end)
    × IsStopped (front_at c) (closed s) a.ticket.call.at a.repeats a.entered stop end after

-- The one step that a request makes in a container: an attempt begins where none is open; and else the open one makes
-- the step that its program asks for, which may count an entering. So the step is fixed but for memory.
abbrev pub StepsAs : ContainerValue → (List Answer → Next) → TriesValue → Option AttemptValue → Progress → ContainerValue → TriesValue → Type 0
StepsAs c asks s None to new after = (to ≡ progress.Went) × (after ≡ has_begun c.boot s) × (new ≡ c)
StepsAs c asks s (Some a) to new after =
    (came : Stepped) × (next : AttemptValue) × HasStepped c.boot asks a came next × ComesTo c asks s a came to after
    × (new ≡ with_boot c (boot_left c.boot (wanted asks a) came))

-- The one commit that a request makes in a container: of the attempt that is open. So it is fixed but for memory and
-- the keeper.
abbrev pub CommitsAs : ContainerValue → TriesValue → Option AttemptValue → DoneText → Option Ended → ContainerValue → TriesValue → Type 0
CommitsAs old s None done end new after = ⊥
CommitsAs old s (Some a) done end new after = CommitsTry old s a done end new after

-- The page of an entry of its own answers what was committed.
abbrev pub AnswersOwn : List Event → DoneText → Ended → Type 0
AnswersOwn events done e = (place : Place) → e.outcome ≡ Page place false → done_of events e ≡ Some done

-- What a step or a commit of a request brings: the request is served still, in the container as it is then; or it has
-- ended, by an end that stands in the history, and that tells the number of its events; and the history has just what
-- that adds.
pub record Brings (old new : ContainerValue) (asks : List Answer → Next) (s after : TriesValue) (end : Option Ended) : Type 0 where
  pub serving : end ≡ None → IsServing new.boot asks after
  pub ended : MayEnd new.boot.start (events_of new) (errand_of s asks) end
  pub counted : IfSome end (λ e. e.held ≡ event_count new)
  pub adds : StepAdds s.request end old new
  pub failed : IfSome end (λ e. e.outcome ≡ KeeperFailed → Rose old.faults new.faults)

-- A container has the boot and the history that it had.
abbrev pub KeepsHistory : ContainerValue → ContainerValue → Type 0
KeepsHistory old new = (new.boot ≡ old.boot) × (new.since ≡ old.since)

-- A container has the history that it had, and its boot but for how often its components were entered.
abbrev pub KeepsEvents : ContainerValue → ContainerValue → Type 0
KeepsEvents old new = HasOnlyEntered old.boot new.boot × (new.since ≡ old.since)

-- The keeper of a container tells what it told, or what it tells once it refused a call for want of memory: it has kept
-- nothing, or tells nothing from then on.
abbrev pub KeepsNothing : ContainerValue → ContainerValue → Type 0
KeepsNothing old new = (new.told ≡ old.told) ⊎ TellsRefusal faults.OutOfMemory old.told new.told

-- the cause of a refused commit is no keeper that failed
abbrev pub CauseAddsNothing : CommitRefusal → Type 0
CauseAddsNothing commits.KeeperFailed = ⊥
CauseAddsNothing commits.OutOfMemory = Unit {0}
CauseAddsNothing (commits.Already place) = Unit {0}
CauseAddsNothing (commits.Revoked s) = Unit {0}
CauseAddsNothing (commits.Conflict c) = Unit {0}
CauseAddsNothing (commits.JournalFull full) = Unit {0}

-- An answer to a commit that adds nothing to the history, and after which memory may be wanted.
abbrev pub AddsNothing : Result Place Refused → Type 0
AddsNothing (Ok place) = ⊥
AddsNothing (Err refused) = CauseAddsNothing refused.cause
