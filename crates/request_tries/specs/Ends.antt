-- What became of a request, and what the history of the container shows of it.
use Rattle.std.specs.Prelude.{◌≡◌, ◌⊎◌, ℕ, ◌<◌, ◌≤◌, true, false, List, [], ◌∷◌, ◌++◌, length, take, slice_get, Option, Some, None, IfSome, option_and_then, option_map}
use Rattle.crash_base.specs.declared.fault_plans.FaultKind.{FaultKind}
use Rattle.crash_base.specs.declared.fault_plans.FaultKind.TheVariants.{Raise, Hang}
use Rattle.crash_base.specs.declared.fault_plans.FaultPlan.{FaultPlan}
use Rattle.crash_base.specs.declared.numbers.ComponentNo.{ComponentNo}
use Rattle.crash_base.specs.declared.numbers.Place.{Place}
use Rattle.crash_base.specs.declared.numbers.RequestNo.{RequestNo}
use Rattle.component_pool.specs.Cures.{one_cures}
use Rattle.component_pool.specs.Journal.{reboots_in}
use Rattle.deployment.specs.declared.parts.Parts.{Parts}
use Rattle.deployment.specs.Groups.{group_of}
use Rattle.journal_model.specs.declared.entry.ActionEntry.{ActionEntry}
use Rattle.journal_model.specs.declared.entry.CommitEntry.{CommitEntry}
use Rattle.journal_model.specs.declared.entry.DoneText.{DoneText}
use Rattle.journal_model.specs.declared.entry.Entry.{Entry}
use Rattle.journal_model.specs.declared.entry.Entry.TheVariants.{Commit, Down, Up}
use Rattle.journal_model.specs.Limits.{entry_bytes, full_for}
use Rattle.journal_model.specs.Reboots.{down_of}
use Rattle.journal_model.specs.Requests.{commit_of}
use Rattle.journal_model.specs.Rows.{rows_after}
use Rattle.journal_model.specs.Snapshots.{snapshot}
use Rattle.call_ticket.specs.declared.next.Answer.{Answer}
use Rattle.call_ticket.specs.declared.next.Next.{Next}
use Rattle.call_ticket.specs.Runs.{Makes}
use Rattle.boot_core.specs.declared.boot.Start.{Start}
use Rattle.container_core.specs.Container.{ContainerValue}
use Rattle.container_core.specs.History.{entries_in}
use Rattle.container_core.specs.declared.history.Event.{Event}
use Rattle.container_core.specs.declared.history.Event.TheVariants.{Added, KeeperFailed as FailedMark}
use Rattle.call_attempts.specs.Attempt.{EntersGroup, EntersOnce, FailsOnItsWay}
use Rattle.request_tries.specs.Tries.{AreTries}
use Rattle.request_tries.specs.declared.outcome.Ended.{Ended}
use Rattle.request_tries.specs.declared.outcome.RequestOutcome.{RequestOutcome}
use Rattle.request_tries.specs.declared.outcome.RequestOutcome.TheVariants.{Page, Sentinel, Hung, Raised, Revoked, Conflict, JournalFull, KeeperFailed}
use Rattle.request_tries.specs.declared.outcome.Try.{Try}
use Rattle.request_tries.specs.declared.outcome.TryCause.{TryCause}
use Rattle.request_tries.specs.declared.outcome.TryCause.TheVariants as cause
use Rattle.request_tries.specs.declared.outcome.TheConstants.{MAX_TRIES}

-- what is asked of a container: a program under a request's number, with the text of its action
pub record Errand : Type 0 where
  pub request : RequestNo
  pub text : List ℕ
  pub asks : List Answer → Next

-- An entry is one that was asked for: it has the request's number and the text, and its call began at a place or later.
pub record IsAskedFor (errand : Errand) (from : ℕ) (entry : CommitEntry) (done : DoneText) : Type 0 where
  pub request : entry.request ≡ errand.request
  pub action : entry.action ≡ Some (record { text = errand.text; done = done })
  pub since : from ≤ entry.at.0

-- The last event of a history is the entry at a place, and is what was asked for, as if it had been done all at once
-- there: the program makes it over the rows before it.
pub record IsServed (start : Start) (seen : List Event) (errand : Errand) (from : ℕ) (place : ℕ) : Type 0 where
  pub before : List Event
  pub entry : CommitEntry
  pub done : DoneText
  pub last : seen ≡ before ++ Added (Commit entry) ∷ []
  pub place_is : place ≡ length (entries_in before)
  pub asked_for : IsAskedFor errand from entry done
  pub made : Makes start.deployment errand.asks (rows_after start.base (entries_in before)) entry done

-- A journal has no room for an entry that was asked for, and that the program makes over the rows at its begin.
pub record HasNoRoom (start : Start) (es : List Entry) (errand : Errand) (from : ℕ) : Type 0 where
  pub entry : CommitEntry
  pub done : DoneText
  pub asked_for : IsAskedFor errand from entry done
  pub within : entry.at.0 ≤ length es
  pub made : Makes start.deployment errand.asks (snapshot start.base es entry.at.0) entry done

-- a try was revoked
abbrev pub WasRevoked : TryCause → Type 0
WasRevoked (cause.Revoked shown) = Unit {0}
WasRevoked (cause.Conflict mark newest) = ⊥

-- a try was in conflict
abbrev pub WasInConflict : TryCause → Type 0
WasInConflict (cause.Revoked shown) = ⊥
WasInConflict (cause.Conflict mark newest) = Unit {0}

-- The last of these tries ended so.
pub record EndsSo (So : TryCause → Type 0) (tries : List Try) : Type 0 where
  pub before : List Try
  pub last : Try
  pub parts : tries ≡ before ++ last ∷ []
  pub ended_so : So last.cause

-- Tries are all that a request has: there are as many as there may be; or fewer, where the program enters a component
-- by a method that may not be called again.
abbrev pub AreAll : Parts → (List Answer → Next) → List Try → Type 0
AreAll parts asks tries =
    (length tries ≡ MAX_TRIES) ⊎ ((length tries < MAX_TRIES) × EntersOnce parts asks)

-- The plan of this number of a start is of a component and of this kind, and no reboot of the component's group in a
-- journal has cured it.
pub record HasUncuredPlan (start : Start) (es : List Entry) (component : ComponentNo) (fault : ℕ) (kind : FaultKind) : Type 0 where
  pub plan : FaultPlan
  pub here : slice_get start.plans fault ≡ Some plan
  pub component_is : plan.component ≡ component
  pub kind_is : plan.kind ≡ kind
  pub uncured : one_cures (reboots_in es (group_of start.deployment component.0)) plan.cured_by ≡ false

-- What became of a request, by the history at the end of its last step:
-- its entry, as the last event, or the one that was there already; a group of one of its components is down; one of its
-- components fails, on this path of the program; its tries; a journal without room; or, as the last event, the mark of
-- the keeper that failed.
abbrev pub OutcomeStands : Start → List Event → Errand → ℕ → RequestOutcome → Type 0
OutcomeStands start seen errand from (Page place true) = commit_of (entries_in seen) errand.request ≡ Some place
OutcomeStands start seen errand from (Page place false) = IsServed start seen errand from place.0
OutcomeStands start seen errand from (Sentinel group down) =
    (down_of (entries_in seen) group.0 ≡ Some down) × EntersGroup start.deployment errand.asks group
OutcomeStands start seen errand from (Hung component fault path) =
    HasUncuredPlan start (entries_in seen) component fault Hang × FailsOnItsWay errand.asks component path
OutcomeStands start seen errand from (Raised component fault path) =
    HasUncuredPlan start (entries_in seen) component fault Raise × FailsOnItsWay errand.asks component path
OutcomeStands start seen errand from (Revoked tries) =
    AreTries start.deployment errand.asks (entries_in seen) from tries
    × EndsSo WasRevoked tries × AreAll start.deployment errand.asks tries
OutcomeStands start seen errand from (Conflict tries) =
    AreTries start.deployment errand.asks (entries_in seen) from tries
    × EndsSo WasInConflict tries × (length tries ≡ MAX_TRIES)
OutcomeStands start seen errand from (JournalFull full) =
    (none : HasNoRoom start (entries_in seen) errand from)
    × (full_for start.limits (entries_in seen) 1 (entry_bytes (Commit none.entry)) ≡ Some full)
OutcomeStands start seen errand from KeeperFailed =
    (before : List Event) × (seen ≡ before ++ FailedMark errand.request ∷ [])

-- what an entry answers: a commit of an action what that one does
abbrev pub done_by : Entry → Option DoneText
done_by (Commit e) = option_map (λ (a : ActionEntry). a.done) e.action
done_by (Down s) = None
done_by (Up s) = None

-- the same, where there is an entry
abbrev pub done_if : Option Entry → Option DoneText
done_if None = None
done_if (Some e) = done_by e

-- what the entry at a place answers
abbrev pub done_at : List Entry → Place → Option DoneText
done_at es place = done_if (slice_get es place.0)

-- what is copied for the end of a request: of a page that was there already what its entry answers
abbrev pub copied_for : List Entry → RequestOutcome → Option DoneText
copied_for es (Page place true) = done_at es place
copied_for es (Page place false) = None
copied_for es (Sentinel group down) = None
copied_for es (Hung component fault path) = None
copied_for es (Raised component fault path) = None
copied_for es (Revoked tries) = None
copied_for es (Conflict tries) = None
copied_for es (JournalFull full) = None
copied_for es KeeperFailed = None

-- the place of the entry that the end of a request shows, if it shows one
abbrev pub page_of : RequestOutcome → Option Place
page_of (Page place again) = Some place
page_of (Sentinel group down) = None
page_of (Hung component fault path) = None
page_of (Raised component fault path) = None
page_of (Revoked tries) = None
page_of (Conflict tries) = None
page_of (JournalFull full) = None
page_of KeeperFailed = None

-- What the end of a request answers, by the history at the end of its last step: a page what its entry does.
abbrev pub done_of : List Event → Ended → Option DoneText
done_of events e = option_and_then (done_at (entries_in (take e.held events))) (page_of e.outcome)

-- An end stands in a history: its first `held` events, of which the start is one, and which have `front` entries, show
-- what became of the request, and what is copied for it. So it stands in each history that begins with this one.
pub record EndStands (start : Start) (events : List Event) (errand : Errand) (e : Ended) : Type 0 where
  pub begun : 1 ≤ e.held
  pub held : e.held ≤ length events
  pub front : length (entries_in (take e.held events)) ≡ e.front.0
  pub from : e.from.0 ≤ e.front.0
  pub outcome : OutcomeStands start (take e.held events) errand e.from.0 e.outcome
  pub done : e.done ≡ copied_for (entries_in (take e.held events)) e.outcome

-- what the end of a request adds to the history: the entry at its place, or the mark of the keeper that failed
abbrev pub Adds : RequestNo → RequestOutcome → ContainerValue → ContainerValue → Type 0
Adds request (Page place true) old new = new.since ≡ old.since
Adds request (Page place false) old new =
    (e : CommitEntry) × (new.since ≡ old.since ++ Added (Commit e) ∷ []) × (place.0 ≡ length old.boot.entries)
Adds request (Sentinel group down) old new = new.since ≡ old.since
Adds request (Hung component fault path) old new = new.since ≡ old.since
Adds request (Raised component fault path) old new = new.since ≡ old.since
Adds request (Revoked tries) old new = new.since ≡ old.since
Adds request (Conflict tries) old new = new.since ≡ old.since
Adds request (JournalFull full) old new = new.since ≡ old.since
Adds request KeeperFailed old new = new.since ≡ old.since ++ FailedMark request ∷ []

-- what a step adds: nothing, where the request goes on
abbrev pub StepAdds : RequestNo → Option Ended → ContainerValue → ContainerValue → Type 0
StepAdds request None old new = new.since ≡ old.since
StepAdds request (Some e) old new = Adds request e.outcome old new

-- what a step brings, if the request has ended: an end that stands
abbrev pub MayEnd : Start → List Event → Errand → Option Ended → Type 0
MayEnd start events errand end = IfSome end (λ e. EndStands start events errand e)
