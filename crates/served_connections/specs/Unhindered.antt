-- A request that nothing hindered, by what its item tells.
use Rattle.std.specs.Prelude.{◌≡◌, ◌≢◌, ◌≤◌, ◌<◌, ℕ, Bool, List, [], ◌∷◌, ◌++◌, length, take, Some, None}
use Rattle.auction_calls.specs.declared.action.ActionCall.{ActionCall}
use Rattle.boot_core.specs.declared.boot.Start.{Start}
use Rattle.call_attempts.specs.Attempt.{EntersGroup, FailsOnItsWay}
use Rattle.call_ticket.specs.Runs.{Makes}
use Rattle.call_ticket.specs.declared.next.Answer.{Answer}
use Rattle.call_ticket.specs.declared.next.Next.{Next}
use Rattle.container_core.specs.History.{entries_in}
use Rattle.container_core.specs.declared.history.Event.{Event}
use Rattle.container_core.specs.declared.history.Event.TheVariants.{KeeperFailed}
use Rattle.crash_base.specs.declared.fault_plans.FaultKind.{FaultKind}
use Rattle.crash_base.specs.declared.numbers.ComponentNo.{ComponentNo}
use Rattle.crash_base.specs.declared.numbers.GroupNo.{GroupNo}
use Rattle.crash_base.specs.declared.numbers.Moment.{Moment}
use Rattle.crash_base.specs.declared.numbers.Place.{Place}
use Rattle.crash_base.specs.declared.numbers.RequestNo.{RequestNo}
use Rattle.journal_model.specs.Limits.{entry_bytes, full_for}
use Rattle.journal_model.specs.Reboots.{down_of}
use Rattle.journal_model.specs.Snapshots.{snapshot}
use Rattle.journal_model.specs.declared.entry.CommitEntry.{CommitEntry}
use Rattle.journal_model.specs.declared.entry.DoneText.{DoneText}
use Rattle.journal_model.specs.declared.entry.Entry.{Entry}
use Rattle.journal_model.specs.declared.entry.Entry.TheVariants.{Commit}
use Rattle.outcome_items.specs.Traces.{window_trace}
use Rattle.outcome_items.specs.declared.item.Item.{Item}
use Rattle.outcome_items.specs.declared.outcome.ItemOutcome.{ItemOutcome}
use Rattle.outcome_items.specs.declared.outcome.ItemOutcome.TheVariants as item
use Rattle.request_decisions.specs.Calls.{call_by}
use Rattle.request_intake.specs.declared.intake.Admission.{Admission}
use Rattle.request_intake.specs.declared.intake.Arrival.TheVariants.{Admitted}
use Rattle.request_tries.specs.Ends.{HasUncuredPlan}
use Rattle.request_tries.specs.declared.outcome.RequestOutcome.TheVariants.{Page}
use Rattle.send_windows.specs.declared.history.WindowMark.TheVariants as mark
use Rattle.served_items.specs.Attributing.{TakenIn}
use Rattle.served_items.specs.Served.{committed_at}
use Rattle.ssm_stub.specs.declared.cause.BrickCause.{BrickCause}

-- Nothing in a journal stops a program: no group that it enters is down, no plan that no reboot has cured is of a
-- component that it enters, and there is room for what it makes.
pub record NothingStops (start : Start) (es : List Entry) (asks : List Answer → Next) : Type 0 where
  pub up : (group : GroupNo) → EntersGroup start.deployment asks group → down_of es group.0 ≡ None
  pub works : (component : ComponentNo) (path : List ComponentNo) (fault : ℕ) (kind : FaultKind) → FailsOnItsWay asks component path → HasUncuredPlan start es component fault kind → ⊥
  pub room : (entry : CommitEntry) (done : DoneText) → entry.at.0 ≤ length es → Makes start.deployment asks (snapshot start.base es entry.at.0) entry done
      → full_for start.limits es 1 (entry_bytes (Commit entry)) ≡ None

-- The session of an item's request served: it was neither expired nor lost, and its write, if there was one, was not
-- missed.
pub record SessionServed (i : Item) : Type 0 where
  pub fresh : (now expiry : Moment) → i.outcome ≢ item.Expired now expiry
  pub found : (causes : List BrickCause) → i.outcome ≢ item.Lost causes
  pub stored : (place : Place) (again : Bool) (causes : List BrickCause) → i.outcome ≢ item.Missed place again causes

-- Nothing hindered the request of an item, which was taken in so. It was admitted; its session served, and no passes
-- were refused for it. When the container was last held for it, nothing stopped the program of its own call; each entry
-- since it was first held is its own; and the last event is not that the keeper failed.
pub record NothingHindered {P : Type 0} (asks : P → List Answer → Next) (makes : ActionCall → List ℕ → P → Type 0) (start : Start) (history : List Event) (t : TakenIn) (i : Item) : Type 0 where
  pub admission : Admission
  pub arrived : t.intake.arrival ≡ Admitted admission
  pub session : SessionServed i
  pub passes : window_trace i ≢ mark.Refused ∷ []
  pub free : (text : List ℕ) (program : P) → makes (call_by admission.call i.value) text program → NothingStops start (entries_in (take i.holds.held history)) (asks program)
  pub alone : (place : ℕ) → i.holds.from.0 ≤ place → place < length (entries_in (take i.holds.held history)) → committed_at i.outcome ≡ Some (record { 0 = place })
  pub kept : (before : List Event) (request : RequestNo) → take i.holds.held history ≢ before ++ KeeperFailed request ∷ []

-- this became of a request: a page
abbrev pub IsPage : ItemOutcome → Type 0
IsPage became = (place : Place) × (again : Bool) × (became ≡ item.Ended (Page place again))
