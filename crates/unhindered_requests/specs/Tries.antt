-- A try that nothing hinders.
use Rattle.std.specs.Prelude.{◌≡◌, ◌⊎◌, ◌<◌, ◌+◌, ℕ, true, All, List, length, Some, None}
use Rattle.crash_base.specs.declared.fault_plans.FaultKind.TheVariants.{Leak}
use Rattle.crash_base.specs.declared.fault_plans.FaultPlan.{FaultPlan}
use Rattle.crash_base.specs.declared.numbers.ComponentNo.{ComponentNo}
use Rattle.component_pool.specs.Cures.{one_cures}
use Rattle.component_pool.specs.Journal.{reboots_in}
use Rattle.deployment.specs.Groups.{group_of}
use Rattle.journal_model.specs.declared.conflict.Conflict.{Conflict}
use Rattle.journal_model.specs.declared.entry.DoneText.{DoneText}
use Rattle.journal_model.specs.declared.stale.Stale.{Stale}
use Rattle.journal_model.specs.Conflicts.{conflict_of}
use Rattle.journal_model.specs.Reboots.{down_of}
use Rattle.journal_model.specs.Requests.{commit_of}
use Rattle.journal_model.specs.Stale.{stale_in}
use Rattle.call_ticket.specs.declared.next.Answer.{Answer}
use Rattle.call_ticket.specs.declared.next.Next.{Next}
use Rattle.call_ticket.specs.declared.next.Next.TheVariants as next
use Rattle.boot_core.specs.Boot.{BootValue}
use Rattle.boot_core.specs.Faults.{fault_of}
use Rattle.boot_core.specs.Refusals.{HasRoomFor}
use Rattle.container_core.specs.Container.{ContainerValue}
use Rattle.call_attempts.specs.Attempt.{AttemptValue, Continues, wanted}
use Rattle.call_attempts.specs.Stops.{failure}
use Rattle.request_tries.specs.Serving.{TriesValue}
use Rattle.request_tries.specs.Steps.{action_of}
use Rattle.request_tries.specs.declared.outcome.TheConstants.{MAX_TRIES}

-- A group that a try entered was rebooted since only where another try may follow: it is not the last one, and all that
-- it entered may be called again.
abbrev pub MayBeRevoked : ContainerValue → TriesValue → AttemptValue → Type 0
MayBeRevoked c s a =
    (shown : Stale) → stale_in c.boot.entries a.ticket.call.touched ≡ Some shown
    → (length s.tries + 1 < MAX_TRIES) × (a.repeats ≡ true)

-- What a try read or writes was written since its begin only where another try may follow.
abbrev pub MayConflict : ContainerValue → TriesValue → AttemptValue → Type 0
MayConflict c s a =
    (shown : Conflict) → conflict_of c.boot.entries a.ticket.call ≡ Some shown → length s.tries + 1 < MAX_TRIES

-- A component works where it is entered next: no plan is active for it, or the first that is one that leaks.
abbrev pub Works : BootValue → ComponentNo → Type 0
Works boot x = failure x (fault_of boot x) ≡ None

-- A plan does not stop an enter of a component: it makes another one fail, or makes it leak alone; or a reboot of the
-- component's group has cured it.
abbrev pub Spares : BootValue → ComponentNo → FaultPlan → Type 0
Spares boot x plan =
    plan.component ≡ x
    → (plan.kind ≡ Leak) ⊎ (one_cures (reboots_in boot.entries (group_of boot.start.deployment x.0)) plan.cured_by ≡ true)

-- No plan of a boot stops an enter of a component, however often that was entered.
abbrev pub NoFault : BootValue → ComponentNo → Type 0
NoFault boot x = All (Spares boot x) boot.start.plans

-- Nothing stops the step that a try asks for: no reboot does, the group of the component that it enters is up, and the
-- component works.
pub record MayStep (asks : List Answer → Next) (c : ContainerValue) (s : TriesValue) (a : AttemptValue) : Type 0 where
  pub reboots : MayBeRevoked c s a
  pub up : (x : ComponentNo) (method : ℕ) → wanted asks a ≡ next.Enter x method
      → down_of c.boot.entries (group_of c.boot.start.deployment x.0) ≡ None
  pub works : (x : ComponentNo) (method : ℕ) → wanted asks a ≡ next.Enter x method → Works c.boot x

-- Nothing refuses the commit of a try that answers this: no reboot and no conflict does, and the journal has room.
pub record MayCommit (c : ContainerValue) (s : TriesValue) (a : AttemptValue) (done : DoneText) : Type 0 where
  pub reboots : MayBeRevoked c s a
  pub conflicts : MayConflict c s a
  pub room : HasRoomFor c.boot.start.limits c.boot.entries a.ticket.call (action_of s done)

-- A try is free: nothing stops its step; and where its program is done, and its request was not committed before,
-- nothing refuses its commit.
pub record IsFree (asks : List Answer → Next) (c : ContainerValue) (s : TriesValue) (a : AttemptValue) : Type 0 where
  pub step : Continues (wanted asks a) → MayStep asks c s a
  pub commit : (done : DoneText) → wanted asks a ≡ next.Done done
      → commit_of c.boot.entries a.ticket.call.request ≡ None → MayCommit c s a done
