-- What the calls of the workload go on with, and what a run of it shows.
use Rattle.std.specs.Prelude.{◌≡◌, ℕ, ◌≤◌, ◌⊎◌, not, Bool, true, false, List, [], length, Option, All}
use Rattle.std.specs.List.{list_any}
use Rattle.outside.specs.Faults.{Rose}
use Rattle.outside.specs.Keeper.{KeeperTold}
use Rattle.journal_model.specs.declared.limits.JournalLimits.{JournalLimits}
use Rattle.journal_model.specs.declared.limits.TheConstants.{MAX_ENTRIES, MAX_JOURNAL_BYTES}
use Rattle.call_ticket.specs.Access.{is_in_owner}
use Rattle.call_ticket.specs.Ticket.{TicketValue}
use Rattle.boot_core.specs.Boot.{BootValue}
use Rattle.boot_core.specs.Fits.{FitsIn}
use Rattle.boot_core.specs.declared.refusals.StartRefusal.TheVariants as starts
use Rattle.container_core.specs.Container.{HoldsRows}
use Rattle.container_core.specs.Start.{IsOpened, IsRefusedStart}
use Rattle.line_steps.specs.declared.callers.Caller.{Caller}
use Rattle.line_steps.specs.declared.callers.Caller.TheVariants.{Absent, Live}
use Rattle.workload.specs.Parts.{work_parts}
use Rattle.workload.specs.Summary.{summary}
use Rattle.workload.specs.Turns.{TurnLeft, own_table, worked}
use Rattle.workload.specs.declared.run.WorkloadFailure.{WorkloadFailure}
use Rattle.workload.specs.declared.run.WorkloadFailure.TheVariants as failures
use Rattle.workload.specs.declared.tally.Outcome.{Outcome}
use Rattle.workload.specs.declared.tally.Tally.{Tally}

-- what a turn leaves, of its parts
abbrev pub left_at : BootValue → Option TicketValue → Option Outcome → TurnLeft
left_at b ticket outcome = record { boot = b; ticket = ticket; outcome = outcome }

-- A call goes on in a boot: it fits it, and is in the component that owns its table.
pub record GoesOn (b : BootValue) (ticket : TicketValue) : Type 0 where
  pub fits : FitsIn b ticket.call
  pub inside : is_in_owner b.start.deployment ticket.call (own_table b.start.deployment ticket.call) ≡ true

-- what a caller has in hand goes on in a boot
abbrev pub CallerGoesOn : BootValue → Caller → Type 0
CallerGoesOn b Absent = Unit {0}
CallerGoesOn b (Live ticket) = GoesOn b ticket

-- The workload goes on: its boot is of its parts, and each live call goes on in it.
pub record IsGoing (b : BootValue) (callers : List Caller) : Type 0 where
  pub parts : b.start.deployment ≡ work_parts
  pub calls : All (CallerGoesOn b) callers

-- The keeper failed somewhere only where its count of faults rose.
abbrev pub AreCounted : List Bool → ℕ → ℕ → Type 0
AreCounted replies old new = list_any not replies ≡ true → Rose old new

-- Where the keeper replied to a commit, it came to what is so by that reply; and it failed only where its count of
-- faults rose.
pub record ComesBy {T : Type 0} (now : T) (by_reply : Bool → T) (old new : ℕ) : Type 0 where
  pub keeps : Bool
  pub is : now ≡ by_reply keeps
  pub rose : keeps ≡ false → Rose old new

-- Turns were taken in a boot, each with a reply of the keeper to its commit, and led to this boot and this tally.
pub record TakesTurns (number count : ℕ) (opened now : BootValue) (tally : Tally) (old new : ℕ) : Type 0 where
  pub replies : List Bool
  pub turns : length replies ≡ count
  pub boot : now ≡ (worked number opened replies).boot
  pub tallied : tally ≡ (worked number opened replies).tally
  pub counted : AreCounted replies old new

-- Some of these turns were taken in a boot, and led to this boot.
pub record TakesSome (number count : ℕ) (opened now : BootValue) (old new : ℕ) : Type 0 where
  pub replies : List Bool
  pub turns : length replies ≤ count
  pub boot : now ≡ (worked number opened replies).boot
  pub counted : AreCounted replies old new

-- All turns were taken in a boot, led to this boot, and are summed up by this text.
pub record SumsUp (number count : ℕ) (text : List ℕ) (opened now : BootValue) (old new : ℕ) : Type 0 where
  pub replies : List Bool
  pub turns : length replies ≡ count
  pub boot : now ≡ (worked number opened replies).boot
  pub text_is : text ≡ summary (worked number opened replies)
  pub counted : AreCounted replies old new

-- as full as a journal may be
abbrev pub work_limits : JournalLimits
work_limits = record { entries = MAX_ENTRIES; bytes = MAX_JOURNAL_BYTES }

-- The workload ran to its end with this summary: a boot was opened over the keeper's rows, as many turns were taken as
-- there were to be, and the keeper holds just the rows that they left.
pub record Works (number count : ℕ) (text : List ℕ) (old new : Option KeeperTold) (before after : ℕ) : Type 0 where
  pub opened : BootValue
  pub first : Option KeeperTold
  pub opens : IsOpened work_parts [] work_limits old opened first
  pub replies : List Bool
  pub turns : length replies ≡ count
  pub text_is : text ≡ summary (worked number opened replies)
  pub rows : HoldsRows new (worked number opened replies).boot
  pub counted : AreCounted replies before after

-- Memory ran out while the workload ran: a boot was opened, some turns were taken, and the keeper holds just the rows
-- that they left.
pub record WorksPartly (number count : ℕ) (old new : Option KeeperTold) (before after : ℕ) : Type 0 where
  pub opened : BootValue
  pub first : Option KeeperTold
  pub opens : IsOpened work_parts [] work_limits old opened first
  pub replies : List Bool
  pub turns : length replies ≤ count
  pub rows : HoldsRows new (worked number opened replies).boot
  pub counted : AreCounted replies before after

-- Why the workload has no summary: its container was not started; or memory ran out, before the keeper was asked or
-- while the workload ran.
abbrev pub FailsToWork : WorkloadFailure → ℕ → ℕ → Option KeeperTold → Option KeeperTold → ℕ → ℕ → Type 0
FailsToWork (failures.Unstarted refusal) number count old new before after =
    IsRefusedStart refusal old new × (refusal ≡ starts.KeeperFailed → Rose before after)
FailsToWork failures.OutOfMemory number count old new before after =
    ((new ≡ old) × (after ≡ before)) ⊎ WorksPartly number count old new before after
