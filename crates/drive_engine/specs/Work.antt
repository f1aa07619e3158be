-- What a workload reads, writes and asks of its keeper that is run by itself.
use Rattle.std.specs.Prelude.{◌≡◌, ◌⊎◌, ℕ, Bool, true, [], ◌∷◌, List, length, Option, replicate}
use Rattle.outside.specs.Keeper.{KeeperTold}
use Rattle.boot_core.specs.Boot.{BootValue, new_boot}
use Rattle.boot_core.specs.declared.refusals.StartRefusal.TheVariants as starts
use Rattle.container_core.specs.Container.{HoldsRows}
use Rattle.container_core.specs.Start.{start_over}
use Rattle.scenario_engine.specs.declared.failure.UnstartedCause.{UnstartedCause}
use Rattle.scenario_engine.specs.declared.failure.UnstartedCause.TheVariants as causes
use Rattle.scenario_engine.specs.KeeperCalls.{TellsCalls}
use Rattle.scenario_engine.specs.Opening.{StartReplies, Opening, Opened, UnstartedBoot, opening, start_calls}
use Rattle.scenario_engine.specs.Telling.{Opens}
use Rattle.workload.specs.Parts.{work_parts}
use Rattle.workload.specs.Summary.{summary}
use Rattle.workload.specs.Turns.{worked}
use Rattle.workload.specs.Working.{Works, FailsToWork, work_limits}
use Rattle.workload.specs.declared.run.WorkloadFailure.{WorkloadFailure}
use Rattle.workload.specs.declared.run.WorkloadFailure.TheVariants as failures
use Rattle.drive_engine.specs.declared.ending.Ending.{Ending}
use Rattle.drive_engine.specs.declared.ending.Ending.TheVariants as endings
use Rattle.drive_engine.specs.Exchange.{Exchange, IsWritten, IsPartlyWritten}

-- the first boot of a workload whose keeper holds no rows
abbrev pub first_boot : BootValue
first_boot = new_boot (start_over work_parts [] work_limits [])

-- The summary of a workload over a keeper that holds no rows at first, and keeps what each commit writes.
unfoldable pub workload_text : ℕ → ℕ → List ℕ
workload_text number count = summary (worked number first_boot (replicate count true))

-- A workload ran to its end over the keeper, with this summary.
abbrev pub WorksOver : ℕ → ℕ → List ℕ → Exchange → Type 0
WorksOver number count text x =
    Works number count text x.keeper_before.told x.keeper_after.told x.keeper_before.faults x.keeper_after.faults

-- A workload has no summary for this reason, over the keeper.
abbrev pub FailsOver : WorkloadFailure → ℕ → ℕ → Exchange → Type 0
FailsOver failure number count x =
    FailsToWork failure number count x.keeper_before.told x.keeper_after.told x.keeper_before.faults
    x.keeper_after.faults

-- Nothing was read, the workload ran to its end, and its summary was written.
pub record WritesSummary (number count : ℕ) (x : Exchange) : Type 0 where
  pub unread : x.left_after ≡ x.left_before
  pub text : List ℕ
  pub works : WorksOver number count text x
  pub written : IsWritten x text

-- Nothing was read, the workload ran to its end, and a prefix of its summary was written.
pub record WritesSummaryPrefix (number count : ℕ) (x : Exchange) : Type 0 where
  pub unread : x.left_after ≡ x.left_before
  pub text : List ℕ
  pub works : WorksOver number count text x
  pub prefix : IsPartlyWritten x text

-- Nothing was read, and nothing was written.
pub record LeavesStreams (x : Exchange) : Type 0 where
  pub unread : x.left_after ≡ x.left_before
  pub unwritten : x.written_after ≡ x.written_before

-- The boot of a workload was left unstarted for this cause, and nothing was read or written.
pub record WorksUnstarted (cause : UnstartedCause) (x : Exchange) : Type 0 where
  pub streams : LeavesStreams x
  pub opens : Opens work_parts [] work_limits (UnstartedBoot cause) x.keeper_before x.keeper_after

-- Memory ran out while the boot of a workload was started, or before that, or later; and nothing was read or written.
pub record WorksOutOfMemory (number count : ℕ) (x : Exchange) : Type 0 where
  pub streams : LeavesStreams x
  pub fails : FailsOver (failures.Unstarted starts.OutOfMemory) number count x
      ⊎ FailsOver failures.OutOfMemory number count x

-- how a command ends whose workload has no summary
abbrev pub ending_of : WorkloadFailure → Ending
ending_of failures.OutOfMemory = endings.OutOfMemory
ending_of (failures.Unstarted starts.OutOfMemory) = endings.OutOfMemory
ending_of (failures.Unstarted starts.KeeperFailed) = endings.KeeperFailed
ending_of (failures.Unstarted (starts.BadRow id)) = endings.BadRow id
ending_of (failures.Unstarted starts.BootsSpent) = endings.BootsSpent

-- how the boot of a workload opens, where the keeper replies so to its start
abbrev pub work_opening : StartReplies → Opening
work_opening replies = opening work_parts [] work_limits replies

-- What the keeper tells before and after the turns of a workload whose boot opened so: where it did, the keeper holds
-- just the rows that they left, each with such a reply to its commit; and else it was not asked again.
abbrev pub TellsTurns : ℕ → ℕ → List Bool → Opening → Option KeeperTold → Option KeeperTold → Type 0
TellsTurns number count keeps (Opened start) old new =
    (length keeps ≡ count) × HoldsRows new (worked number (new_boot start) keeps).boot
TellsTurns number count keeps (UnstartedBoot cause) old new = new ≡ old

-- What the keeper tells before and after a workload, where it replies so to the start of its boot, and to the commits
-- of its turns.
pub record TellsWork (number count : ℕ) (replies : StartReplies) (keeps : List Bool) (old new : Option KeeperTold) : Type 0 where
  pub between : Option KeeperTold
  pub start : TellsCalls (start_calls replies) old between
  pub turns : TellsTurns number count keeps (work_opening replies) between new
