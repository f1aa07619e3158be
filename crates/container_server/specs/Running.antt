-- What a server has run: boots, one after the other over the same keeper.
use Rattle.std.specs.Prelude.{◌≡◌, ◌≢◌, ◌⊎◌, ◌≤◌, ℕ, zero, suc, List, Option, Some, None}
use Rattle.auction_rows.specs.Parts.{site_parts}
use Rattle.boot_core.specs.Sound.{IsSound}
use Rattle.boot_core.specs.declared.refusals.StartRefusal.{StartRefusal}
use Rattle.boot_core.specs.declared.refusals.StartRefusal.TheVariants as refusals
use Rattle.component_pool.specs.Plans.{left_by_process}
use Rattle.container_core.specs.Container.{ContainerValue, HasGrownBy, HoldsRows}
use Rattle.container_core.specs.History.{IsHistory, entries_in}
use Rattle.container_core.specs.Start.{IsRefusedStart, IsStarted}
use Rattle.crash_base.specs.declared.fault_plans.FaultPlan.{FaultPlan}
use Rattle.crash_base.specs.declared.row_id.RowId.{RowId}
use Rattle.journal_model.specs.declared.limits.JournalLimits.{JournalLimits}
use Rattle.journal_model.specs.declared.limits.TheConstants.{MAX_ENTRIES, MAX_JOURNAL_BYTES}
use Rattle.outside.specs.Faults.{Rose}
use Rattle.outside.specs.Keeper.{KeeperTold}
use Rattle.service_log.specs.Ending.{end_line, status_of}
use Rattle.service_log.specs.Logging.{Log, WritesLine}
use Rattle.service_log.specs.declared.ending.ServiceEnd.{ServiceEnd}
use Rattle.service_log.specs.declared.ending.ServiceEnd.TheVariants.{Closed, KeeperFailed, BadRow, BootsSpent, OutOfMemory}
use Rattle.container_server.specs.Telling.{HasToldBoot}

-- What a keeper tells, where it does, and how often it has failed.
pub record KeeperSeen : Type 0 where
  pub told : Option KeeperTold
  pub faults : ℕ

-- the keeper that tells this and has failed so often
abbrev pub seen : Option KeeperTold → ℕ → KeeperSeen
seen told faults = record { told = told; faults = faults }

-- What is seen of a server from outside: its keeper, and what was written for its operator.
pub record ServerSeen : Type 0 where
  pub keeper : KeeperSeen
  pub log : Log

-- the server of these
abbrev pub server_seen : KeeperSeen → Log → ServerSeen
server_seen keeper log = record { keeper = keeper; log = log }

-- how full the journal of a boot may be
abbrev pub service_limits : JournalLimits
service_limits = record { entries = MAX_ENTRIES; bytes = MAX_JOURNAL_BYTES }

-- What is so of a container at any time: its boot is sound, its history has no second start and at most one stop, the
-- journal is the entries of its history, and its keeper, where it tells, holds just the rows that the journal leaves.
pub record IsSoundContainer (c : ContainerValue) : Type 0 where
  pub boot : IsSound c.boot
  pub history : IsHistory c.since
  pub journal : entries_in c.since ≡ c.boot.entries
  pub rows : HoldsRows c.told c.boot

-- A boot of the site was started over a keeper with these fault plans, it has grown into a sound container, and left
-- the keeper of that one. Its start was told, and what happened in it.
pub record RanBoot (plans : List FaultPlan) (before after : ServerSeen) : Type 0 where
  pub started : ContainerValue
  pub is_started : IsStarted site_parts plans service_limits before.keeper.told started
  pub ended : ContainerValue
  pub grown : HasGrownBy started ended
  pub sound : IsSoundContainer ended
  pub left : after.keeper ≡ seen ended.told ended.faults
  pub told : HasToldBoot started before.log after.log

-- the fault plans of a boot, by how many came before it: a restart leaves those that no reboot cures
abbrev pub plans_behind : ℕ → List FaultPlan → List FaultPlan
plans_behind zero plans = plans
plans_behind (suc boots) plans = left_by_process (plans_behind boots plans)

-- So many boots were run, each over the keeper that the one before left.
abbrev pub RanBoots : List FaultPlan → ℕ → ServerSeen → ServerSeen → Type 0
RanBoots plans zero before after = after ≡ before
RanBoots plans (suc boots) before after =
    (between : ServerSeen) × RanBoots plans boots before between × RanBoot (plans_behind boots plans) between after

-- Why no more boots were run, by the keeper that the last one left and the one that is handed back. Memory ran out for
-- a boot's threads, for a start, or for the line of a bad row.
abbrev pub EndedOver : ServiceEnd → KeeperSeen → KeeperSeen → Type 0
EndedOver Closed before after = after ≡ before
EndedOver KeeperFailed before after =
    IsRefusedStart refusals.KeeperFailed before.told after.told × Rose before.faults after.faults
EndedOver (BadRow id) before after = IsRefusedStart (refusals.BadRow id) before.told after.told
EndedOver BootsSpent before after = IsRefusedStart refusals.BootsSpent before.told after.told
EndedOver OutOfMemory before after =
    (after ≡ before) ⊎ (IsRefusedStart refusals.OutOfMemory before.told after.told
    ⊎ ((id : RowId) × IsRefusedStart (refusals.BadRow id) before.told after.told))

-- A container was started behind some boots, over the keeper that the last of them left. Nothing was told of it yet.
pub record HasStarted (plans : List FaultPlan) (before : ServerSeen) (c : ContainerValue) (log : Log) : Type 0 where
  pub boots : ℕ
  pub between : ServerSeen
  pub ran : RanBoots plans boots before between
  pub started : IsStarted site_parts (plans_behind boots plans) service_limits between.keeper.told c
  pub untold : log ≡ between.log

-- Some boots were run over a keeper, the first of them with these fault plans, and then a server ended so, which was
-- not told yet. Connections came to their end in a boot alone.
pub record RanFrom (plans : List FaultPlan) (end : ServiceEnd) (before after : ServerSeen) : Type 0 where
  pub boots : ℕ
  pub last : ServerSeen
  pub ran : RanBoots plans boots before last
  pub ended : EndedOver end last.keeper after.keeper
  pub untold : after.log ≡ last.log
  pub once : end ≡ Closed → 1 ≤ boots

-- Some boots were run over a keeper, the first of them with plans that were given; then a server ended so, and the line
-- of its end was written.
pub record RanOver (gives : List FaultPlan → Type 0) (end : ServiceEnd) (before after : ServerSeen) : Type 0 where
  pub plans : List FaultPlan
  pub log : Log
  pub ran : RanFrom plans end before (record after { log = log })
  pub given : 1 ≤ ran.boots → gives plans
  pub reported : WritesLine (end_line end) log after.log

-- how a server ended whose container was not started
abbrev pub end_of : StartRefusal → ServiceEnd
end_of refusals.KeeperFailed = KeeperFailed
end_of (refusals.BadRow id) = BadRow id
end_of refusals.BootsSpent = BootsSpent
end_of refusals.OutOfMemory = OutOfMemory

-- it is told that no more connections come exactly where a server ended for that
abbrev pub TellsClosed : {C : Type 0} → Option C → ServiceEnd → Type 0
TellsClosed None end = status_of end ≢ 0
TellsClosed (Some closed) end = end ≡ Closed
