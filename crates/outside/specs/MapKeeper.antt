-- A keeper in memory whose calls may fail, as its callers see it.
use Rattle.std.specs.Prelude.{ℕ, ◌+◌, ◌-◌, ◌^◌, ◌&&◌, nat_lt, Bool, List, filter}
use Rattle.std.specs.List.{range_with_len}
use Rattle.crash_base.specs.declared.rows.RowWrite.{RowWrite}
use Rattle.outside.specs.declared.keeper.KeeperFault.{KeeperFault}
use Rattle.outside.specs.declared.keeper.KeeperFault.TheVariants.{OutOfMemory, Failed}
use Rattle.outside.specs.Faults.{counted}
use Rattle.outside.specs.Keeper.{KeeperTold, after_call, after_writes, after_fault}
use Rattle.outside.specs.Memory.{fails}

-- A keeper whose calls of the numbers in `failing` fail: what it tells, and how often it has failed.
pub record MapKeeperState : Type 0 where
  pub told : KeeperTold
  pub failing : List ℕ
  pub faults : ℕ

-- Of the first so many calls, which are numbered from 1, those that fail.
unfoldable pub failed_calls : List ℕ → ℕ → List ℕ
failed_calls failing calls = filter (fails failing) (range_with_len 1 calls)

-- Whether the next call fails: it has a number, which is among those that fail.
abbrev pub call_fails : MapKeeperState → Bool
call_fails keeper =
    nat_lt keeper.told.calls (2 ^ 64 - 1) && fails keeper.failing (keeper.told.calls + 1)

-- A call answered all rows.
abbrev pub after_load : MapKeeperState → MapKeeperState
after_load keeper = record keeper { told = after_call keeper.told }

-- A call put these writes.
abbrev pub after_apply : List RowWrite → MapKeeperState → MapKeeperState
after_apply writes keeper = record keeper { told = after_writes writes keeper.told }

-- A call answered this fault, and left the rows. Only a call that failed is counted as a fault.
abbrev pub after_refusal : KeeperFault → MapKeeperState → MapKeeperState
after_refusal OutOfMemory keeper = record keeper { told = after_call keeper.told }
after_refusal Failed keeper =
    record keeper { told = after_fault Failed keeper.told; faults = counted keeper.faults }
