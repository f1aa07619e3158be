-- What a refused call does to a keeper.
use Rattle.std.specs.Prelude.{ℕ, Option, Some, None}
use Rattle.keeper_sqlite.specs.declared.rows_fault.RowsFault.{RowsFault}
use Rattle.keeper_sqlite.specs.declared.rows_fault.RowsFault.TheVariants as why
use Rattle.outside.specs.declared.keeper.KeeperFault.{KeeperFault}
use Rattle.outside.specs.declared.keeper.KeeperFault.TheVariants.{OutOfMemory, Failed}
use Rattle.outside.specs.Faults.{counted}

-- What contracts see of a keeper: how often it has failed, and why it refused a call last.
pub record KeeperValue : Type 0 where
  pub faults : ℕ
  pub last : Option RowsFault

-- What a keeper answers.
abbrev pub fault_of : RowsFault → KeeperFault
fault_of why.OutOfMemory = OutOfMemory
fault_of why.NoRow = Failed
fault_of why.Closed = Failed
fault_of (why.Database error) = Failed

-- The count of faults after a call that answered this fault: each Failed is counted, up to the last
-- value of a count, and want of memory is none.
abbrev pub count_after : KeeperFault → ℕ → ℕ
count_after OutOfMemory count = count
count_after Failed count = counted count

-- Why a call was refused last, after one that was refused for this: a database that is closed says
-- nothing of why it was closed, so what was said before is kept.
abbrev pub last_after : RowsFault → Option RowsFault → Option RowsFault
last_after why.OutOfMemory last = Some why.OutOfMemory
last_after why.NoRow last = Some why.NoRow
last_after why.Closed None = Some why.Closed
last_after why.Closed (Some earlier) = Some earlier
last_after (why.Database error) last = Some (why.Database error)

-- the keeper behind a call that was refused for this
abbrev pub after_fault : RowsFault → KeeperValue → KeeperValue
after_fault fault keeper =
    record { faults = count_after (fault_of fault) keeper.faults; last = last_after fault keeper.last }
