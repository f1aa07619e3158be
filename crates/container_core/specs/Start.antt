-- How a container is started from the rows of its keeper.
use Rattle.std.specs.Prelude.{◌≡◌, ℕ, ◌+◌, ◌-◌, ◌^◌, ◌<◌, ◌≤◌, nat_lt, ◌==◌, ◌&&◌, ◌||◌, ◌⊎◌, not, Bool, if◌then◌else◌, List, [], ◌∷◌, ◌++◌, length, Option, Some, None, IfSome, All, slice_get}
use Rattle.std.specs.Int.{to_be_bytes, w32}
use Rattle.std.specs.List.{list_any}
use Rattle.crash_base.specs.declared.row_id.RowId.{RowId}
use Rattle.crash_base.specs.declared.row_id.TheConstants.{SERVICE_TABLE}
use Rattle.crash_base.specs.declared.rows.RowWrite.{RowWrite}
use Rattle.crash_base.specs.declared.rows.TheConstants.{MAX_ROW_BYTES}
use Rattle.crash_base.specs.BigEndian.{big_endian_number}
use Rattle.crash_base.specs.RowId.{same_id}
use Rattle.crash_base.specs.Rows.{row_in, AreOrdered}
use Rattle.crash_base.specs.declared.fault_plans.FaultPlan.{FaultPlan}
use Rattle.deployment.specs.declared.parts.Parts.{Parts}
use Rattle.journal_model.specs.declared.limits.JournalLimits.{JournalLimits}
use Rattle.outside.specs.declared.keeper.KeeperFault.{KeeperFault}
use Rattle.outside.specs.declared.keeper.KeeperFault.TheVariants as faults
use Rattle.outside.specs.Keeper.{KeeperTold, loaded, applied, TellsRefusal}
use Rattle.boot_core.specs.declared.boot.Start.{Start}
use Rattle.boot_core.specs.Boot.{BootValue, new_boot}
use Rattle.container_core.specs.Container.{ContainerValue}
use Rattle.boot_core.specs.declared.refusals.StartRefusal.{StartRefusal}
use Rattle.boot_core.specs.declared.refusals.StartRefusal.TheVariants.{KeeperFailed, BadRow, BootsSpent, OutOfMemory}

-- the row that holds the number of the last boot
abbrev pub boot_id : RowId
boot_id = record { table = SERVICE_TABLE; key = 0 }

-- the row of a boot's number, of 4 bytes
abbrev pub boot_row : ℕ → RowWrite
boot_row number = record { id = boot_id; bytes = to_be_bytes w32 number }

-- whether the service's own table would have another row than that of the boot's number
abbrev pub is_strange : RowWrite → Bool
is_strange r =
    (r.id.table == SERVICE_TABLE) && not ((r.id.key == 0) && (length r.bytes == 4))

-- whether a row may not be loaded after these: it is too long, its id came earlier, or it is strange
abbrev pub is_bad : List RowWrite → RowWrite → Bool
is_bad earlier r =
    nat_lt MAX_ROW_BYTES (length r.bytes)
    || (list_any (λ (e : RowWrite). same_id e.id r.id) earlier || is_strange r)

-- the id of the first of these rows that may not be loaded after those
abbrev pub first_bad_after : List RowWrite → List RowWrite → Option RowId
first_bad_after earlier [] = None
first_bad_after earlier (r ∷ rs) =
    if is_bad earlier r then Some r.id else first_bad_after (earlier ++ r ∷ []) rs

-- the id of the first row that may not be loaded
abbrev pub first_bad : List RowWrite → Option RowId
first_bad rows = first_bad_after [] rows

-- a row that may be loaded beside others: it is not too long, and of the service's own table only that of a boot's
-- number
pub record IsLoadable (r : RowWrite) : Type 0 where
  pub short : length r.bytes ≤ MAX_ROW_BYTES
  pub key : r.id.table ≡ SERVICE_TABLE → r.id.key ≡ 0
  pub number : r.id.table ≡ SERVICE_TABLE → length r.bytes ≡ 4

-- Rows that may be loaded: each by itself, and no two of one id.
pub record AreLoadable (rows : List RowWrite) : Type 0 where
  pub each : All IsLoadable rows
  pub apart : (i j : ℕ) (a b : RowWrite) → slice_get rows i ≡ Some a → slice_get rows j ≡ Some b → a.id ≡ b.id → i ≡ j

-- The id is that of the first row that may not be loaded: those before it may, and with it they may not.
pub record IsFirstBad (rows : List RowWrite) (id : RowId) : Type 0 where
  pub before : List RowWrite
  pub row : RowWrite
  pub after : List RowWrite
  pub parts : rows ≡ before ++ row ∷ after
  pub is : row.id ≡ id
  pub good : AreLoadable before
  pub bad : ¬ AreLoadable (before ++ row ∷ [])

-- the number that bytes hold, and 0 where there are none
abbrev pub number_in : Option (List ℕ) → ℕ
number_in None = 0
number_in (Some bytes) = big_endian_number bytes

-- the number of the last boot that these rows have, and 0 where they have none
abbrev pub last_boot : List RowWrite → ℕ
last_boot rows = number_in (row_in rows boot_id)

-- the greatest number of a boot
abbrev pub greatest_boot : ℕ
greatest_boot = 2 ^ 32 - 1

-- the start over rows that were loaded: the next boot, whose number is put over them
abbrev pub start_over : Parts → List FaultPlan → JournalLimits → List RowWrite → Start
start_over parts plans limits rows = record {
  boot = last_boot rows + 1;
  base = rows ++ boot_row (last_boot rows + 1) ∷ [];
  deployment = parts;
  plans = plans;
  limits = limits;
}

-- The keeper gave these rows: where it tells, just those that it holds, in order of id.
abbrev pub AreGiven : List RowWrite → Option KeeperTold → Type 0
AreGiven rows told = IfSome told (λ t. (rows ≡ t.rows) × AreOrdered rows)

-- A boot was opened: over the rows that the keeper gave, none of which is bad, with the next number, which the keeper
-- holds now.
pub record IsOpened (parts : Parts) (plans : List FaultPlan) (limits : JournalLimits) (old : Option KeeperTold) (opened : BootValue) (new : Option KeeperTold) : Type 0 where
  pub rows : List RowWrite
  pub given : AreGiven rows old
  pub good : first_bad rows ≡ None
  pub unspent : last_boot rows < greatest_boot
  pub boot : opened ≡ new_boot (start_over parts plans limits rows)
  pub kept : new ≡ applied (boot_row (last_boot rows + 1) ∷ []) (loaded old)

-- A container was started: its boot was opened, and nothing has happened since.
pub record IsStarted (parts : Parts) (plans : List FaultPlan) (limits : JournalLimits) (told : Option KeeperTold) (c : ContainerValue) : Type 0 where
  pub opened : IsOpened parts plans limits told c.boot c.told
  pub since : c.since ≡ []

-- Rows that no container is started over: one is bad, or the number of the last boot is the greatest; or memory ran
-- out, which is answered only where neither is so.
abbrev pub IsUnfit : StartRefusal → List RowWrite → Type 0
IsUnfit KeeperFailed rows = ⊥
IsUnfit (BadRow id) rows = first_bad rows ≡ Some id
IsUnfit BootsSpent rows = (first_bad rows ≡ None) × (last_boot rows ≡ greatest_boot)
IsUnfit OutOfMemory rows = (first_bad rows ≡ None) × (last_boot rows < greatest_boot)

-- the refusal of a start whose keeper refused a call
abbrev pub refusal_of : KeeperFault → StartRefusal
refusal_of faults.Failed = KeeperFailed
refusal_of faults.OutOfMemory = OutOfMemory

-- Good rows were given, with a number of a boot that is not the greatest.
pub record AreGood (told : Option KeeperTold) (rows : List RowWrite) : Type 0 where
  pub given : AreGiven rows told
  pub good : first_bad rows ≡ None
  pub unspent : last_boot rows < greatest_boot

-- Why a container was not started, with what the keeper told before and tells after.
abbrev pub IsRefusedStart : StartRefusal → Option KeeperTold → Option KeeperTold → Type 0
IsRefusedStart KeeperFailed old new =
    TellsRefusal faults.Failed old new
    ⊎ ((rows : List RowWrite) × AreGood old rows × TellsRefusal faults.Failed (loaded old) new)
IsRefusedStart (BadRow id) old new =
    (rows : List RowWrite) × AreGiven rows old × (first_bad rows ≡ Some id) × (new ≡ loaded old)
IsRefusedStart BootsSpent old new =
    (rows : List RowWrite) × AreGiven rows old × (first_bad rows ≡ None)
    × (last_boot rows ≡ greatest_boot) × (new ≡ loaded old)
IsRefusedStart OutOfMemory old new =
    TellsRefusal faults.OutOfMemory old new
    ⊎ ((rows : List RowWrite) × AreGood old rows
    × ((new ≡ loaded old) ⊎ TellsRefusal faults.OutOfMemory (loaded old) new))
