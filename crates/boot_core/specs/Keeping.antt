-- How the parts of a boot agree.
use Rattle.std.specs.Prelude.{ℕ, List, ◌++◌, All}
use Rattle.crash_base.specs.declared.numbers.Place.{Place}
use Rattle.crash_base.specs.declared.rows.RowWrite.{RowWrite}
use Rattle.call_ticket.specs.Within.{IsShortWrite}
use Rattle.component_pool.specs.Journal.{reboots_in}
use Rattle.component_pool.specs.Pool.{PoolValue, StandsFor, entered_in, times}
use Rattle.crash_base.specs.declared.fault_plans.FaultPlan.{FaultPlan}
use Rattle.deployment.specs.declared.parts.Parts.{Parts}
use Rattle.journal_model.specs.declared.entry.Entry.{Entry}
use Rattle.journal_model.specs.declared.limits.JournalLimits.{JournalLimits}
use Rattle.naming_table.specs.Names.{NamesValue, Follows}
use Rattle.row_store.specs.Rows.{RowsValue, AreRowsOf, note_at}
use Rattle.boot_core.specs.Boot.{BootValue}
use Rattle.boot_core.specs.Sound.{IsSound}
use Rattle.boot_core.specs.declared.boot.Start.{Start}

-- a start of these parts
abbrev pub start_of : ℕ → List RowWrite → Parts → List FaultPlan → JournalLimits → Start
start_of number base parts plans limits =
    record { boot = number; base = base; deployment = parts; plans = plans; limits = limits }

-- a boot of this start and these entries, whose components were entered so often
abbrev pub of_parts : Start → List Entry → List ℕ → BootValue
of_parts start entries entered = record { start = start; entries = entries; entered = entered }

-- The boot is sound, no row of its base is too long, names and rows follow the journal, and the pool stands for the
-- plans, for the enterings that it counts, and for the reboots of the journal.
pub record PartsAgree (start : Start) (entries : List Entry) (names : NamesValue) (rows : RowsValue) (pool : PoolValue) : Type 0 where
  pub sound : IsSound (of_parts start entries (entered_in pool))
  pub short : All IsShortWrite start.base
  pub follows : Follows names start.deployment entries
  pub noted : AreRowsOf rows start.base entries
  pub stands : StandsFor pool start.deployment start.plans (times (entered_in pool)) (reboots_in entries)

-- the rows once these were written at a place, if there are any
abbrev pub with_writes : RowsValue → Place → List RowWrite → RowsValue
with_writes rows place writes = record rows { noted = rows.noted ++ note_at place.0 writes }
