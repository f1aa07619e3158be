-- What a call may enter, and which tables it may access.
use Rattle.std.specs.Prelude.{ℕ, ◌-◌, ◌==◌, Bool, true, false, List, length, Option, Some, None, slice_get}
use Rattle.crash_base.specs.declared.numbers.ComponentNo.{ComponentNo}
use Rattle.deployment.specs.declared.parts.Parts.{Parts}
use Rattle.deployment.specs.Parts.{may_call, owner_of}
use Rattle.journal_model.specs.Calls.{Call}

-- the component of the frame that was opened last, if one is open
abbrev pub last_frame : List ComponentNo → Option ComponentNo
last_frame frames = slice_get frames (length frames - 1)

-- whether a call from there, or from outside, may enter a component
abbrev pub may_enter_from : Parts → Option ComponentNo → ComponentNo → Bool
may_enter_from parts None c = true
may_enter_from parts (Some x) c = may_call parts x.0 c.0

-- whether both components are there and are one
abbrev pub is_same_component : Option ComponentNo → Option ComponentNo → Bool
is_same_component None b = false
is_same_component (Some a) None = false
is_same_component (Some a) (Some b) = a.0 == b.0

-- whether the frame that was opened last is of the component that owns the table
abbrev pub is_inside : Parts → List ComponentNo → ℕ → Bool
is_inside parts frames table = is_same_component (last_frame frames) (owner_of parts.tables table)

-- whether a call may enter a component: it is in none, or in one that may call it
abbrev pub may_enter : Parts → Call → ComponentNo → Bool
may_enter parts call c = may_enter_from parts (last_frame call.frames) c

-- whether a call may access a table: it is in the component that owns it
abbrev pub is_in_owner : Parts → Call → ℕ → Bool
is_in_owner parts call table = is_inside parts call.frames table
