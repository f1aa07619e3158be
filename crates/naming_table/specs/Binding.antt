-- What the names of a deployment are bound to after a journal.
use Rattle.std.specs.Prelude.{ℕ, List, map, Option, Some, None, option_map}
use Rattle.std.specs.List.{enumerate_from}
use Rattle.crash_base.specs.declared.numbers.ComponentNo.{ComponentNo}
use Rattle.crash_base.specs.declared.numbers.GroupNo.{GroupNo}
use Rattle.crash_base.specs.declared.numbers.Place.{Place}
use Rattle.deployment.specs.declared.parts.ComponentPart.{ComponentPart}
use Rattle.deployment.specs.declared.parts.Parts.{Parts}
use Rattle.deployment.specs.Groups.{group_no, group_of}
use Rattle.deployment.specs.Parts.{component_no, named}
use Rattle.journal_model.specs.declared.entry.Entry.{Entry}
use Rattle.journal_model.specs.declared.status.GroupStatus.{GroupStatus}
use Rattle.journal_model.specs.Reboots.{status_of}
use Rattle.naming_table.specs.declared.binding.Binding.{Binding}
use Rattle.naming_table.specs.declared.binding.Binding.TheVariants.{Live, Sentinel}
use Rattle.naming_table.specs.declared.bound.BoundName.{BoundName}

-- a component's name, with its group
abbrev pub bound_name : Parts → ℕ × ComponentPart → BoundName
bound_name parts c = record { name = c.1.name; group = group_no (group_of parts c.0) }

-- the names of the components, in order
abbrev pub names_of : Parts → List BoundName
names_of parts = map (bound_name parts) (enumerate_from 0 parts.components)

-- a component of this generation where no Down keeps its group down, and else a sentinel
abbrev pub live_unless : ComponentNo → GroupNo → ℕ → Option Place → Binding
live_unless c g generation None = Live c generation
live_unless c g generation (Some place) = Sentinel g place

-- the binding of a component whose group has this status
abbrev pub binding_of : ComponentNo → GroupNo → GroupStatus → Binding
binding_of c g status = live_unless c g status.generation status.down

-- the binding of the component of a number, whose group has this status
abbrev pub component_binding : Parts → ℕ → GroupStatus → Binding
component_binding parts c status = binding_of (component_no c) (group_no (group_of parts c)) status

-- What a name is bound to after a journal: the component of that name, with the status of its group then.
abbrev pub binding_in : Parts → List Entry → List ℕ → Option Binding
binding_in parts es name =
    option_map (λ c. component_binding parts c (status_of es (group_of parts c)))
    (named parts.components name)
