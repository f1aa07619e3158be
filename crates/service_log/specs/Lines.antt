-- The lines of what happens to a server of a site.
use Rattle.std.specs.Prelude.{ℕ, suc, ◌==◌, Bool, if◌then◌else◌, List, [], ◌∷◌, ◌++◌, codes}
use Rattle.std.specs.Fmt.{decimal}
use Rattle.crash_base.specs.declared.scope.Scope.{Scope}
use Rattle.crash_base.specs.declared.scope.Scope.TheVariants.{Group, App}
use Rattle.deployment.specs.Groups.{group_of}
use Rattle.deployment.specs.declared.parts.ComponentPart.{ComponentPart}
use Rattle.deployment.specs.declared.parts.Parts.{Parts}
use Rattle.service_log.specs.declared.event.ServiceEvent.{ServiceEvent}
use Rattle.service_log.specs.declared.event.ServiceEvent.TheVariants.{Started, Rebooted, Stopped, HumanNeeded}

-- the line of the start of a boot over so many rows
abbrev pub started_line : ℕ → ℕ → List ℕ
started_line boot rows =
    codes "boot " ++ decimal boot ++ codes " started over " ++ decimal rows ++ codes " rows\n"

-- the line of a stop behind so many entries
abbrev pub stopped_line : ℕ → List ℕ
stopped_line entries = codes "restarting behind " ++ decimal entries ++ codes " entries\n"

-- the name of a component behind a space, if the component is in a group
abbrev pub name_in : Bool → List ℕ → List ℕ
name_in is_in name = if is_in then codes " " ++ name else []

-- the names of those of these components that are in a group, the first of which has this number
abbrev pub names_from : Parts → ℕ → ℕ → List ComponentPart → List ℕ
names_from parts group c [] = []
names_from parts group c (part ∷ rest) =
    name_in (group_of parts c == group) part.name ++ names_from parts group (suc c) rest

-- the names of the components of a group, each behind a space
abbrev pub names_of : Parts → ℕ → List ℕ
names_of parts group = names_from parts group 0 parts.components

-- what a scope holds, in names
abbrev pub scope_names : Parts → Scope → List ℕ
scope_names parts (Group group) = names_of parts group.0
scope_names parts App = codes " all"

-- the line of a reboot that took so long
abbrev pub rebooted_line : Parts → Scope → ℕ → List ℕ
rebooted_line parts scope milliseconds =
    codes "rebooted" ++ scope_names parts scope ++ codes ", down for " ++ decimal milliseconds ++ codes " ms\n"

-- the line of an event
abbrev pub line_of : Parts → ServiceEvent → List ℕ
line_of parts (Started boot rows) = started_line boot rows
line_of parts (Rebooted scope milliseconds) = rebooted_line parts scope milliseconds
line_of parts (Stopped entries) = stopped_line entries
line_of parts HumanNeeded = codes "human needed\n"
