-- Names and the statuses of groups, as contracts see them.
use Rattle.std.specs.Prelude.{◌≡◌, ℕ, ◌<◌, ◌≤◌, List, length, All, slice_get, position, bytes_eq, Option, option_map, option_and_then}
use Rattle.crash_base.specs.declared.numbers.Place.{Place}
use Rattle.crash_base.specs.declared.scope.TheConstants.{MAX_GROUPS}
use Rattle.deployment.specs.declared.parts.Parts.{Parts}
use Rattle.deployment.specs.Parts.{component_no}
use Rattle.journal_model.specs.declared.entry.Entry.{Entry}
use Rattle.journal_model.specs.declared.status.GroupStatus.{GroupStatus}
use Rattle.journal_model.specs.Statuses.{statuses_first, status_in, set_down, set_up, AreStatuses}
use Rattle.naming_table.specs.declared.binding.Binding.{Binding}
use Rattle.naming_table.specs.declared.bound.BoundName.{BoundName}
use Rattle.naming_table.specs.Binding.{names_of, binding_of}

-- the names of the components, and the status of each group
pub record NamesValue : Type 0 where
  pub bound : List BoundName
  pub statuses : List GroupStatus

-- there are not more names than groups, each of one of them
pub record AreWhole (bound : List BoundName) : Type 0 where
  pub few : length bound ≤ MAX_GROUPS
  pub groups : All (λ b. b.group.0 < MAX_GROUPS) bound

-- the names of a deployment, of which no group was rebooted yet
abbrev pub new_names : Parts → NamesValue
new_names parts = record { bound = names_of parts; statuses = statuses_first }

-- a group's status
abbrev pub status_at : NamesValue → ℕ → GroupStatus
status_at names g = status_in names.statuses g

-- the names once a group went down by the Down at a place
abbrev pub with_down : NamesValue → ℕ → Place → NamesValue
with_down names g place = record names { statuses = set_down names.statuses g place }

-- the names once a group came up
abbrev pub with_up : NamesValue → ℕ → NamesValue
with_up names g = record names { statuses = set_up names.statuses g }

-- the binding of the name at a number
abbrev pub binding_at : NamesValue → ℕ → Option Binding
binding_at names c =
    option_map (λ b. binding_of (component_no c) b.group (status_at names b.group.0))
    (slice_get names.bound c)

-- what a name is bound to: the first component of that name, with the status of its group
abbrev pub binding_now : NamesValue → List ℕ → Option Binding
binding_now names name =
    option_and_then (binding_at names) (position (λ b. bytes_eq b.name name) names.bound)

-- The names are those of these parts, and each group has the status that it has after these entries.
pub record Follows (names : NamesValue) (parts : Parts) (es : List Entry) : Type 0 where
  pub bound : names.bound ≡ names_of parts
  pub statuses : AreStatuses names.statuses es
