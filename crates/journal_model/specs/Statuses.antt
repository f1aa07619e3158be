-- The statuses of all groups.
use Rattle.std.specs.Prelude.{◌≡◌, ℕ, ◌+◌, ◌<◌, List, replicate, slice_index_or, slice_set, if◌then◌else◌, Some, None}
use Rattle.crash_base.specs.declared.numbers.Place.{Place}
use Rattle.crash_base.specs.declared.scope.Scope.{Scope}
use Rattle.crash_base.specs.declared.scope.TheConstants.{MAX_GROUPS}
use Rattle.crash_base.specs.Scope.{holds}
use Rattle.journal_model.specs.declared.entry.Entry.{Entry}
use Rattle.journal_model.specs.declared.status.GroupStatus.{GroupStatus}
use Rattle.journal_model.specs.Reboots.{status_of}

-- a group that is up and was never rebooted
abbrev pub never_rebooted : GroupStatus
never_rebooted = record { generation = 0; down = None }

-- each group is up and was never rebooted
unfoldable pub statuses_first : List GroupStatus
statuses_first = replicate MAX_GROUPS never_rebooted

-- a group's status among them
abbrev pub status_in : List GroupStatus → ℕ → GroupStatus
status_in statuses g = slice_index_or statuses g never_rebooted

-- a group that went down by the Down at a place
abbrev pub went_down : Place → GroupStatus → GroupStatus
went_down place status = record { generation = status.generation + 1; down = Some place }

-- a group that came up
abbrev pub came_up : GroupStatus → GroupStatus
came_up status = record { generation = status.generation; down = None }

-- the statuses once a group went down by the Down at a place
abbrev pub set_down : List GroupStatus → ℕ → Place → List GroupStatus
set_down statuses g place = slice_set statuses g (went_down place (status_in statuses g))

-- the statuses once a group came up
abbrev pub set_up : List GroupStatus → ℕ → List GroupStatus
set_up statuses g = slice_set statuses g (came_up (status_in statuses g))

-- a group's status once each group that a scope holds has changed
abbrev pub changed : Scope → (GroupStatus → GroupStatus) → List GroupStatus → ℕ → GroupStatus
changed scope change statuses g =
    if holds scope g then change (status_in statuses g) else status_in statuses g

-- Each group has the status that it has after these entries.
abbrev pub AreStatuses : List GroupStatus → List Entry → Type 0
AreStatuses statuses es = (g : ℕ) → g < MAX_GROUPS → status_in statuses g ≡ status_of es g
