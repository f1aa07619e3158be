-- The reboots that a journal has of a group.
use Rattle.std.specs.Prelude.{ℕ, if◌then◌else◌, List, [], ◌∷◌}
use Rattle.crash_base.specs.declared.numbers.Level.{Level}
use Rattle.crash_base.specs.Scope.{holds}
use Rattle.journal_model.specs.declared.entry.Entry.{Entry}
use Rattle.journal_model.specs.declared.entry.Entry.TheVariants.{Commit, Down, Up}
use Rattle.component_pool.specs.Cures.{level_of}

-- the levels of the reboots of a group that a journal has, in order: those of the Downs whose scope holds it
abbrev pub reboots_in : List Entry → ℕ → List Level
reboots_in [] g = []
reboots_in (Commit e ∷ es) g = reboots_in es g
reboots_in (Down s ∷ es) g =
    if holds s g then level_of s ∷ reboots_in es g else reboots_in es g
reboots_in (Up s ∷ es) g = reboots_in es g
