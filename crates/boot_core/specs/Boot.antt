-- A boot, as contracts see it.
use Rattle.std.specs.Prelude.{◌≡◌, ℕ, List, [], ◌∷◌, ◌++◌}
use Rattle.crash_base.specs.declared.numbers.ComponentNo.{ComponentNo}
use Rattle.journal_model.specs.declared.entry.Entry.{Entry}
use Rattle.component_pool.specs.Pool.{none_entered, one_more}
use Rattle.boot_core.specs.declared.boot.Start.{Start}

-- how it was started, the entries of its journal since, and how often each component was entered, by its number
pub record BootValue : Type 0 where
  pub start : Start
  pub entries : List Entry
  pub entered : List ℕ

-- a boot that was just started
abbrev pub new_boot : Start → BootValue
new_boot start = record { start = start; entries = []; entered = none_entered }

-- a boot whose journal has one entry more
abbrev pub with_entry : BootValue → Entry → BootValue
with_entry b e = record b { entries = b.entries ++ e ∷ [] }

-- a boot in which a component was entered once more
abbrev pub with_entered : BootValue → ComponentNo → BootValue
with_entered b c = record b { entered = one_more b.entered c.0 }

-- A boot is as it was, but for how often its components were entered.
abbrev pub HasOnlyEntered : BootValue → BootValue → Type 0
HasOnlyEntered old new = new ≡ record old { entered = new.entered }

-- A boot has grown: it was started the same, and its journal begins with the one before.
pub record HasGrown (old new : BootValue) : Type 0 where
  pub start : new.start ≡ old.start
  pub more : List Entry
  pub entries : new.entries ≡ old.entries ++ more
