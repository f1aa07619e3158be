-- What a boot keeps at all times.
use Rattle.std.specs.Prelude.{◌≡◌, ℕ, List, Some, slice_get, All}
use Rattle.deployment.specs.declared.parts.Parts.{Parts}
use Rattle.journal_model.specs.declared.entry.CommitEntry.{CommitEntry}
use Rattle.journal_model.specs.declared.entry.Entry.{Entry}
use Rattle.journal_model.specs.declared.entry.Entry.TheVariants.{Commit}
use Rattle.journal_model.specs.Legal.{IsLegal}
use Rattle.journal_model.specs.Limits.{IsWithin}
use Rattle.boot_core.specs.Boot.{BootValue}
use Rattle.boot_core.specs.Owners.{IsOwned}

-- Each commit wrote only rows of tables whose owners' groups it entered.
abbrev pub AreOwned : Parts → List Entry → Type 0
AreOwned parts es = (i : ℕ) (e : CommitEntry) →
    slice_get es i ≡ Some (Commit e) → All (IsOwned parts e.touched) e.writes

-- The journal is legal and within its limits, and each commit wrote only rows of tables whose owners' groups it
-- entered.
pub record IsSound (c : BootValue) : Type 0 where
  pub legal : IsLegal c.start.base c.entries
  pub within : IsWithin c.start.limits c.entries
  pub owned : AreOwned c.start.deployment c.entries
