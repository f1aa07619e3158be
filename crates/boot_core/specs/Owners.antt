-- Whose groups a call has entered, and who owns the rows that it writes.
use Rattle.std.specs.Prelude.{◌≡◌, true, List, Some}
use Rattle.crash_base.specs.declared.numbers.ComponentNo.{ComponentNo}
use Rattle.crash_base.specs.declared.rows.RowWrite.{RowWrite}
use Rattle.deployment.specs.declared.parts.Parts.{Parts}
use Rattle.deployment.specs.Groups.{group_of}
use Rattle.deployment.specs.Parts.{owner_of}
use Rattle.journal_model.specs.declared.entry.Touch.{Touch}
use Rattle.journal_model.specs.Calls.{is_touched}

-- A component's group was entered.
abbrev pub IsEntered : Parts → List Touch → ComponentNo → Type 0
IsEntered parts touched c = is_touched touched (group_of parts c.0) ≡ true

-- A row is of a table whose owner's group was entered.
pub record IsOwned (parts : Parts) (touched : List Touch) (w : RowWrite) : Type 0 where
  pub owner : ComponentNo
  pub owns : owner_of parts.tables w.id.table ≡ Some owner
  pub entered : IsEntered parts touched owner
