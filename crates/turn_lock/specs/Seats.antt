-- A lock and its seats, as contracts see them.
use Rattle.std.specs.Prelude.{ℕ, ◌-◌, Bool, List, length}
use Rattle.std.specs.List.{range_with_len}
use Rattle.atomic_table.specs.Seated.{TableId}

-- Which lock it is, and how many parts its seats have together.
pub record LockValue : Type 0 where
  pub id : TableId
  pub parts : ℕ

-- The lock of a seat, its parts, whether the value is out with it, the history that the value had when the seat last
-- held it, and the places in that history of the events that this seat added.
pub record SeatValue (E : Type 0) : Type 0 where
  pub lock : TableId
  pub parts : ℕ
  pub holds : Bool
  pub seen : List E
  pub own : List ℕ

-- the places of the events by which a history is longer than one that it begins with
abbrev pub new_places : {E : Type 0} → List E → List E → List ℕ
new_places old new = range_with_len (length old) (length new - length old)
