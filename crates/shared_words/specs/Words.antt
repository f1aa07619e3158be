-- Words and their seats, as contracts see them.
use Rattle.std.specs.Prelude.{ℕ, ◌==◌, max, if◌then◌else◌, List, [], ◌∷◌}
use Rattle.atomic_table.specs.Seated.{TableId}
use Rattle.shared_words.specs.declared.view.Sight.{Sight}

-- Which words they are, how many groups they have a generation of, and how many parts their seats have together.
pub record WordsValue : Type 0 where
  pub id : TableId
  pub groups : ℕ
  pub parts : ℕ

-- The words of a seat, its parts, the numbers that it drew, the greatest serial word that it saw, and the generations
-- that it saw or raised.
pub record WordSeatValue : Type 0 where
  pub words : TableId
  pub parts : ℕ
  pub drawn : List ℕ
  pub seen : ℕ
  pub sights : List Sight

-- the greatest generation at which a group was seen or to which it was raised, and 0 where there is none
abbrev pub greatest : ℕ → List Sight → ℕ
greatest g [] = 0
greatest g (s ∷ ss) = max (if s.group == g then s.generation else 0) (greatest g ss)
