-- Steps of groups, one after the other.
use Rattle.std.specs.Prelude.{ℕ, ◌==◌, Bool, false, List, fold}
use Rattle.crash_base.specs.declared.numbers.Place.{Place}
use Rattle.naming_table.specs.Names.{NamesValue, with_down, with_up}

-- a group goes down by the Down at a place, or comes up
pub data Step : Type 0 where
  SetDown : (g : ℕ) (place : Place) → Step
  SetUp : (g : ℕ) → Step

-- the names after a step
abbrev pub after_step : NamesValue → Step → NamesValue
after_step names (SetDown g place) = with_down names g place
after_step names (SetUp g) = with_up names g

-- the names after steps, the first first
abbrev pub after_steps : NamesValue → List Step → NamesValue
after_steps names steps = fold after_step names steps

-- whether a step is of this group
abbrev pub is_step_of : ℕ → Step → Bool
is_step_of g (SetDown h place) = h == g
is_step_of g (SetUp h) = h == g

-- whether this group goes down by a step
abbrev pub is_set_down_of : ℕ → Step → Bool
is_set_down_of g (SetDown h place) = h == g
is_set_down_of g (SetUp h) = false
