-- The numbers of the rows that a page lists.
use Rattle.std.specs.Prelude.{ℕ, zero, suc, ◌+◌, ◌-◌, List, [], ◌∷◌}

-- so many numbers from the first up
abbrev pub count_up : ℕ → ℕ → List ℕ
count_up first zero = []
count_up first (suc more) = first ∷ count_up (first + 1) more

-- so many numbers from the last down
abbrev pub count_down : ℕ → ℕ → List ℕ
count_down last zero = []
count_down last (suc more) = last ∷ count_down (last - 1) more
