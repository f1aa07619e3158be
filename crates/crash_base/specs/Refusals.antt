-- Refusals in the order in which they are looked at.
use Rattle.std.specs.Prelude.{Bool, if◌then◌else◌, List, [], ◌∷◌, Option, Some, None}
use Rattle.std.specs.Option.{option_or}

-- the first of these that is there
abbrev pub first_of : {R : Type 0} → List (Option R) → Option R
first_of [] = None
first_of (r ∷ rs) = option_or r (first_of rs)

-- what is there only where a test holds
abbrev pub only_if : {R : Type 0} → Bool → R → Option R
only_if b r = if b then Some r else None
