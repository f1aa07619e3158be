-- Places in a history.
use Rattle.std.specs.Prelude.{ℕ, ◌<◌, All, List, [], ◌∷◌}

-- Each of these places is below a number, and below the places behind it.
abbrev pub RiseBelow : ℕ → List ℕ → Type 0
RiseBelow n [] = Unit {0}
RiseBelow n (p ∷ ps) = (p < n) × All (λ q. p < q) ps × RiseBelow n ps
