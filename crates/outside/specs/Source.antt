-- What a source has left, where it tells.
use Rattle.std.specs.Prelude.{◌≡◌, ℕ, List, [], ◌++◌, Option, Some, None, IfSome}

-- These bytes, and then what is left, where the source tells.
abbrev pub prepended : List ℕ → Option (List ℕ) → Option (List ℕ)
prepended taken None = None
prepended taken (Some left) = Some (taken ++ left)

-- Nothing is left, where the source tells.
abbrev pub HasEnded : Option (List ℕ) → Type 0
HasEnded left = IfSome left (λ bytes. bytes ≡ [])
