-- What was written to a sink, where it tells.
use Rattle.std.specs.Prelude.{◌≡◌, ℕ, ◌⊎◌, List, ◌++◌, Option, Some, None}
use mathlib.Core.List.{IsPrefix}
use Rattle.outside.specs.Faults.{Rose}

-- What was written before, where the sink tells, and then these bytes.
abbrev pub appended : Option (List ℕ) → List ℕ → Option (List ℕ)
appended None bytes = None
appended (Some before) bytes = Some (before ++ bytes)

-- A prefix of the bytes was written.
abbrev pub AppendsPrefix : Option (List ℕ) → Option (List ℕ) → List ℕ → Type 0
AppendsPrefix old new bytes =
    (written : List ℕ) × (new ≡ appended old written) × IsPrefix written bytes

-- All of the bytes were written, or a prefix of them and then a fault was counted.
abbrev pub AppendsOrFails : Option (List ℕ) → Option (List ℕ) → ℕ → ℕ → List ℕ → Type 0
AppendsOrFails old new before now bytes =
    (new ≡ appended old bytes) ⊎ (Rose before now × AppendsPrefix old new bytes)
