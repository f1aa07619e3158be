-- Counts that stay at their last value.
use Rattle.std.specs.Prelude.{◌≡◌, ℕ, ◌+◌, ◌-◌, ◌<◌, ◌≤◌, ◌^◌, ◌⊎◌, min}

-- One more, up to the last value of a count.
abbrev pub counted : ℕ → ℕ
counted n = min (n + 1) (2 ^ 64 - 1)

-- The count is greater than before, or is at its last value.
abbrev pub Rose : ℕ → ℕ → Type 0
Rose old new = (old < new) ⊎ (new ≡ 2 ^ 64 - 1)

-- The count is greater than before by at least this much, or is at its last value.
abbrev pub RoseBy : ℕ → ℕ → ℕ → Type 0
RoseBy more old new = (old + more ≤ new) ⊎ (new ≡ 2 ^ 64 - 1)

-- A count is at least what it was, and stays at its last value once there.
pub record NeverFalls (old new : ℕ) : Type 0 where
  pub least : old ≤ new
  pub stays : old ≡ 2 ^ 64 - 1 → new ≡ 2 ^ 64 - 1
