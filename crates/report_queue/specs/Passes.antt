-- Passes to a queue.
use Rattle.std.specs.Prelude.{◌≡◌, List, All}
use Rattle.atomic_table.specs.Seated.{TableId}

-- Which queue a pass is to, and what it knows of it.
pub record PassValue (V : Type 0) : Type 0 where
  pub queue : TableId
  pub knows : V

-- Each of these passes is to this queue, and knows this.
abbrev pub AreTo : {V : Type 0} → TableId → V → List (PassValue V) → Type 0
AreTo {V} queue knows passes =
    All (λ (pass : PassValue V). pass ≡ record { queue = queue; knows = knows }) passes
