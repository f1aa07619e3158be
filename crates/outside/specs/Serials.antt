-- Serial numbers that are drawn, each once.
use Rattle.std.specs.Prelude.{◌≡◌, ◌≢◌, ℕ, ◌+◌, ◌<◌, ◌≤◌, All, List, [], ◌∷◌, Option, Some, None}
use Rattle.std.proofs.Common.{arith}

-- A draw may answer this number: it was undrawn, and is not now.
pub record IsDrawn {S : Type 0} (undrawn : S → ℕ → Type 0) (old new : S) (serial : ℕ) : Type 0 where
  pub was_undrawn : undrawn old serial
  pub is_drawn : undrawn new serial → ⊥

-- A draw looked at this number: what is below it is not undrawn now, and nothing became undrawn.
pub record Looked {S : Type 0} (undrawn : S → ℕ → Type 0) (old : S) (seen : ℕ) (new : S) : Type 0 where
  pub past : (other : ℕ) → other < seen → undrawn new other → ⊥
  pub left : (other : ℕ) → undrawn new other → undrawn old other

-- Draws in a row may answer these numbers, and none where one is spent.
abbrev pub Draws : {S : Type 0} → (S → ℕ → Option ℕ → S → Type 0) → S → List (Option ℕ) → S → Type 0
Draws looks old [] new = old ≡ new
Draws {S} looks old (drawn ∷ more) new =
    (seen : ℕ) × (next : S) × looks old seen drawn next × Draws looks next more new

-- no number stands twice
abbrev pub AllDiffer : List ℕ → Type 0
AllDiffer [] = Unit {0}
AllDiffer (n ∷ ns) = All (λ m. n ≢ m) ns × AllDiffer ns

-- Where numbers are counted, the next one is looked at, and it is the one that is drawn.
abbrev pub PlainLooks : ℕ → ℕ → Option ℕ → ℕ → Type 0
PlainLooks next seen (Some serial) new = (seen ≡ next) × (serial ≡ next) × (new ≡ next + 1)
PlainLooks next seen None new = (seen ≡ next) × (new ≡ next)

pub plain_goes_on : (old new seen : ℕ) (drawn : Option ℕ) → PlainLooks old seen drawn new → Looked (λ next serial. next ≤ serial) old seen new
plain_goes_on old new seen (Some serial) looks =
    record { past = λ other below here. omega arith; left = λ other here. omega arith }
plain_goes_on old new seen None looks =
    record { past = λ other below here. omega arith; left = λ other here. omega arith }

pub plain_once : (old new seen serial : ℕ) → PlainLooks old seen (Some serial) new → IsDrawn (λ next serial. next ≤ serial) old new serial
plain_once old new seen serial looks =
    record { was_undrawn = omega arith; is_drawn = λ here. omega arith }
