-- What follows where nothing is refused.
use Rattle.std.proofs.Common.{◌≡◌, ℕ, ◌+◌, ◌^◌, ◌<◌, ◌≤◌, ◌&&◌, Bool, true, false, if◌then◌else◌, List, [], ◌∷◌, Option, Some, None, option_map, refl, nat_le, nat_lt, arith}
use Rattle.std.proofs.lemmas.Bool.Decides.{nat_tests}
use Rattle.crash_base.specs.Refusals.{first_of}
use Rattle.journal_model.specs.declared.entry.Entry.{Entry}
use Rattle.journal_model.specs.declared.limits.FullAt.{FullAt}
use Rattle.journal_model.specs.declared.limits.JournalLimits.{JournalLimits}
use Rattle.journal_model.specs.Limits.{places, bytes_of, counted, fullness, full_for}

-- the first of refusals is none where each is none
pub first_none : {R : Type 0} (a : Option R) (rest : List (Option R)) → first_of (a ∷ rest) ≡ None → (a ≡ None) × (first_of rest ≡ None)
first_none None rest none = (refl, none)
first_none (Some r) rest none = absurd (cc)

-- and of one refusal it is that one
pub first_alone : {R : Type 0} (o : Option R) → first_of (o ∷ []) ≡ o
first_alone None = refl
first_alone (Some r) = refl

pub map_none : {A B : Type 0} (f : A → B) (o : Option A) → option_map f o ≡ None → o ≡ None
map_none f None none = refl
map_none f (Some a) none = absurd (cc)

-- a journal with room has it
pub full_none : (limits : JournalLimits) (es : List Entry) (entries bytes : ℕ) → full_for limits es entries bytes ≡ None → (places es + entries ≤ limits.entries) × (bytes_of es + bytes ≤ limits.bytes)
full_none limits es entries bytes none = go (nat_le (places es + entries) limits.entries) refl (nat_le (bytes_of es + bytes) limits.bytes) refl none
  where
    go : (a : Bool) → nat_le (places es + entries) limits.entries ≡ a → (b : Bool) → nat_le (bytes_of es + bytes) limits.bytes ≡ b
        → (if a && b then None else Some (let full : FullAt = record { entries = places es; bytes = bytes_of es } in full)) ≡ None → (places es + entries ≤ limits.entries) × (bytes_of es + bytes ≤ limits.bytes)
    go true is true fits none = (grind (arith, nat_tests), grind (arith, nat_tests))
    go true is false fits none = absurd (cc)
    go false is b fits none = absurd (cc)

-- bytes past the limit are too many
pub full_past : (limits : JournalLimits) (es : List Entry) (entries bytes : ℕ) → limits.bytes < bytes → full_for limits es entries bytes ≡ Some (fullness es)
full_past limits es entries bytes past = go (nat_le (places es + entries) limits.entries) (nat_le (bytes_of es + bytes) limits.bytes) refl
  where
    go : (a b : Bool) → nat_le (bytes_of es + bytes) limits.bytes ≡ b → (if a && b then None else Some (fullness es)) ≡ Some (fullness es)
    go true true fits = absurd (let le : bytes_of es + bytes ≤ limits.bytes = grind (arith, nat_tests) in omega arith)
    go true false fits = refl
    go false b fits = refl

-- a number that is counted is that number, and one that is not is great

pub counted_some : (n m : ℕ) → counted n ≡ Some m → n ≡ m
counted_some n m is = go (nat_lt n (2 ^ 64)) is
  where
    go : (b : Bool) → (if b then Some n else None) ≡ Some m → n ≡ m
    go true h = cc
    go false h = absurd (cc)

pub counted_none : (n : ℕ) → counted n ≡ None → 2 ^ 64 ≤ n
counted_none n is = go (nat_lt n (2 ^ 64)) refl is
  where
    go : (b : Bool) → nat_lt n (2 ^ 64) ≡ b → (if b then Some n else None) ≡ None → 2 ^ 64 ≤ n
    go true lt h = absurd (cc)
    go false lt h = grind (arith, nat_tests)
