-- The first place that passes a test.
use Rattle.std.proofs.Common.{◌≡◌, ℕ, zero, suc, ◌+◌, ◌<◌, Bool, true, false, not, cond, nat_lt, List, [], ◌∷◌, length, Some, None, refl, sym, ap, ◌∙◌, arith}
use Rattle.std.specs.Prelude.{slice_get, position}
use Rattle.std.specs.List.{position_or_len}
use Rattle.std.proofs.lemmas.Bool.Decides.{nat_tests}

-- an item that stands at a place and passes
pub record Passes {A : Type 0} (test : A → Bool) (xs : List A) (i : ℕ) : Type 0 where
  pub item : A
  pub there : slice_get xs i ≡ Some item
  pub passes : test item ≡ true

there_passes : {A : Type 0} (test : A → Bool) (xs : List A) → position_or_len test xs < length xs → Passes test xs (position_or_len test xs)
there_passes test [] within = absurd (omega arith)
there_passes {A} test (x ∷ xs) within = go (test x) refl within (there_passes test xs)
  where
    go : (b : Bool) → test x ≡ b → cond (not b) (1 + position_or_len test xs) 0 < length (x ∷ xs) → (position_or_len test xs < length xs → Passes test xs (position_or_len test xs))
        → Passes test (x ∷ xs) (cond (not b) (1 + position_or_len test xs) 0)
    go true is less later = record { item = x; there = refl; passes = is }
    go false is less later =
        let found : Passes test xs (position_or_len test xs) = later (omega arith) in
        let place : 1 + position_or_len test xs ≡ suc (position_or_len test xs) = omega arith in
        record { item = found.item; there = ap (slice_get (x ∷ xs)) place ∙ found.there; passes = found.passes }

pub position_passes : {A : Type 0} (test : A → Bool) (xs : List A) (i : ℕ) → position test xs ≡ Some i → Passes test xs i
position_passes test xs i is = go (nat_lt (position_or_len test xs) (length xs)) refl is
  where
    go : (b : Bool) → nat_lt (position_or_len test xs) (length xs) ≡ b → cond b (Some (position_or_len test xs)) None ≡ Some i → Passes test xs i
    go true less e =
        let place : position_or_len test xs ≡ i = cc in
        let found : Passes test xs (position_or_len test xs) = there_passes test xs (grind (arith, nat_tests)) in
        record { item = found.item; there = ap (slice_get xs) (sym place) ∙ found.there; passes = found.passes }
    go false less e = absurd (cc)

none_before : {A : Type 0} (test : A → Bool) (xs : List A) → (position_or_len test xs < length xs → ⊥) → (i : ℕ) (x : A) → slice_get xs i ≡ Some x → test x ≡ false
none_before test [] none i x there = absurd (cc)
none_before {A} test (y ∷ xs) none i x there = go (test y) refl none i there (none_before test xs)
  where
    go : (b : Bool) → test y ≡ b → (cond (not b) (1 + position_or_len test xs) 0 < length (y ∷ xs) → ⊥) → (j : ℕ) → slice_get (y ∷ xs) j ≡ Some x
        → ((position_or_len test xs < length xs → ⊥) → (k : ℕ) (z : A) → slice_get xs k ≡ Some z → test z ≡ false) → test x ≡ false
    go true is no_place j at_j later = absurd (no_place (omega arith))
    go false is no_place zero at_j later = let same : y ≡ x = cc in ap test (sym same) ∙ is
    go false is no_place (suc j) at_j later = later (λ less. no_place (omega arith)) j x at_j

pub position_none : {A : Type 0} (test : A → Bool) (xs : List A) → position test xs ≡ None → (i : ℕ) (x : A) → slice_get xs i ≡ Some x → test x ≡ false
position_none {A} test xs is = none_before test xs (go (nat_lt (position_or_len test xs) (length xs)) refl is)
  where
    go : (b : Bool) → nat_lt (position_or_len test xs) (length xs) ≡ b → cond b (Some (position_or_len test xs)) None ≡ None → position_or_len test xs < length xs → ⊥
    go true more e less = absurd (cc)
    go false more e less = absurd (grind (arith, nat_tests))
