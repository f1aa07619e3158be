-- When a brick has no room for a value.
use Rattle.std.proofs.Common.{◌≡◌, ℕ, ◌+◌, ◌<◌, ◌≤◌, ◌↔◌, ◌⊎◌, Bool, true, false, nat_lt, nat_le, ◌||◌, List, length, Option, Some, None, inl, inr, refl, sym, ap, ◌∙◌, arith}
use Rattle.std.proofs.lemmas.Bool.Decides.{nat_tests}
use Rattle.brick_store.specs.declared.kept.Kept.{Kept}
use Rattle.brick_store.specs.declared.kept.TheConstants.{MAX_BRICK_VALUES, MAX_BRICK_BYTES}
use Rattle.brick_store.specs.Kept.{kept_under, with_kept, bytes_of, size_of, is_full, AreInOrder}
use Rattle.brick_store.proofs.Keeping.{weight, bytes_with, count_with}

-- a value under a new key and version has no room exactly at a limit
pub full_new : (s : Kept) (ts : List Kept) → AreInOrder ts → kept_under s.key s.version ts ≡ None
    → is_full ts s ≡ (nat_le MAX_BRICK_VALUES (length ts) || nat_lt MAX_BRICK_BYTES (bytes_of ts + length s.value))
full_new s ts ordered none =
    let count : length (with_kept s ts) + 0 ≡ length ts + 1 = ap (λ found. length (with_kept s ts) + weight (λ t. 1) found) (sym none) ∙ count_with s ts ordered in
    let bytes : bytes_of (with_kept s ts) + 0 ≡ bytes_of ts + length s.value = ap (λ found. bytes_of (with_kept s ts) + size_of found) (sym none) ∙ bytes_with s ts ordered in
    tests (length (with_kept s ts)) (length ts) (bytes_of (with_kept s ts)) (bytes_of ts + length s.value) count bytes
  where
    tests : (a b c d : ℕ) → a + 0 ≡ b + 1 → c + 0 ≡ d → (nat_lt MAX_BRICK_VALUES a || nat_lt MAX_BRICK_BYTES c) ≡ (nat_le MAX_BRICK_VALUES b || nat_lt MAX_BRICK_BYTES d)
    tests a b c d count bytes = grind (arith, nat_tests)

-- a value in place of another has no room exactly where the bytes would pass their limit
pub full_over : (s t : Kept) (ts : List Kept) → AreInOrder ts → length ts ≤ MAX_BRICK_VALUES → kept_under s.key s.version ts ≡ Some t
    → is_full ts s ≡ nat_lt (MAX_BRICK_BYTES + length t.value) (bytes_of ts + length s.value)
full_over s t ts ordered few found =
    let count : length (with_kept s ts) + 1 ≡ length ts + 1 = ap (λ f. length (with_kept s ts) + weight (λ u. 1) f) (sym found) ∙ count_with s ts ordered in
    let bytes : bytes_of (with_kept s ts) + length t.value ≡ bytes_of ts + length s.value = ap (λ f. bytes_of (with_kept s ts) + size_of f) (sym found) ∙ bytes_with s ts ordered in
    tests (length (with_kept s ts)) (length ts) (bytes_of (with_kept s ts)) (length t.value) (bytes_of ts + length s.value) few count bytes
  where
    tests : (a b c d e : ℕ) → b ≤ MAX_BRICK_VALUES → a + 1 ≡ b + 1 → c + d ≡ e → (nat_lt MAX_BRICK_VALUES a || nat_lt MAX_BRICK_BYTES c) ≡ nat_lt (MAX_BRICK_BYTES + d) e
    tests a b c d e few count bytes = grind (arith, nat_tests)

-- what a limit says, where this is kept under the key and version of a value, so many values are kept, and with the
-- new one these are the bytes
abbrev AtLimit : Option Kept → ℕ → ℕ → Type 0
AtLimit found values bytes = ((found ≡ None) × (values ≡ MAX_BRICK_VALUES)) ⊎ (MAX_BRICK_BYTES + size_of found < bytes)

by_new : (a b : ℕ) → a ≤ MAX_BRICK_VALUES → ((nat_le MAX_BRICK_VALUES a || nat_lt MAX_BRICK_BYTES b) ≡ true) ↔ AtLimit None a b
by_new a b few = (go (nat_le MAX_BRICK_VALUES a) refl, back)
  where
    go : (at_limit : Bool) → nat_le MAX_BRICK_VALUES a ≡ at_limit → (at_limit || nat_lt MAX_BRICK_BYTES b) ≡ true → AtLimit None a b
    go true at_limit full = inl (refl, grind (arith, nat_tests))
    go false at_limit full = inr (grind (arith, nat_tests))

    back : AtLimit None a b → (nat_le MAX_BRICK_VALUES a || nat_lt MAX_BRICK_BYTES b) ≡ true
    back (inl both) = let same : a ≡ MAX_BRICK_VALUES = both.1 in grind (arith, nat_tests)
    back (inr more) = grind (arith, nat_tests)

by_bytes : (t : Kept) (a b : ℕ) → (nat_lt (MAX_BRICK_BYTES + length t.value) b ≡ true) ↔ AtLimit (Some t) a b
by_bytes t a b = ((λ full. inr (grind (arith, nat_tests))), back)
  where
    back : AtLimit (Some t) a b → nat_lt (MAX_BRICK_BYTES + length t.value) b ≡ true
    back (inl both) = let none : Some t ≡ None = both.0 in absurd (cc)
    back (inr more) = grind (arith, nat_tests)

-- there is no room exactly at a limit
pub full_at : (s : Kept) (ts : List Kept) (found : Option Kept) → AreInOrder ts → length ts ≤ MAX_BRICK_VALUES → kept_under s.key s.version ts ≡ found
    → (is_full ts s ≡ true) ↔ AtLimit found (length ts) (bytes_of ts + length s.value)
full_at s ts None ordered few is =
    let same = full_new s ts ordered is in
    let limit = by_new (length ts) (bytes_of ts + length s.value) few in
    ((λ full. limit.0 (sym same ∙ full)), (λ at. same ∙ limit.1 at))
full_at s ts (Some t) ordered few is =
    let same = full_over s t ts ordered few is in
    let limit = by_bytes t (length ts) (bytes_of ts + length s.value) in
    ((λ full. limit.0 (sym same ∙ full)), (λ at. same ∙ limit.1 at))
