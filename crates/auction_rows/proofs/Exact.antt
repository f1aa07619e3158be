-- Rows that are exact: what they read is spelled so, and what is spelled so is read.
use Rattle.std.proofs.Common.{◌≡◌, ◌↔◌, ℕ, ◌==◌, Bool, true, false, ◌&&◌, cond, nat_lt, List, [], ◌++◌, length, Option, Some, None, IfSome, refl, sym, ap, subst, ◌∙◌, append-nil, arith}
use Rattle.std.proofs.lemmas.Bool.Decides.{nat_tests}
use Rattle.std.proofs.lemmas.List.{nil_from_length}
use Rattle.crash_base.specs.declared.rows.TheConstants.{MAX_ROW_BYTES}
use Rattle.byte_fields.specs.Reading.{Field}
use Rattle.byte_fields.specs.Spelling.{AreBytes}
use Rattle.byte_fields.proofs.Exact.{bound, unless_some, if_some, Takes}
use Rattle.auction_rows.specs.Bounds.{fits_a_row}
use Rattle.auction_rows.specs.Reading.{whole}

pub both_true : (a b : Bool) → a ≡ true → b ≡ true → (a && b) ≡ true
both_true a b p q = rw (p, q) refl

pub split : (a b : Bool) → (a && b) ≡ true → (a ≡ true) × (b ≡ true)
split true b e = (refl, e)
split false b e = absurd cc

-- how the fields of a row were read
pub record Reads {A : Type 0} (spell : A → List ℕ) (IsIn : A → Type 0) (bytes : List ℕ) (x : A) (rest : List ℕ) : Type 0 where
  pub takes : Takes bytes (spell x) rest
  pub is_in : fits_a_row (spell x) ≡ true → IsIn x

-- the fields of a row are exact
pub record AreExact {A : Type 0} (fields : Field A) (spell : A → List ℕ) (IsIn : A → Type 0) : Type 0 where
  pub takes : (bytes : List ℕ) (y : A × List ℕ) → AreBytes bytes → fields bytes ≡ Some y → Reads spell IsIn bytes y.0 y.1
  pub again : (x : A) (rest : List ℕ) → IsIn x → fields (spell x ++ rest) ≡ Some (x, rest)
  pub few : (x : A) → IsIn x → fits_a_row (spell x) ≡ true

-- what all of the bytes were read to
pub whole_takes : {A : Type 0} {fields : Field A} {spell : A → List ℕ} {IsIn : A → Type 0} → AreExact fields spell IsIn → (bytes : List ℕ) (x : A) → AreBytes bytes → whole fields bytes ≡ Some x → IsIn x × (bytes ≡ spell x)
whole_takes {A} {fields} {spell} {IsIn} exact bytes x are e =
    let b = bound (cond (nat_lt MAX_ROW_BYTES (length bytes)) None (fields bytes)) (λ (found : A × List ℕ). cond (length found.1 == 0) (Some found.0) None) x e in
    let y = b.value in
    let f = unless_some (nat_lt MAX_ROW_BYTES (length bytes)) (fields bytes) y b.is in
    let r = exact.takes bytes y are f.1 in
    let g = if_some (length y.1 == 0) (Some y.0) x b.next in
    let none : length y.1 ≡ 0 = grind (arith, nat_tests) in
    let same : y.0 ≡ x = cc in
    let is : bytes ≡ spell y.0 = r.takes.parts ∙ ap (λ rest. spell y.0 ++ rest) (nil_from_length y.1 none) ∙ append-nil (spell y.0) in
    let long : nat_lt MAX_ROW_BYTES (length bytes) ≡ false = f.0 in
    let bytes_few : fits_a_row bytes ≡ true = grind (arith, nat_tests) in
    let few : fits_a_row (spell y.0) ≡ true = subst (λ (s : List ℕ). fits_a_row s ≡ true) is bytes_few in
    let P : A → Type 0 = λ z. IsIn z × (bytes ≡ spell z) in
    subst P same (r.is_in few, is)

-- what spells a row is read as it
pub whole_again : {A : Type 0} {fields : Field A} {spell : A → List ℕ} {IsIn : A → Type 0} → AreExact fields spell IsIn → (x : A) → IsIn x → whole fields (spell x) ≡ Some x
whole_again {A} {fields} {spell} {IsIn} exact x h =
    let few : fits_a_row (spell x) ≡ true = exact.few x h in
    let short : nat_lt MAX_ROW_BYTES (length (spell x)) ≡ false = grind (arith, nat_tests) in
    let read : fields (spell x) ≡ Some (x, []) = ap fields (sym (append-nil (spell x))) ∙ exact.again x [] h in
    rw (short, read) refl

-- a row is exact
pub record IsExactRow {A : Type 0} (read : List ℕ → Option A) (spell : A → List ℕ) (IsIn : A → Type 0) : Type 0 where
  pub takes : (bytes : List ℕ) (x : A) → AreBytes bytes → read bytes ≡ Some x → IsIn x × (bytes ≡ spell x)
  pub again : (x : A) → IsIn x → read (spell x) ≡ Some x

-- what is read, and what spells it
pub exactly : {A : Type 0} {read : List ℕ → Option A} {spell : A → List ℕ} {IsIn : A → Type 0} → IsExactRow read spell IsIn → (bytes : List ℕ) (x : A) → AreBytes bytes → (read bytes ≡ Some x) ↔ (IsIn x × (bytes ≡ spell x))
exactly {A} {read} exact bytes x are = (exact.takes bytes x are, λ s. ap read s.1 ∙ exact.again x s.0)

-- a row that was found is within its bounds
pub found_within : {A : Type 0} {read : List ℕ → Option A} {spell : A → List ℕ} {IsIn : A → Type 0} → IsExactRow read spell IsIn → (is_within : A → Bool) → ((x : A) → IsIn x → is_within x ≡ true) → (bytes : List ℕ) (found : Option A) → AreBytes bytes → found ≡ read bytes → IfSome found (λ x. is_within x ≡ true)
found_within exact is_within why bytes None are e = tt
found_within exact is_within why bytes (Some x) are e = why x ((exact.takes bytes x are (sym e)).0)
