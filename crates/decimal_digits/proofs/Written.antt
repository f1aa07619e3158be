-- Which texts write a number.
use Rattle.std.proofs.Common.{◌≡◌, ℕ, ◌+◌, ◌*◌, ◌-◌, ◌^◌, ◌<◌, ◌≤◌, ◌==◌, ◌&&◌, ◌||◌, ◌⊎◌, inl, inr, Bool, true, false, cond, nat_lt, List, [], ◌∷◌, length, get_or, slice_index, Some, None, refl, ap, sym, ◌∙◌, arith, rules}
use Rattle.std.specs.Fmt.{decimal}
use Rattle.std.specs.Char.{is_ascii_digit}
use Rattle.std.specs.Str.{all_ascii_digits}
use Rattle.std.specs.Str.Parse.{AllDigits, digits_value}
use Rattle.std.proofs.lemmas.Str.Parse.{IsNumeralModel, numerals_by_fold, tells_all_ascii_digits, digits_value_short}
use Rattle.std.proofs.lemmas.Fmt.{decimal-digits_value, digits_decimal, digits_value-decimal, decimal_nonempty, first_decimal, decimal_digit, length-decimal-le}
use Rattle.std.proofs.lemmas.Bool.{and_parts, or_parts}
use Rattle.std.proofs.lemmas.Bool.Decides.{nat_tests}
use Rattle.decimal_digits.specs.Digits.{digits_behind, number_of_digits, plain_number}

-- the number that digits go on to
abbrev read : ℕ → List ℕ → ℕ
read n [] = n
read n (c ∷ cs) = read (10 * n + (c - 48)) cs

-- digits, and the number that they are
own : IsNumeralModel (λ ds. all_ascii_digits ds ≡ true) (read 0)
own = numerals_by_fold _ tells_all_ascii_digits read (search rules)

-- a text that is read is digits of that number
digits_read : (k : ℕ) (ds : List ℕ) (n : ℕ) → digits_behind k ds ≡ Some n → (all_ascii_digits ds ≡ true) × (read k ds ≡ n)
digits_read k [] n e = let f : k ≡ n = cc in (refl, f)
digits_read k (c ∷ cs) n e =
    let m = 10 * k + (c - 48) in
    let go : (b : Bool) → is_ascii_digit c ≡ b → cond b (digits_behind m cs) None ≡ Some n → (all_ascii_digits (c ∷ cs) ≡ true) × (read k (c ∷ cs) ≡ n) = elim [
      | true ↦ λ t h. let r = digits_read m cs n h in (rw t r.0, r.1)
      | false ↦ λ t h. cc
    ] in
    go (is_ascii_digit c) refl e

digits_are_read : (k : ℕ) (ds : List ℕ) → all_ascii_digits ds ≡ true → digits_behind k ds ≡ Some (read k ds)
digits_are_read k [] a = refl
digits_are_read k (c ∷ cs) a =
    let g = and_parts (is_ascii_digit c) (all_ascii_digits cs) a in
    rw g.0 (digits_are_read (10 * k + (c - 48)) cs g.1)

positive : (n : ℕ) → (n == 0) ≡ false → 0 < n
positive n h = grind (arith, nat_tests)

few : (n most : ℕ) → nat_lt most n ≡ false → n ≤ most
few n most h = grind (arith, nat_tests)

not_empty : (n : ℕ) → 0 < n → (n == 0) ≡ false
not_empty n h = grind (arith, nat_tests)

not_more : (n most : ℕ) → n ≤ most → nat_lt most n ≡ false
not_more n most h = grind (arith, nat_tests)

-- a text that is read is so many digits
pub read_back : (most : ℕ) (ds : List ℕ) (n : ℕ) → number_of_digits most ds ≡ Some n
    → (0 < length ds) × (length ds ≤ most) × (all_ascii_digits ds ≡ true) × (read 0 ds ≡ n)
read_back most ds n e =
    let p = length ds == 0 in
    let q = nat_lt most (length ds) in
    let go : (b : Bool) → (p || q) ≡ b → cond b None (digits_behind 0 ds) ≡ Some n → (0 < length ds) × (length ds ≤ most) × (all_ascii_digits ds ≡ true) × (read 0 ds ≡ n) = elim [
      | true ↦ λ t h. cc
      | false ↦ λ t h.
          let g = or_parts p q t in
          let r = digits_read 0 ds n h in
          (positive (length ds) g.0, few (length ds) most g.1, r.0, r.1)
    ] in
    go (p || q) refl e

-- so many digits are read
pub reads : (most : ℕ) (ds : List ℕ) → 0 < length ds → length ds ≤ most → all_ascii_digits ds ≡ true → number_of_digits most ds ≡ Some (read 0 ds)
reads most ds some short digits =
    rw (not_empty (length ds) some, not_more (length ds) most short) (digits_are_read 0 ds digits)

-- digits write their value
pub has_value : (most : ℕ) (ds : List ℕ) (n : ℕ) → number_of_digits most ds ≡ Some n
    → (0 < length ds) × (length ds ≤ most) × AllDigits 10 ds × (digits_value 10 ds ≡ n)
has_value most ds n e =
    let r = read_back most ds n e in
    let all : AllDigits 10 ds = own.to ds r.2 in
    (r.0, r.1, all, sym (own.same ds all) ∙ r.3)

pub value_is_read : (most : ℕ) (ds : List ℕ) (n : ℕ) → (0 < length ds) × (length ds ≤ most) × AllDigits 10 ds × (digits_value 10 ds ≡ n)
    → number_of_digits most ds ≡ Some n
value_is_read most ds n (some, short, all, is) =
    reads most ds some short (own.from ds all) ∙ ap Some (own.same ds all ∙ is)

-- a number is written in digits
pub decimal_is_digits : (n : ℕ) → n < 2 ^ 64 → all_ascii_digits (decimal n) ≡ true
decimal_is_digits n h = digits_decimal own n h

lone : (n b : ℕ) → 0 < n → b ≡ 48 → (nat_lt 1 n && b == 48) ≡ false → n ≡ 1
lone n b some e h = grind (arith, nat_tests)

not_zero : (n b : ℕ) → 48 < b → (nat_lt 1 n && b == 48) ≡ false
not_zero n b h = grind (arith, nat_tests)

-- a plain number is its digits
pub plain_is_decimal : (ds : List ℕ) (n : ℕ) → plain_number ds ≡ Some n → (ds ≡ decimal n) × (n < 10 ^ 19)
plain_is_decimal ds n e =
    let q = nat_lt 1 (length ds) && slice_index ds 0 == 48 in
    let go : (b : Bool) → q ≡ b → cond b None (number_of_digits 19 ds) ≡ Some n → (ds ≡ decimal n) × (n < 10 ^ 19) = elim [
      | true ↦ λ t h. cc
      | false ↦ λ t h.
          let r = read_back 19 ds n h in
          let plain : get_or ds 0 0 ≡ 48 → length ds ≡ 1 = λ z. lone (length ds) (get_or ds 0 0) r.0 z t in
          let small : read 0 ds < 10 ^ 19 = digits_value_short own ds 19 r.2 r.1 in
          let d = decimal-digits_value own ds r.2 r.0 plain (omega (arith, small)) in
          (sym d ∙ ap decimal r.3, rw (← r.3) small)
    ] in
    go q refl e

plain_first : (n : ℕ) → n < 2 ^ 64 → (nat_lt 1 (length (decimal n)) && slice_index (decimal n) 0 == 48) ≡ false
plain_first n h =
    let go : (n ≡ 0) ⊎ (0 < n) → (nat_lt 1 (length (decimal n)) && slice_index (decimal n) 0 == 48) ≡ false = elim [
      | inl z ↦ ap (λ ds. nat_lt 1 (length ds) && slice_index ds 0 == 48) (ap decimal z ∙ decimal_digit 0 (omega arith))
      | inr p ↦ not_zero (length (decimal n)) (slice_index (decimal n) 0) (first_decimal n p h)
    ] in
    go (grind arith)

-- and its digits are read as it
pub decimal_is_plain : (n : ℕ) → n < 10 ^ 19 → plain_number (decimal n) ≡ Some n
decimal_is_plain n h =
    let small : n < 2 ^ 64 = omega (arith, h) in
    let short : length (decimal n) ≤ 19 = length-decimal-le 19 n (omega arith) h small in
    let v : read 0 (decimal n) ≡ n = digits_value-decimal own n small in
    let d = reads 19 (decimal n) (decimal_nonempty n small) short (digits_decimal own n small) in
    rw (plain_first n small) (d ∙ ap Some v)

pub decimal_reads : (ds : List ℕ) (n : ℕ) → (ds ≡ decimal n) × (n < 10 ^ 19) → plain_number ds ≡ Some n
decimal_reads ds n (is, small) = ap plain_number is ∙ decimal_is_plain n small
