-- Numbers, lettered numbers and names: what one word says, and what spells it.
use Rattle.std.proofs.Common.{◌≡◌, ℕ, ◌+◌, ◌*◌, ◌-◌, ◌^◌, ◌<◌, ◌≤◌, ◌==◌, ◌&&◌, ◌||◌, ◌⊎◌, inl, inr, Bool, true, false, cond, nat_lt, nat_le, List, [], ◌∷◌, length, get_or, slice_index, Option, Some, None, refl, ap, sym, ◌∙◌, arith, rules}
use Rattle.std.specs.Bool.{Decides}
use Rattle.std.specs.Fmt.{decimal}
use Rattle.std.specs.List.{list_all, All}
use Rattle.std.specs.Char.{is_ascii_digit}
use Rattle.std.specs.Str.{all_ascii_digits}
use Rattle.std.proofs.lemmas.Str.Parse.{IsNumeralModel, numerals_by_fold, tells_all_ascii_digits}
use Rattle.std.proofs.lemmas.Fmt.{decimal-digits_value, digits_decimal, digits_value-decimal, decimal_nonempty, first_decimal, decimal_digit}
use Rattle.std.proofs.lemmas.Bool.{and_parts, or_parts}
use Rattle.std.proofs.lemmas.Option.{cond_some}
use Rattle.std.proofs.lemmas.Bool.Decides.{nat_tests, Decides-by_and}
use borrow.Author.Tests.{tests}
use Rattle.crash_base.proofs.Options.{then_some}
use Rattle.crash_base.specs.declared.names.TheConstants.{MAX_NAME_BYTES}
use Rattle.crash_base.specs.Names.{is_name, is_name_byte}
use Rattle.scenario_text.specs.Fields.{name_of, digits_from, decimal_number, brick_number, lettered_number}
use Rattle.scenario_text.specs.FieldSpelling.{IsWithin, IsNumber, IsBrick, IsName, IsNameByte}

-- the number that digits go on to
abbrev read : ℕ → List ℕ → ℕ
read n [] = n
read n (c ∷ cs) = read (10 * n + (c - 48)) cs

-- digits, and the number that they are
own : IsNumeralModel (λ ds. all_ascii_digits ds ≡ true) (read 0)
own = numerals_by_fold _ tells_all_ascii_digits read (search rules)

-- a word that is read is digits of that number
digits_read : (k : ℕ) (ds : List ℕ) (n : ℕ) → k < 2 ^ 64 → digits_from k ds ≡ Some n → (all_ascii_digits ds ≡ true) × (read k ds ≡ n) × (n < 2 ^ 64)
digits_read k [] n h e = let f : k ≡ n = cc in (refl, f, omega arith)
digits_read k (c ∷ cs) n h e =
    let m = 10 * k + (c - 48) in
    let go : (b : Bool) → (is_ascii_digit c && nat_lt m (2 ^ 64)) ≡ b → cond b (digits_from m cs) None ≡ Some n → (all_ascii_digits (c ∷ cs) ≡ true) × (read k (c ∷ cs) ≡ n) × (n < 2 ^ 64) = elim [
      | true ↦ λ t k.
          let g = and_parts (is_ascii_digit c) (nat_lt m (2 ^ 64)) t in
          let small : m < 2 ^ 64 = search (rules, tests) in
          let r = digits_read m cs n small k in
          (rw g.0 r.0, r.1, r.2)
      | false ↦ λ t k. cc
    ] in
    go (is_ascii_digit c && nat_lt m (2 ^ 64)) refl e

positive : (n : ℕ) → (n == 0) ≡ false → 0 < n
positive n h = grind (arith, nat_tests)

lone : (n b : ℕ) → 0 < n → b ≡ 48 → (nat_lt 1 n && b == 48) ≡ false → n ≡ 1
lone n b some e h = grind (arith, nat_tests)

-- a word that says a number is its digits
pub number_spelled : (ds : List ℕ) (n : ℕ) → decimal_number ds ≡ Some n → (ds ≡ decimal n) × IsNumber n
number_spelled ds n e =
    let p = length ds == 0 in
    let q = nat_lt 1 (length ds) && slice_index ds 0 == 48 in
    let go : (b : Bool) → (p || q) ≡ b → cond b None (digits_from 0 ds) ≡ Some n → (ds ≡ decimal n) × IsNumber n = elim [
      | true ↦ λ t k. cc
      | false ↦ λ t k.
          let g = or_parts p q t in
          let r = digits_read 0 ds n (omega arith) k in
          let some : 0 < length ds = positive (length ds) g.0 in
          let plain : get_or ds 0 0 ≡ 48 → length ds ≡ 1 = λ h. lone (length ds) (get_or ds 0 0) some h g.1 in
          let d = decimal-digits_value own ds r.0 some plain (rw r.1 r.2) in
          (sym d ∙ ap decimal r.1, r.2)
    ] in
    go (p || q) refl e

read_grows : (k : ℕ) (ds : List ℕ) → k ≤ read k ds
read_grows k [] = omega arith
read_grows k (c ∷ cs) = let h = read_grows (10 * k + (c - 48)) cs in omega arith

digits_are_read : (k : ℕ) (ds : List ℕ) → all_ascii_digits ds ≡ true → read k ds < 2 ^ 64 → digits_from k ds ≡ Some (read k ds)
digits_are_read k [] a h = refl
digits_are_read k (c ∷ cs) a h =
    let m = 10 * k + (c - 48) in
    let g = and_parts (is_ascii_digit c) (all_ascii_digits cs) a in
    let grows : m ≤ read m cs = read_grows m cs in
    let small : nat_lt m (2 ^ 64) ≡ true = grind (arith, nat_tests) in
    rw (g.0, small) (digits_are_read m cs g.1 h)

not_zero : (n b : ℕ) → 48 < b → (nat_lt 1 n && b == 48) ≡ false
not_zero n b h = grind (arith, nat_tests)

not_empty : (n : ℕ) → 0 < n → (n == 0) ≡ false
not_empty n h = grind (arith, nat_tests)

number_plain : (n : ℕ) → n < 2 ^ 64 → (length (decimal n) == 0 || (nat_lt 1 (length (decimal n)) && slice_index (decimal n) 0 == 48)) ≡ false
number_plain n h =
    let a : (length (decimal n) == 0) ≡ false = not_empty (length (decimal n)) (decimal_nonempty n h) in
    let go : (n ≡ 0) ⊎ (0 < n) → (nat_lt 1 (length (decimal n)) && slice_index (decimal n) 0 == 48) ≡ false = elim [
      | inl z ↦ ap (λ ds. nat_lt 1 (length ds) && slice_index ds 0 == 48) (ap decimal z ∙ decimal_digit 0 (omega arith))
      | inr p ↦ not_zero (length (decimal n)) (slice_index (decimal n) 0) (first_decimal n p h)
    ] in
    rw a (go (grind arith))

-- the digits of a number say it
pub number_read : (n : ℕ) → IsNumber n → decimal_number (decimal n) ≡ Some n
number_read n h =
    let v : read 0 (decimal n) ≡ n = digits_value-decimal own n h in
    let d : digits_from 0 (decimal n) ≡ Some (read 0 (decimal n)) = digits_are_read 0 (decimal n) (digits_decimal own n h) (rw v h) in
    rw (number_plain n h) (d ∙ ap Some v)

-- they are digits only
pub decimal_digits : (n : ℕ) → IsNumber n → all_ascii_digits (decimal n) ≡ true
decimal_digits n h = digits_decimal own n h

-- a word that says a brick is its digits
pub brick_spelled : (word : List ℕ) (n : ℕ) → brick_number word ≡ Some n → (word ≡ decimal n) × IsBrick n
brick_spelled word n h =
    let f : ℕ → Option ℕ = λ m. cond (nat_le 1 m) (Some m) None in
    let (m, e, k) = then_some f (decimal_number word) n h in
    let g = cond_some (nat_le 1 m) m n k in
    let d = number_spelled word m e in
    let same : m ≡ n = g.1 in
    let low : 1 ≤ n = grind (arith, nat_tests) in
    (d.0 ∙ ap decimal same, (low, rw (← same) d.1))

-- and its digits say it
pub brick_read : (n : ℕ) → IsBrick n → brick_number (decimal n) ≡ Some n
brick_read n (low, small) =
    let some : nat_le 1 n ≡ true = grind (arith, nat_tests) in
    rw (number_read n small, some) refl

-- a word that says a lettered number is the letter and that number
pub lettered_spelled : (letter highest : ℕ) (word : List ℕ) (c : ℕ) → lettered_number letter highest word ≡ Some c → (word ≡ letter ∷ decimal c) × IsWithin 1 highest c
lettered_spelled letter highest [] c h = cc
lettered_spelled letter highest (x ∷ ds) c h =
    let f : ℕ → Option ℕ = λ n. cond (x == letter && (nat_le 1 n && nat_le n highest)) (Some n) None in
    let (n, e, k) = then_some f (decimal_number ds) c h in
    let g = cond_some (x == letter && (nat_le 1 n && nat_le n highest)) n c k in
    let d = number_spelled ds n e in
    let same : n ≡ c = g.1 in
    let t = and_parts (x == letter) (nat_le 1 n && nat_le n highest) g.0 in
    let first : x ≡ letter = grind (arith, nat_tests) in
    let low : 1 ≤ c = grind (arith, nat_tests) in
    let high : c ≤ highest = grind (arith, nat_tests) in
    (ap (λ y. y ∷ ds) first ∙ ap (λ ys. letter ∷ ys) (d.0 ∙ ap decimal same), (low, high))

in_range : (letter highest c : ℕ) → IsWithin 1 highest c → (letter == letter && (nat_le 1 c && nat_le c highest)) ≡ true
in_range letter highest c (low, high) = grind (arith, nat_tests)

-- that word says it
pub lettered_read : (letter highest : ℕ) → highest < 2 ^ 64 → (c : ℕ) → IsWithin 1 highest c → lettered_number letter highest (letter ∷ decimal c) ≡ Some c
lettered_read letter highest bound c (low, high) =
    let small : c < 2 ^ 64 = omega arith in
    rw (number_read c small, in_range letter highest c (low, high)) refl

-- the test of a byte of a name decides what the grammar says of it, and so for names
name_byte_decides : (b : ℕ) → Decides (is_name_byte b) (IsNameByte b)
name_byte_decides b = (λ h. grind (arith, nat_tests), λ h. grind (arith, nat_tests))

name_bytes_decide : (word : List ℕ) → Decides (list_all is_name_byte word) (All IsNameByte word)
name_bytes_decide word = Decides-by_and is_name_byte IsNameByte (list_all is_name_byte) name_byte_decides refl (λ _ _. refl) word

-- a word that passes the test is a name
is_name_spelled : (word : List ℕ) → is_name word ≡ true → IsName word
is_name_spelled word h =
    let g = and_parts (nat_le 1 (length word) && nat_le (length word) MAX_NAME_BYTES) (list_all is_name_byte word) h in
    let low : 1 ≤ length word = grind (arith, nat_tests) in
    let high : length word ≤ MAX_NAME_BYTES = grind (arith, nat_tests) in
    ((low, high), (name_bytes_decide word).0 g.1)

-- and a name passes it
pub is_name_read : (word : List ℕ) → IsName word → is_name word ≡ true
is_name_read word ((low, high), bytes) =
    let few : (nat_le 1 (length word) && nat_le (length word) MAX_NAME_BYTES) ≡ true = grind (arith, nat_tests) in
    rw (few, (name_bytes_decide word).1 bytes) refl

-- a word that says a name is that name
pub name_spelled : (word name : List ℕ) → name_of word ≡ Some name → (word ≡ name) × IsName name
name_spelled word name h =
    let g = cond_some (is_name word) word name h in
    (g.1, rw (← g.1) (is_name_spelled word g.0))

-- and a name says itself
pub name_read : (name : List ℕ) → IsName name → name_of name ≡ Some name
name_read name h = rw (is_name_read name h) refl
