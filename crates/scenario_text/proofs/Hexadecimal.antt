-- Bytes in hexadecimal: what a word says, and what spells it.
use Rattle.std.proofs.Common.{◌≡◌, ℕ, suc, ◌+◌, ◌*◌, ◌-◌, ◌/◌, ◌%◌, ◌<◌, ◌≤◌, ◌==◌, ◌&&◌, Bool, true, false, cond, nat_lt, nat_le, List, [], ◌∷◌, ◌++◌, length, Option, Some, None, option_and_then, codes, refl, ap, sym, ◌∙◌, arith}
use Rattle.std.specs.Char.{digit_char, is_ascii_digit}
use Rattle.std.specs.Option.{option_map}
use Rattle.std.specs.Str.{bytes_eq}
use Rattle.std.proofs.lemmas.Bool.{and_parts}
use Rattle.std.proofs.lemmas.Option.{cond_some}
use Rattle.std.specs.List.{All, flat_map}
use Rattle.std.proofs.lemmas.Bool.Decides.{nat_tests}
use Rattle.std.proofs.lemmas.List.Elements.{All-nil, All-cons, All-head, All-tail}
use Rattle.std.proofs.lemmas.Slice.Eq.{bytes_eq-Decides}
use Rattle.scenario_text.specs.Fields.{hex_digit, hex_byte, bytes_of_digits, hex_bytes}
use Rattle.scenario_text.specs.declared.line.TheConstants.{MAX_HEX_BYTES}
use Rattle.scenario_text.specs.Texts.{byte_text, hex_text}
use Rattle.scenario_text.specs.FieldSpelling.{AreBytes}
use Rattle.crash_base.proofs.Options.{then_some, map_some}
use Rattle.scenario_text.proofs.Splits.{is_whole, whole_more}

-- a digit, a byte, bytes: what the text of each is read as, and what is read, as its text
digit_read : (n : ℕ) → n < 16 → hex_digit (digit_char n) ≡ Some n
digit_read n h =
    let go : (b : Bool) → nat_lt n 10 ≡ b → hex_digit (cond b (48 + n) (87 + n)) ≡ Some n = elim [
      | true ↦ λ e.
          let d : is_ascii_digit (48 + n) ≡ true = grind (arith, nat_tests) in
          let v : 48 + n - 48 ≡ n = omega arith in
          rw (d, v) refl
      | false ↦ λ e.
          let d : is_ascii_digit (87 + n) ≡ false = grind (arith, nat_tests) in
          let l : (nat_le 97 (87 + n) && nat_le (87 + n) 102) ≡ true = grind (arith, nat_tests) in
          let ten : 10 ≤ n = grind (arith, nat_tests) in
          let v : 87 + n - 97 + 10 ≡ n = omega arith in
          rw (d, l, v) refl
    ] in
    go (nat_lt n 10) refl

digit_spelled : (b n : ℕ) → hex_digit b ≡ Some n → (n < 16) × (digit_char n ≡ b)
digit_spelled b n h =
    let go : (d : Bool) → is_ascii_digit b ≡ d → cond d (Some (b - 48)) (cond (nat_le 97 b && nat_le b 102) (Some (b - 97 + 10)) None) ≡ Some n → (n < 16) × (digit_char n ≡ b) = elim [
      | true ↦ λ e k.
          let v : b - 48 ≡ n = cc in
          let s : nat_lt n 10 ≡ true = grind (arith, nat_tests) in
          let low : 48 ≤ b = grind (arith, nat_tests) in
          let small : n < 16 = grind (arith, nat_tests) in
          let back : 48 + n ≡ b = omega arith in
          (small, rw s back)
      | false ↦ λ e k.
          let g = cond_some (nat_le 97 b && nat_le b 102) (b - 97 + 10) n k in
          let r = and_parts (nat_le 97 b) (nat_le b 102) g.0 in
          let low : 97 ≤ b = grind (arith, nat_tests) in
          let high : b ≤ 102 = grind (arith, nat_tests) in
          let v : b - 97 + 10 ≡ n = g.1 in
          let s : nat_lt n 10 ≡ false = grind (arith, nat_tests) in
          let back : 87 + n ≡ b = omega arith in
          (omega arith, rw s back)
    ] in
    go (is_ascii_digit b) refl h

byte_read : (byte : ℕ) → byte < 256 → hex_byte (digit_char (byte / 16)) (digit_char (byte % 16)) ≡ Some byte
byte_read byte h =
    let high : byte / 16 < 16 = omega arith in
    let low : byte % 16 < 16 = omega arith in
    let v : 16 * (byte / 16) + byte % 16 ≡ byte = omega arith in
    rw (digit_read (byte / 16) high, digit_read (byte % 16) low) (ap Some v)

byte_spelled : (a b byte : ℕ) → hex_byte a b ≡ Some byte → (byte < 256) × (byte_text byte ≡ a ∷ b ∷ [])
byte_spelled a b byte h =
    let (x, e, k) = then_some (λ high. option_and_then (λ low. Some (16 * high + low)) (hex_digit b)) (hex_digit a) byte h in
    let (y, f, l) = then_some (λ low. Some (16 * x + low)) (hex_digit b) byte k in
    let v : 16 * x + y ≡ byte = cc in
    let p = digit_spelled a x e in
    let q = digit_spelled b y f in
    let high : byte / 16 ≡ x = omega arith in
    let low : byte % 16 ≡ y = omega arith in
    (omega arith, rw (high, low, p.1, q.1) refl)

bytes_read : (bytes : List ℕ) → All (λ b. b < 256) bytes → bytes_of_digits (flat_map byte_text bytes) ≡ Some bytes
bytes_read [] h = refl
bytes_read (b ∷ bs) h = rw (byte_read b (All-head (λ b. b < 256) b bs h), bytes_read bs (All-tail (λ b. b < 256) b bs h)) refl

bytes_spelled : (word bytes : List ℕ) → bytes_of_digits word ≡ Some bytes → (word ≡ flat_map byte_text bytes) × All (λ b. b < 256) bytes × (length word ≡ 2 * length bytes)
bytes_spelled [] bytes h =
    let e : [] ≡ bytes = cc in
    let P : List ℕ → Type 0 = λ bs. ([] ≡ flat_map byte_text bs) × All (λ b. b < 256) bs × (0 ≡ 2 * length bs) in
    rw (← e) (refl, All-nil (λ b. b < 256), refl)
bytes_spelled (a ∷ []) bytes h = cc
bytes_spelled (a ∷ b ∷ word) bytes h =
    let (byte, e, k) = then_some (λ byte. option_map (λ rest. byte ∷ rest) (bytes_of_digits word)) (hex_byte a b) bytes h in
    let (more, f, l) = map_some (λ rest. byte ∷ rest) (bytes_of_digits word) bytes k in
    let p = byte_spelled a b byte e in
    let r = bytes_spelled word more f in
    let here : a ∷ b ∷ word ≡ flat_map byte_text (byte ∷ more) = ap (λ w. a ∷ b ∷ w) r.0 ∙ sym (ap (λ w. w ++ flat_map byte_text more) p.1) in
    let size : suc (suc (length word)) ≡ 2 * suc (length more) = omega arith in
    rw (← l) (here, All-cons (λ b. b < 256) byte more p.0 r.1, size)

length_digits : (bytes : List ℕ) → length (flat_map byte_text bytes) ≡ 2 * length bytes
length_digits [] = refl
length_digits (b ∷ bs) = let h : length (flat_map byte_text bs) ≡ 2 * length bs = length_digits bs in omega arith

some_text : (bytes : List ℕ) → 0 < length bytes → flat_map byte_text bytes ≡ hex_text bytes
some_text [] h = absurd (omega arith)
some_text (b ∷ bs) h = refl

taken : {B : Type 0} (b : Bool) (o : Option B) (y : B) → cond b o None ≡ Some y → (b ≡ true) × (o ≡ Some y)
taken true o y h = (refl, h)
taken false o y h = cc

-- a word that says bytes is their digits
pub hex_spelled : (word bytes : List ℕ) → hex_bytes word ≡ Some bytes → (word ≡ hex_text bytes) × AreBytes bytes
hex_spelled word bytes h =
    let small = nat_le 1 (length word) && nat_le (length word) (2 * MAX_HEX_BYTES) in
    let go : (d : Bool) → bytes_eq word (codes "-") ≡ d → cond d (Some []) (cond small (bytes_of_digits word) None) ≡ Some bytes → (word ≡ hex_text bytes) × AreBytes bytes = elim [
      | true ↦ λ e k.
          let none : [] ≡ bytes = cc in
          let w : word ≡ codes "-" = (bytes_eq-Decides word (codes "-")).0 e in
          rw (← none) (w, (omega arith, All-nil (λ b. b < 256)))
      | false ↦ λ e k.
          let g = taken small (bytes_of_digits word) bytes k in
          let r = bytes_spelled word bytes g.1 in
          let t = and_parts (nat_le 1 (length word)) (nat_le (length word) (2 * MAX_HEX_BYTES)) g.0 in
          let some : 1 ≤ length word = grind (arith, nat_tests) in
          let few : length word ≤ 2 * MAX_HEX_BYTES = grind (arith, nat_tests) in
          let size : length word ≡ 2 * length bytes = r.2 in
          (r.0 ∙ some_text bytes (omega arith), (omega arith, r.1))
    ] in
    go (bytes_eq word (codes "-")) refl h

not_dash : (x y : ℕ) (word : List ℕ) → bytes_eq (x ∷ y ∷ word) (codes "-") ≡ false
not_dash x y word = elim (x == 45) as (λ d. (d && false) ≡ false) [ true ↦ refl | false ↦ refl ]

-- the digits of bytes say them
pub hex_read : (bytes : List ℕ) → AreBytes bytes → hex_bytes (hex_text bytes) ≡ Some bytes
hex_read [] h = refl
hex_read (b ∷ bs) (few, each) =
    let size : length (flat_map byte_text (b ∷ bs)) ≡ 2 * suc (length bs) = length_digits (b ∷ bs) in
    let small : (nat_le 1 (length (flat_map byte_text (b ∷ bs))) && nat_le (length (flat_map byte_text (b ∷ bs))) (2 * MAX_HEX_BYTES)) ≡ true = grind (arith, nat_tests) in
    rw (not_dash (digit_char (b / 16)) (digit_char (b % 16)) (flat_map byte_text bs), small) (bytes_read (b ∷ bs) each)

digit_whole : (n : ℕ) → (digit_char n == 32) ≡ false
digit_whole n = grind (arith, nat_tests)

bytes_whole : (bytes : List ℕ) → is_whole (flat_map byte_text bytes) ≡ true
bytes_whole [] = refl
bytes_whole (b ∷ bs) = whole_more (digit_char (b / 16)) (digit_char (b % 16) ∷ flat_map byte_text bs) (digit_whole (b / 16)) (whole_more (digit_char (b % 16)) (flat_map byte_text bs) (digit_whole (b % 16)) (bytes_whole bs))

-- they have no space
pub hex_whole : (bytes : List ℕ) → is_whole (hex_text bytes) ≡ true
hex_whole [] = refl
hex_whole (b ∷ bs) = bytes_whole (b ∷ bs)
