-- The bytes of fields are numbers that bytes may be.
use Rattle.std.proofs.Common.{◌≡◌, ℕ, zero, suc, ◌+◌, ◌/◌, ◌^◌, ◌<◌, Bool, true, false, cond, nat_lt, List, [], ◌∷◌, ◌++◌, length, arith, subst, refl, inl, inr}
use Rattle.std.specs.Int.{byte_at, bytes_high_first}
use Rattle.std.specs.Str.{is_utf8}
use Rattle.std.proofs.lemmas.Bool.{and_parts}
use Rattle.std.proofs.lemmas.Bool.Decides.{nat_tests}
use Rattle.std.proofs.lemmas.List.Elements.{All-nil, All-cons, All-head, All-tail, All-append, All-from_recursion}
use Rattle.std.proofs.lemmas.Nat.{mod_below}
use Rattle.std.proofs.lemmas.Str.{IsUtf8-from_is_utf8}
use lib.Utf8.{scalar, scalars, scalar_cases, next, encode, encodes}
use Rattle.byte_fields.specs.Spelling.{AreBytes, flag, u8_bytes, u16_bytes, u32_bytes, u64_bytes, text16}

-- a number that a byte may be
abbrev IsByte : ℕ → Type 0
IsByte byte = byte < 2 ^ 8

-- bytes behind bytes, and each part of them
pub append_are : (a b : List ℕ) → AreBytes a → AreBytes b → AreBytes (a ++ b)
append_are a b first last = All-append IsByte a b first last

pub parts_are : (a b : List ℕ) → AreBytes (a ++ b) → AreBytes a × AreBytes b
parts_are [] b are = (All-nil IsByte, are)
parts_are (byte ∷ a) b are =
    let parts = parts_are a b (All-tail IsByte byte (a ++ b) are) in
    (All-cons IsByte byte a (All-head IsByte byte (a ++ b) are) parts.0, parts.1)

-- a byte of a number
byte_is : (place n : ℕ) → IsByte (byte_at place n)
byte_is zero n = mod_below n 256 (omega arith)
byte_is (suc place) n = mod_below (n / 256 ^ suc place) 256 (omega arith)

-- the lowest bytes of a number
number_are : (size n : ℕ) → AreBytes (bytes_high_first size n)
number_are zero n = All-nil IsByte
number_are (suc size) n = All-cons IsByte (byte_at size n) (bytes_high_first size n) (byte_is size n) (number_are size n)

pub u8_are : (n : ℕ) → n < 2 ^ 8 → AreBytes (u8_bytes n)
unfolding u8_bytes
u8_are n few = All-cons IsByte n [] few (All-nil IsByte)

pub flag_are : (is_so : Bool) → AreBytes (u8_bytes (flag is_so))
flag_are true = u8_are 1 (omega arith)
flag_are false = u8_are 0 (omega arith)

pub u32_are : (n : ℕ) → AreBytes (u32_bytes n)
unfolding u32_bytes
u32_are n = number_are 4 n

pub u64_are : (n : ℕ) → AreBytes (u64_bytes n)
unfolding u64_bytes
u64_are n = number_are 8 n

-- the bytes of a character, by how many they are
char_are : (c : ℕ) → c < 1114112 → AreBytes (encode c)
unfolding encode
char_are c few = by_size (nat_lt c 128) (nat_lt c 2048) (nat_lt c 65536) refl refl refl
  where
    by_size : (one two three : Bool) → nat_lt c 128 ≡ one → nat_lt c 2048 ≡ two → nat_lt c 65536 ≡ three
        → AreBytes (cond one (c ∷ []) (cond two ((192 + c / 64) ∷ next c ∷ []) (cond three ((224 + c / 4096) ∷ next (c / 64) ∷ next c ∷ []) ((240 + c / 262144) ∷ next (c / 4096) ∷ next (c / 64) ∷ next c ∷ []))))
    by_size true two three a b d =
        let low : c < 128 = grind (arith, nat_tests) in
        All-from_recursion IsByte (c ∷ []) (omega (arith, low), tt)
    by_size false true three a b d =
        let low : c < 2048 = grind (arith, nat_tests) in
        All-from_recursion IsByte ((192 + c / 64) ∷ next c ∷ []) (omega (arith, low), (omega arith, tt))
    by_size false false true a b d =
        let low : c < 65536 = grind (arith, nat_tests) in
        All-from_recursion IsByte ((224 + c / 4096) ∷ next (c / 64) ∷ next c ∷ []) (omega (arith, low), (omega arith, (omega arith, tt)))
    by_size false false false a b d =
        All-from_recursion IsByte ((240 + c / 262144) ∷ next (c / 4096) ∷ next (c / 64) ∷ next c ∷ [])
        (omega (arith, few), (omega arith, (omega arith, (omega arith, tt))))

-- the bytes of characters
chars_are : (cs : List ℕ) → scalars cs ≡ true → AreBytes (encodes cs)
chars_are [] ok = All-nil IsByte
chars_are (c ∷ cs) ok =
    let both = and_parts (scalar c) (scalars cs) ok in
    let few : c < 1114112 = elim (scalar_cases c both.0) [ inl low ↦ omega (arith, low) | inr high ↦ high.1 ] in
    append_are (encode c) (encodes cs) (char_are c few) (chars_are cs both.1)

-- the bytes of a text
pub utf8_are : (text : List ℕ) → is_utf8 text ≡ true → AreBytes text
utf8_are text is =
    let chars = IsUtf8-from_is_utf8 text is in
    subst AreBytes chars.1.1 (chars_are chars.0 chars.1.0)

pub text16_are : (text : List ℕ) → is_utf8 text ≡ true → AreBytes (text16 text)
unfolding text16 u16_bytes
text16_are text is = append_are (bytes_high_first 2 (length text)) text (number_are 2 (length text)) (utf8_are text is)
