-- A text is read as the request whose token it is.
use Rattle.std.proofs.Common.{arith, ◌≡◌, ◌<◌, ◌≤◌, ℕ, zero, suc, ◌+◌, ◌*◌, ◌-◌, ◌/◌, ◌%◌, Bool, true, false, cond, nat_lt, nat_le, ◌&&◌, if◌then◌else◌, List, [], ◌∷◌, ◌++◌, take, drop, bytes_eq, All, Option, Some, None, refl, sym, ap, ◌∙◌}
use Rattle.std.proofs.lemmas.Bool.{both_ways}
use Rattle.std.proofs.lemmas.Bool.Decides.{nat_tests}
use Rattle.std.proofs.lemmas.List.Elements.{All-nil, All-cons, All-head, All-tail}
use Rattle.std.proofs.lemmas.Nat.{from_be_bytes-to_be_bytes_4, from_be_bytes-to_be_bytes_8}
use Rattle.std.proofs.lemmas.Slice.Eq.{bytes_eq-Decides}
use Rattle.std.specs.Char.{digit_char, is_ascii_digit}
use Rattle.std.specs.Int.{w32, w64, to_be_bytes, from_be_bytes, byte_at, bytes_high_first}
use Rattle.base64.specs.GeneralPurpose.{IsBytes}
use Rattle.crash_base.specs.declared.numbers.RequestNo.{RequestNo}
use Rattle.crash_base.specs.declared.numbers.SessionKey.{SessionKey}
use Rattle.session_cookie.specs.Hmac.{hmac}
use Rattle.session_cookie.specs.Reading.{hex_value}
use Rattle.session_cookie.specs.Token.{hex_text, request_bytes, token_bytes, token_message, token_of, IsReadAs, IsRequest}
use Rattle.text_readings.specs.TokenTexts.{bytes_of_digits, request_in, request_of_text}
use Rattle.text_readings.proofs.Numbers.{behind_bytes, below_4, below_8}

-- what digits are read as are bytes
digit_small : (digit : ℕ) → hex_value digit < 16
digit_small digit = by_digit (is_ascii_digit digit) refl
  where
    by_letter : (b : Bool) → (nat_le 97 digit && nat_le digit 102) ≡ b → cond b (digit - 97 + 10) 0 < 16
    by_letter true e = let last : digit ≤ 102 = grind (arith, nat_tests) in omega arith
    by_letter false e = omega arith

    by_digit : (b : Bool) → is_ascii_digit digit ≡ b → cond b (digit - 48) (cond (nat_le 97 digit && nat_le digit 102) (digit - 97 + 10) 0) < 16
    by_digit true e = let last : digit ≤ 57 = grind (arith, nat_tests) in omega arith
    by_digit false e = by_letter (nat_le 97 digit && nat_le digit 102) refl

byte_first : (b : ℕ) (bs : List ℕ) → b < 256 → IsBytes bs → IsBytes (b ∷ bs)
byte_first b bs first later zero = first
byte_first b bs first later (suc i) = later i

digits_are_bytes : (text : List ℕ) → IsBytes (bytes_of_digits text)
digits_are_bytes [] = λ i. omega arith
digits_are_bytes (high ∷ []) = λ i. omega arith
digits_are_bytes (high ∷ low ∷ rest) =
    byte_first (16 * hex_value high + hex_value low) (bytes_of_digits rest)
    (omega (arith, digit_small high, digit_small low)) (digits_are_bytes rest)

in_range : (text : List ℕ) → IsRequest (request_in text)
unfolding request_in
in_range text =
    let small = digits_are_bytes text in
    (below_4 (bytes_of_digits text) small, below_8 (drop 4 (bytes_of_digits text)) (behind_bytes 4 (bytes_of_digits text) small))

-- digits that were written are read again
digit_value : (n : ℕ) → n < 16 → hex_value (digit_char n) ≡ n
digit_value n h = go (nat_lt n 10) refl
  where
    go : (b : Bool) → nat_lt n 10 ≡ b → hex_value (cond b (48 + n) (87 + n)) ≡ n
    go true e =
        let d : is_ascii_digit (48 + n) ≡ true = grind (arith, nat_tests) in
        let v : 48 + n - 48 ≡ n = omega arith in
        rw (d, v) refl
    go false e =
        let d : is_ascii_digit (87 + n) ≡ false = grind (arith, nat_tests) in
        let l : (nat_le 97 (87 + n) && nat_le (87 + n) 102) ≡ true = grind (arith, nat_tests) in
        let ten : 10 ≤ n = grind (arith, nat_tests) in
        let v : 87 + n - 97 + 10 ≡ n = omega arith in
        rw (d, l, v) refl

byte_value : (byte : ℕ) → byte < 256 → 16 * hex_value (digit_char (byte / 16)) + hex_value (digit_char (byte % 16)) ≡ byte
byte_value byte h =
    let high : byte / 16 < 16 = omega arith in
    let low : byte % 16 < 16 = omega arith in
    let v : 16 * (byte / 16) + byte % 16 ≡ byte = omega arith in
    rw (digit_value (byte / 16) high, digit_value (byte % 16) low) v

digits_read : (bytes more : List ℕ) → All (λ b. b < 256) bytes → bytes_of_digits (hex_text (bytes ++ more)) ≡ bytes ++ bytes_of_digits (hex_text more)
unfolding hex_text
digits_read [] more small = refl
digits_read (b ∷ bs) more small =
    let here = byte_value b (All-head (λ b. b < 256) b bs small) in
    let later = digits_read bs more (All-tail (λ b. b < 256) b bs small) in
    ap (λ n. n ∷ bytes_of_digits (hex_text (bs ++ more))) here ∙ ap (λ l. b ∷ l) later

-- the bytes of a number are bytes
high_first_small : (count n : ℕ) → All (λ b. b < 256) (bytes_high_first count n)
high_first_small zero n = All-nil (λ b. b < 256)
high_first_small (suc zero) n = All-cons (λ b. b < 256) (byte_at 0 n) (bytes_high_first 0 n) (omega arith) (high_first_small zero n)
high_first_small (suc (suc count)) n =
    All-cons (λ b. b < 256) (byte_at (suc count) n) (bytes_high_first (suc count) n) (omega arith) (high_first_small (suc count) n)

-- so is the request whose token a text is
token_read : (key : List ℕ) (session : SessionKey) (r : RequestNo) → IsRequest r → request_in (token_of key session r) ≡ r
unfolding request_in token_bytes request_bytes
token_read key session r (boot, serial) =
    let first = to_be_bytes w32 r.boot in
    let second = to_be_bytes w64 r.serial in
    let tag = take 16 (hmac key (token_message session r)) in
    let rest = bytes_of_digits (hex_text tag) in
    let bytes : bytes_of_digits (token_of key session r) ≡ first ++ (second ++ rest) =
    digits_read first (second ++ tag) (high_first_small 4 r.boot) ∙ ap (λ l. first ++ l) (digits_read second tag (high_first_small 8 r.serial)) in
    let b = ap (from_be_bytes w32) bytes ∙ from_be_bytes-to_be_bytes_4 r.boot boot in
    let s = ap (λ l. from_be_bytes w64 (drop 4 l)) bytes ∙ from_be_bytes-to_be_bytes_8 r.serial serial in
    λ i. record { boot = b i; serial = s i }

-- what is read of a text
by_test : (key : List ℕ) (session : SessionKey) (text : List ℕ) (same : Bool) → bytes_eq text (token_of key session (request_in text)) ≡ same
    → IsReadAs key session text (if same then Some (request_in text) else None)
by_test key session text true e = (in_range text, (bytes_eq-Decides text (token_of key session (request_in text))).0 e)
by_test key session text false e = λ r is token.
    let read : request_in text ≡ r = ap request_in token ∙ token_read key session r is in
    let again : text ≡ token_of key session (request_in text) = token ∙ ap (token_of key session) (sym read) in
    both_ways (bytes_eq text (token_of key session (request_in text))) e ((bytes_eq-Decides text (token_of key session (request_in text))).1 again)

pub read : (key : List ℕ) (session : SessionKey) (text : List ℕ) → IsReadAs key session text (request_of_text key session text)
unfolding request_of_text
read key session text = by_test key session text (bytes_eq text (token_of key session (request_in text))) refl

-- a text is read as one request, or as none
one_read : (key : List ℕ) (session : SessionKey) (text : List ℕ) (a b : Option RequestNo) → IsReadAs key session text a → IsReadAs key session text b → a ≡ b
one_read key session text None None x y = refl
one_read key session text None (Some r) none (is, token) = absurd (none r is token)
one_read key session text (Some r) None (is, token) none = absurd (none r is token)
one_read key session text (Some q) (Some r) (is, token) (also, too) =
    ap (λ x. Some x) (sym (token_read key session q is) ∙ ap request_in (sym token ∙ too) ∙ token_read key session r also)

pub only_read : (key : List ℕ) (session : SessionKey) (text : List ℕ) (a : Option RequestNo) → IsReadAs key session text a → a ≡ request_of_text key session text
only_read key session text a is = one_read key session text a (request_of_text key session text) is (read key session text)
