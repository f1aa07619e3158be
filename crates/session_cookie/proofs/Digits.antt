-- Bytes as digits, and digits as bytes.
use Rattle.std.proofs.Common.{arith, set, ◌≡◌, ◌<◌, ◌≤◌, ℕ, suc, zero, ◌+◌, ◌*◌, ◌-◌, ◌/◌, ◌%◌, Bool, true, false, cond, nat_lt, nat_le, ◌&&◌, List, [], ◌∷◌, ◌++◌, length, take, get_or, get_or-set_other, get_or-set_same, below_more, ◌≢◌, refl, sym, ap, ◌∙◌}
use Rattle.std.proofs.lemmas.Bool.Decides.{nat_tests}
use Rattle.std.proofs.lemmas.List.{append_assoc, take_more_set, length-set, length-take-le, length-append, get_or_append_left, ext_get_or}
use Rattle.std.specs.Char.{digit_char, is_ascii_digit}
use Rattle.std.specs.Int.{to_be_bytes, w32, w64}
use Rattle.sha2.proofs.Facts256.{length-sha256}
use Rattle.crash_base.specs.declared.numbers.RequestNo.{RequestNo}
use Rattle.crash_base.specs.declared.numbers.SessionKey.{SessionKey}
use Rattle.session_cookie.specs.Hmac.{hmac}
use Rattle.session_cookie.specs.Reading.{byte_at, hex_value}
use Rattle.session_cookie.specs.Token.{byte_text, hex_text, request_bytes, token_bytes, token_message, token_of, IsRequest}
use Rattle.session_cookie.proofs.Pieces.{flat_more}
use Rattle.session_cookie.specs.Reading.{IsTaken}
use Rattle.session_cookie.proofs.Taking.{taken_more}
use Rattle.session_cookie.proofs.Unique.{split_same, four_same, eight_same}

-- the digits of one byte more
pub digits_more : (text bytes : List ℕ) (i x y : ℕ) → 2 * i + 1 < length text → i < length bytes
    → take (2 * i) text ≡ hex_text (take i bytes) → x ≡ digit_char (get_or bytes i 0 / 16) → y ≡ digit_char (get_or bytes i 0 % 16)
    → take (2 * (i + 1)) (set (set text (2 * i) x) (2 * i + 1) y) ≡ hex_text (take (i + 1) bytes)
unfolding hex_text
digits_more text bytes i x y room within so_far high low =
    let two : 2 * (i + 1) ≡ 2 * i + 1 + 1 = omega arith in
    let one = set text (2 * i) x in
    let first = take_more_set text (2 * i) x (omega arith) in
    let second = take_more_set one (2 * i + 1) y (omega (arith, length-set text (2 * i) x)) in
    let new : take (2 * (i + 1)) (set one (2 * i + 1) y) ≡ take (2 * i) text ++ x ∷ y ∷ [] =
    ap (λ n. take n (set one (2 * i + 1) y)) two ∙ second ∙ ap (λ l. l ++ y ∷ []) first ∙ append_assoc (take (2 * i) text) (x ∷ []) (y ∷ []) in
    let more = new ∙ ap (λ d. take (2 * i) text ++ d ∷ y ∷ []) high ∙ ap (λ d. take (2 * i) text ++ digit_char (get_or bytes i 0 / 16) ∷ d ∷ []) low in
    flat_more byte_text [] (take (2 * i) text) (take (2 * (i + 1)) (set one (2 * i + 1) y)) bytes i 0 within so_far more

-- a digit's value
digit_value : (n : ℕ) → n < 16 → hex_value (digit_char n) ≡ n
digit_value n h = go (nat_lt n 10) refl
  where
    go : (b : Bool) → nat_lt n 10 ≡ b → hex_value (cond b (48 + n) (87 + n)) ≡ n
    go true e =
        let d : is_ascii_digit (48 + n) ≡ true = grind (arith, nat_tests) in
        let v : 48 + n - 48 ≡ n = omega arith in
        rw (d, v) refl
    go false e =
        let d : is_ascii_digit (87 + n) ≡ false = grind (arith, nat_tests) in
        let l : (nat_le 97 (87 + n) && nat_le (87 + n) 102) ≡ true = grind (arith, nat_tests) in
        let ten : 10 ≤ n = grind (arith, nat_tests) in
        let v : 87 + n - 97 + 10 ≡ n = omega arith in
        rw (d, l, v) refl

byte_value : (byte : ℕ) → byte < 256 → 16 * hex_value (digit_char (byte / 16)) + hex_value (digit_char (byte % 16)) ≡ byte
byte_value byte h =
    let high : byte / 16 < 16 = omega arith in
    let low : byte % 16 < 16 = omega arith in
    let v : 16 * (byte / 16) + byte % 16 ≡ byte = omega arith in
    rw (digit_value (byte / 16) high, digit_value (byte % 16) low) v

-- the bytes that digits are
pub byte_read : (bytes : List ℕ) (k : ℕ) → k < length bytes → get_or bytes k 0 < 256 → byte_at (hex_text bytes) k ≡ get_or bytes k 0
unfolding hex_text
byte_read [] k within small = absurd (omega arith)
byte_read (b ∷ bs) zero within small = byte_value b small
byte_read (b ∷ bs) (suc k) within small =
    let one : 2 * suc k ≡ suc (suc (2 * k)) = omega arith in
    let two : 2 * suc k + 1 ≡ suc (suc (2 * k + 1)) = omega arith in
    ap (λ n. 16 * hex_value (get_or (hex_text (b ∷ bs)) n 0) + hex_value (get_or (hex_text (b ∷ bs)) (2 * suc k + 1) 0)) one
    ∙ ap (λ n. 16 * hex_value (get_or (hex_text (b ∷ bs)) (suc (suc (2 * k))) 0) + hex_value (get_or (hex_text (b ∷ bs)) n 0)) two
    ∙ byte_read bs k (omega (arith, within)) small

-- the bytes of a request are bytes
Small : List ℕ → Type 0
Small [] = Unit {0}
Small (x ∷ xs) = (x < 256) × Small xs

small_at : (xs : List ℕ) (i : ℕ) → Small xs → get_or xs i 0 < 256
unfolding Small
small_at [] zero h = omega arith
small_at [] (suc i) h = omega arith
small_at (x ∷ xs) zero h = h.0
small_at (x ∷ xs) (suc i) h = small_at xs i h.1

small_request : (r : RequestNo) → Small (request_bytes r)
unfolding request_bytes Small
small_request r = (omega arith, (omega arith, (omega arith, (omega arith, (omega arith, (omega arith, (omega arith, (omega arith, (omega arith, (omega arith, (omega arith, (omega arith, tt))))))))))))

length-request : (r : RequestNo) → length (request_bytes r) ≡ 12
unfolding request_bytes
length-request r = refl

-- the first 12 bytes of a token are its request's
pub request_read : (key : List ℕ) (session : SessionKey) (r : RequestNo) (k : ℕ) → k < 12 → byte_at (token_of key session r) k ≡ get_or (request_bytes r) k 0
unfolding token_bytes
request_read key session r k within =
    let tag = take 16 (hmac key (token_message session r)) in
    let here : k < length (request_bytes r) = omega (arith, length-request r) in
    let same = get_or_append_left (request_bytes r) tag 0 k here in
    let small : get_or (request_bytes r ++ tag) k 0 < 256 = omega (arith, same, small_at (request_bytes r) k (small_request r)) in
    byte_read (request_bytes r ++ tag) k (omega (arith, length-append (request_bytes r) tag, here)) small ∙ same

-- and they are of no other request
request_of : ℕ → ℕ → RequestNo
request_of boot serial = record { boot = boot; serial = serial }

pub request_same : (q r : RequestNo) → IsRequest q → IsRequest r → ((k : ℕ) → k < 12 → get_or (request_bytes q) k 0 ≡ get_or (request_bytes r) k 0) → q ≡ r
unfolding request_bytes request_of
request_same q r (qb, qs) (rb, rs) each =
    let same : request_bytes q ≡ request_bytes r = ext_get_or 0 (request_bytes q) (request_bytes r) (length-request q ∙ sym (length-request r)) (λ k within. each k (omega (arith, within, length-request q))) in
    let s = split_same (to_be_bytes w32 q.boot) (to_be_bytes w32 r.boot) (to_be_bytes w64 q.serial) (to_be_bytes w64 r.serial) refl same in
    ap (λ n. request_of n q.serial) (four_same q.boot r.boot qb rb s.0) ∙ ap (λ n. request_of r.boot n) (eight_same q.serial r.serial qs rs s.1)

-- a token has 56 digits
pub length-hmac : (key text : List ℕ) → length (hmac key text) ≡ 32
unfolding hmac
length-hmac key text = length-sha256 _

length-digits : (bytes : List ℕ) → length (hex_text bytes) ≡ 2 * length bytes
unfolding hex_text
length-digits [] = refl
length-digits (b ∷ bs) = let h = length-digits bs in omega (arith, h)

pub length-token : (key : List ℕ) (session : SessionKey) (r : RequestNo) → length (token_of key session r) ≡ 56
unfolding token_bytes
length-token key session r =
    let tag = hmac key (token_message session r) in
    omega (arith, length-digits (request_bytes r ++ take 16 tag), length-append (request_bytes r) (take 16 tag), length-request r, length-take-le 16 tag (omega (arith, length-hmac key (token_message session r))))

-- a boot and a serial that were taken off bytes
pub request_taken : (bytes rest after : List ℕ) (boot serial k : ℕ) → IsTaken (to_be_bytes w32 boot) bytes rest → IsTaken (to_be_bytes w64 serial) rest after
    → k < 12 → get_or (request_bytes (record { boot = boot; serial = serial })) k 0 ≡ get_or bytes k 0
unfolding request_bytes
request_taken bytes rest after boot serial k one two within =
    let both = taken_more (to_be_bytes w32 boot) (to_be_bytes w64 serial) bytes rest after one two in
    sym (get_or_append_left (to_be_bytes w32 boot ++ to_be_bytes w64 serial) after 0 k within) ∙ ap (λ l. get_or l k 0) (sym both.parts)

-- one byte more of digits
pub bytes_more : (text bytes : List ℕ) (i high low : ℕ) → i < 12 → length bytes ≡ 12 → ((k : ℕ) → k < i → get_or bytes k 0 ≡ byte_at text k)
    → high ≡ hex_value (get_or text (2 * i) 0) → low ≡ hex_value (get_or text (2 * i + 1) 0)
    → (length (set bytes i (16 * high + low)) ≡ 12) × ((k : ℕ) → k < i + 1 → get_or (set bytes i (16 * high + low)) k 0 ≡ byte_at text k)
bytes_more text bytes i high low within size so_far h l = (
  length-set bytes i (16 * high + low) ∙ size,
  below_more _ _
      (λ k before. let other : k ≢ i = omega arith in rw get_or-set_other (so_far k before))
      (get_or-set_same bytes i (16 * high + low) 0 (omega (arith, size)) ∙ ap (λ n. 16 * n + low) h ∙ ap (λ n. 16 * hex_value (get_or text (2 * i) 0) + n) l),
)
