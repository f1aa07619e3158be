-- The fields that bytes begin with.
use Rattle.std.specs.Prelude.{ℕ, ◌^◌, ◌==◌, nat_lt, if◌then◌else◌, Bool, true, false, List, [], ◌∷◌, length, take, drop, Option, Some, None}
use Rattle.std.specs.Option.{option_map, option_and_then}
use Rattle.std.specs.Int.{Width, w16, w64, byte_len, from_be_bytes}
use Rattle.std.specs.Str.{is_utf8}

-- what is read of what was read before, if it was
infixl 10 ◌>>=◌
abbrev pub ◌>>=◌ : {A B : Type 0} → Option A → (A → Option B) → Option B
(Some x) >>= f = f x
None >>= f = None

-- A field answers its value at the front of bytes, and the bytes after it; None where they do not
-- begin with one.
abbrev pub Field : Type 0 → Type 0
Field A = List ℕ → Option (A × List ℕ)

-- a field whose value is made of another's
abbrev pub made : {A B : Type 0} → (A → B) → Field A → Field B
made make field bytes = option_map (λ x. (make x.0, x.1)) (field bytes)

-- a field, and then another
abbrev pub both : {A B : Type 0} → Field A → Field B → Field (A × B)
both first second bytes =
    option_and_then (λ x. option_map (λ y. ((x.0, y.0), y.1)) (second x.1)) (first bytes)

-- this many bytes
unfoldable pub bytes_at : ℕ → Field (List ℕ)
bytes_at size bytes =
    if nat_lt (length bytes) size then None else Some (take size bytes, drop size bytes)

-- a number of this width
unfoldable pub number_at : Width → Field ℕ
number_at width bytes =
    if nat_lt (length bytes) (byte_len width) then None
    else Some (from_be_bytes width (take (byte_len width) bytes), drop (byte_len width) bytes)

-- a number of one byte
unfoldable pub u8_at : Field ℕ
u8_at [] = None
u8_at (byte ∷ rest) = Some (byte, rest)

-- an id: eight bytes, but below 2^32
unfoldable pub id_at : Field ℕ
id_at bytes = do
  n ← number_at w64 bytes
  if nat_lt n.0 (2 ^ 32) then Some n else None

-- a text: its length in two bytes, and then its bytes, which are UTF-8
unfoldable pub text_at : Field (List ℕ)
text_at bytes = do
  size ← number_at w16 bytes
  text ← bytes_at size.0 size.1
  if is_utf8 text.0 then Some text else None

-- what is so where a number is 1, and not so where it is 0
abbrev pub flag_of : ℕ → Option Bool
flag_of n = if n == 0 then Some false else (if n == 1 then Some true else None)

-- what is found of a number of one byte
abbrev pub byte_as : {A : Type 0} → (ℕ → Option A) → Field A
byte_as make bytes = do
  byte ← u8_at bytes
  value ← make byte.0
  Some (value, byte.1)
