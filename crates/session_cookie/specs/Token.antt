-- Form tokens.
use Rattle.std.specs.Prelude.{◌≡◌, ◌≢◌, ℕ, ◌/◌, ◌%◌, ◌^◌, ◌<◌, List, [], ◌∷◌, ◌++◌, take, Option, Some, None, codes}
use Rattle.std.specs.Char.{digit_char}
use Rattle.std.specs.Int.{w32, w64, to_be_bytes}
use Rattle.std.specs.List.{flat_map}
use Rattle.crash_base.specs.declared.numbers.RequestNo.{RequestNo}
use Rattle.crash_base.specs.declared.numbers.SessionKey.{SessionKey}
use Rattle.session_cookie.specs.Hmac.{hmac}

-- the two digits of a byte, in lower case hexadecimal
abbrev pub byte_text : ℕ → List ℕ
byte_text byte = digit_char (byte / 16) ∷ digit_char (byte % 16) ∷ []

-- the digits of bytes
unfoldable pub hex_text : List ℕ → List ℕ
hex_text bytes = flat_map byte_text bytes

-- the 12 bytes of a request: its boot and its serial
unfoldable pub request_bytes : RequestNo → List ℕ
request_bytes r = to_be_bytes w32 r.boot ++ to_be_bytes w64 r.serial

-- the message of a token's tag: `form`, the session's key, and the request
unfoldable pub token_message : SessionKey → RequestNo → List ℕ
token_message session r = codes "form" ++ session.0 ++ request_bytes r

-- the 28 bytes of a token: the request, and the first 16 bytes of the tag
unfoldable pub token_bytes : List ℕ → SessionKey → RequestNo → List ℕ
token_bytes key session r = request_bytes r ++ take 16 (hmac key (token_message session r))

-- The token of a request of a session under a key: its 56 digits.
abbrev pub token_of : List ℕ → SessionKey → RequestNo → List ℕ
token_of key session r = hex_text (token_bytes key session r)

-- a request's numbers are in their ranges
abbrev pub IsRequest : RequestNo → Type 0
IsRequest r = (r.boot < 2 ^ 32) × (r.serial < 2 ^ 64)

-- A text is read as the request whose token of the session it is, or as none where it is no token of
-- the session.
abbrev pub IsReadAs : List ℕ → SessionKey → List ℕ → Option RequestNo → Type 0
IsReadAs key session text (Some r) = IsRequest r × (text ≡ token_of key session r)
IsReadAs key session text None = (r : RequestNo) → IsRequest r → text ≢ token_of key session r
