-- The request whose token a text is, as a function of the text. Its first digits are read as a request; the text is a
-- token only where that request's token is this text.
use Rattle.std.specs.Prelude.{ℕ, ◌+◌, ◌*◌, if◌then◌else◌, List, [], ◌∷◌, drop, bytes_eq, Option, Some, None}
use Rattle.std.specs.Int.{w32, w64, from_be_bytes}
use Rattle.crash_base.specs.declared.numbers.RequestNo.{RequestNo}
use Rattle.crash_base.specs.declared.numbers.SessionKey.{SessionKey}
use Rattle.session_cookie.specs.Reading.{hex_value}
use Rattle.session_cookie.specs.Token.{token_of}

-- the bytes that digits are, two digits a byte
abbrev pub bytes_of_digits : List ℕ → List ℕ
bytes_of_digits [] = []
bytes_of_digits (high ∷ []) = []
bytes_of_digits (high ∷ low ∷ rest) = (16 * hex_value high + hex_value low) ∷ bytes_of_digits rest

-- the request whose boot and serial the first 24 digits of a text are
unfoldable pub request_in : List ℕ → RequestNo
request_in text =
    record {
      boot = from_be_bytes w32 (bytes_of_digits text);
      serial = from_be_bytes w64 (drop 4 (bytes_of_digits text));
    }

-- the request whose token of the session a text is under the key of the service, if it is one's
unfoldable pub request_of_text : List ℕ → SessionKey → List ℕ → Option RequestNo
request_of_text key session text =
    if bytes_eq text (token_of key session (request_in text)) then Some (request_in text) else None
