-- The cookie that a text is, as a function of the text. Its bytes are read as fields by their places; they are a cookie
-- only where the cookie that has these fields is written as the same bytes.
use Rattle.std.specs.Prelude.{ℕ, zero, suc, ◌^◌, ◌==◌, ◌&&◌, nat_le, nat_lt, not, if◌then◌else◌, Bool, List, [], ◌∷◌, ◌++◌, length, take, drop, slice_index, bytes_eq, Option, Some, None, Result, Ok, Err}
use Rattle.std.specs.Int.{w16, w32, w64, from_be_bytes}
use Rattle.std.specs.List.{list_all}
use Rattle.std.specs.Result.{result_ok}
use Rattle.base64.specs.Engines.{url_safe_no_pad}
use Rattle.base64.specs.GeneralPurpose.{decoded_of, encode_of}
use Rattle.session_cookie.specs.Cookie.{cookie_fields}
use Rattle.session_cookie.specs.Reading.{are_distinct}
use Rattle.session_cookie.specs.Text.{tag_of}
use Rattle.session_cookie.specs.declared.codec.CookieRefusal.{CookieRefusal}
use Rattle.session_cookie.specs.declared.codec.CookieRefusal.TheVariants.{NotBase64, Form, Tag}
use Rattle.session_cookie.specs.declared.cookie.Cookie.{Cookie}
use Rattle.session_cookie.specs.declared.cookie.Holder.{Holder}
use Rattle.session_cookie.specs.declared.cookie.TheConstants.{HEAD_BYTES, HOLDER_BYTES, MAX_HOLDERS, TAG_BYTES}

-- whether numbers are bytes
abbrev pub are_bytes : List ℕ → Bool
are_bytes numbers = list_all (λ number. nat_lt number (2 ^ 8)) numbers

-- whether a text is the base64url of these bytes
abbrev pub is_spelling : List ℕ → List ℕ → Bool
is_spelling text bytes = are_bytes bytes && bytes_eq text (encode_of url_safe_no_pad bytes)

-- the brick and its incarnation that bytes begin with
abbrev pub holder_in : List ℕ → Holder
holder_in bytes =
    record { brick = record { 0 = from_be_bytes w16 bytes }; incarnation = from_be_bytes w64 (drop 2 bytes) }

-- so many bricks, one after the other
abbrev pub holders_in : ℕ → List ℕ → List Holder
holders_in zero bytes = []
holders_in (suc count) bytes = holder_in bytes ∷ holders_in count (drop HOLDER_BYTES bytes)

-- The cookie whose fields stand at their places in bytes: after the format number 16 bytes of the key, 2, 4 and 8 of
-- the version, 8 of the expiry, the count of the bricks, and the bricks.
unfoldable pub cookie_in : List ℕ → Cookie
cookie_in bytes =
    record {
      key = record { 0 = take 16 (drop 1 bytes) };
      version = record {
        node = from_be_bytes w16 (drop 17 bytes);
        boot = from_be_bytes w32 (drop 19 bytes);
        serial = from_be_bytes w64 (drop 23 bytes);
      };
      expiry = record { 0 = from_be_bytes w64 (drop 31 bytes) };
      bricks = holders_in (slice_index bytes 39) (drop HEAD_BYTES bytes);
    }

-- the tag: what follows the fields
abbrev pub tag_in : List ℕ → List ℕ
tag_in bytes = drop (length (cookie_fields (cookie_in bytes))) bytes

-- whether these are 1 to 16 distinct bricks
abbrev pub are_holders : List Holder → Bool
are_holders hs = (nat_le 1 (length hs) && nat_le (length hs) MAX_HOLDERS) && are_distinct hs

-- whether bytes are the fields of a cookie, with 1 to 16 distinct bricks, and then a tag of 32 bytes
unfoldable pub is_form : List ℕ → Bool
is_form bytes =
    (are_holders (cookie_in bytes).bricks && (length (tag_in bytes) == TAG_BYTES))
    && bytes_eq bytes (cookie_fields (cookie_in bytes) ++ tag_in bytes)

-- whether the tag is that of the fields under a key
abbrev pub is_tagged : List ℕ → List ℕ → Bool
is_tagged key bytes = bytes_eq (tag_in bytes) (tag_of key (cookie_in bytes))

-- the cookie, or the first of three tests that failed
abbrev pub answer_by_tests : Bool → Bool → Bool → Cookie → Result Cookie CookieRefusal
answer_by_tests spelled formed tagged cookie =
    if not spelled then Err NotBase64 else if not formed then Err Form else if not tagged then Err Tag else Ok cookie

-- the answer to a text by the bytes that it is decoded to, if it is decoded
abbrev pub answer_by_bytes : List ℕ → List ℕ → Option (List ℕ) → Result Cookie CookieRefusal
answer_by_bytes key text None = Err NotBase64
answer_by_bytes key text (Some bytes) =
    answer_by_tests (is_spelling text bytes) (is_form bytes) (is_tagged key bytes) (cookie_in bytes)

-- the cookie that a text is under the key of the service, or why it is none
unfoldable pub answer_to : List ℕ → List ℕ → Result Cookie CookieRefusal
answer_to key text = answer_by_bytes key text (decoded_of url_safe_no_pad text)

-- the cookie that is accepted of a text, if one is
abbrev pub cookie_of_text : List ℕ → List ℕ → Option Cookie
cookie_of_text key text = result_ok (answer_to key text)
