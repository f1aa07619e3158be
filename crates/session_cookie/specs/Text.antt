-- What a text calls for.
use Rattle.std.specs.Prelude.{◌≡◌, ◌≢◌, ℕ, List, ◌++◌, length, Result, Ok, Err}
use Rattle.base64.specs.Engines.{url_safe_no_pad}
use Rattle.base64.specs.GeneralPurpose.{encode_of, IsBytes}
use Rattle.session_cookie.specs.Cookie.{cookie_fields, IsCookie}
use Rattle.session_cookie.specs.Hmac.{hmac}
use Rattle.session_cookie.specs.declared.cookie.Cookie.{Cookie}
use Rattle.session_cookie.specs.declared.cookie.TheConstants.{TAG_BYTES}
use Rattle.session_cookie.specs.declared.codec.CookieRefusal.{CookieRefusal}
use Rattle.session_cookie.specs.declared.codec.CookieRefusal.TheVariants.{NotBase64, Form, Tag, OutOfMemory}

-- a text is the base64url of bytes, without padding and with its unused bits zero (RFC 4648, section 5)
pub record Spells (text bytes : List ℕ) : Type 0 where
  pub are_bytes : IsBytes bytes
  pub text_is : text ≡ encode_of url_safe_no_pad bytes

-- there are no bytes whose base64url a text is
abbrev pub SpellsNoBytes : List ℕ → Type 0
SpellsNoBytes text = (bytes : List ℕ) → ¬ Spells text bytes

-- bytes are the fields of a cookie and then a tag of 32 bytes
pub record HasForm (bytes : List ℕ) (cookie : Cookie) (tag : List ℕ) : Type 0 where
  pub is_cookie : IsCookie cookie
  pub tag_size : length tag ≡ TAG_BYTES
  pub bytes_are : bytes ≡ cookie_fields cookie ++ tag

-- bytes are not the fields of a cookie and then a tag of 32 bytes
abbrev pub HasNoForm : List ℕ → Type 0
HasNoForm bytes = (cookie : Cookie) (tag : List ℕ) → ¬ HasForm bytes cookie tag

-- the tag of a cookie: the HMAC of its fields under the service's key
abbrev pub tag_of : List ℕ → Cookie → List ℕ
tag_of key cookie = hmac key (cookie_fields cookie)

-- a text is a cookie under a key: it spells the fields and their tag
abbrev pub IsTextOf : List ℕ → Cookie → List ℕ → Type 0
IsTextOf key cookie text =
    IsCookie cookie × Spells text (cookie_fields cookie ++ tag_of key cookie)

-- What a text calls for. A cookie: the text is that cookie under the key. `NotBase64`: it spells no
-- bytes. `Form`: the bytes that it spells are no fields and tag. `Tag`: they are, and the tag is
-- another one than that of the fields. Out of memory alone may come at any text.
abbrev pub IsAnswer : List ℕ → List ℕ → Result Cookie CookieRefusal → Type 0
IsAnswer key text (Ok cookie) = IsTextOf key cookie text
IsAnswer key text (Err NotBase64) = SpellsNoBytes text
IsAnswer key text (Err Form) = (bytes : List ℕ) × Spells text bytes × HasNoForm bytes
IsAnswer key text (Err Tag) =
    (bytes : List ℕ) × Spells text bytes
    × (cookie : Cookie) × (tag : List ℕ) × HasForm bytes cookie tag × (tag ≢ tag_of key cookie)
IsAnswer key text (Err OutOfMemory) = Unit {0}
