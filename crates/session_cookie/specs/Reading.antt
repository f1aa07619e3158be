-- How the code reads bytes and digits. It serves the code only: no public contract cites it.
use Rattle.std.specs.Prelude.{◌≡◌, ◌≢◌, ℕ, ◌+◌, ◌*◌, ◌-◌, ◌==◌, ◌&&◌, nat_le, if◌then◌else◌, Bool, true, not, List, [], ◌∷◌, ◌++◌, length, slice_index, All, Result, Ok, Err}
use Rattle.std.specs.Char.{is_ascii_digit}
use Rattle.std.specs.List.{flat_map, list_any}
use Rattle.session_cookie.specs.Cookie.{cookie_fields, holder_bytes, AreHolders, IsCookie, IsHolder}
use Rattle.session_cookie.specs.Text.{tag_of, HasForm, HasNoForm}
use Rattle.session_cookie.specs.declared.codec.CookieRefusal.{CookieRefusal}
use Rattle.session_cookie.specs.declared.codec.CookieRefusal.TheVariants.{NotBase64, Form, Tag, OutOfMemory}
use Rattle.session_cookie.specs.declared.cookie.Cookie.{Cookie}
use Rattle.session_cookie.specs.declared.cookie.Holder.{Holder}
use Rattle.session_cookie.specs.declared.cookie.TheConstants.{TAG_BYTES}

-- bytes are a field and the rest
pub record IsTaken (field bytes rest : List ℕ) : Type 0 where
  pub parts : bytes ≡ field ++ rest
  pub sizes : length bytes ≡ length field + length rest

-- whether no brick stands twice
abbrev pub are_distinct : List Holder → Bool
are_distinct [] = true
are_distinct (h ∷ hs) =
    not (list_any (λ (other : Holder). h.brick.0 == other.brick.0) hs) && are_distinct hs

-- bytes are so many distinct bricks, 1 to 16, and then a tag
pub record HasBricks (count : ℕ) (bytes : List ℕ) (bricks : List Holder) (tag : List ℕ) : Type 0 where
  pub count_is : length bricks ≡ count
  pub each : All IsHolder bricks
  pub are_holders : AreHolders bricks
  pub tag_size : length tag ≡ TAG_BYTES
  pub bytes_are : bytes ≡ flat_map holder_bytes bricks ++ tag

-- bytes are not so many distinct bricks, 1 to 16, and then a tag
abbrev pub HasNoBricks : ℕ → List ℕ → Type 0
HasNoBricks count bytes = (bricks : List Holder) (tag : List ℕ) → ¬ HasBricks count bytes bricks tag

-- what bytes call for, as a text does that spells them
abbrev pub IsAnswerOfBytes : List ℕ → List ℕ → Result Cookie CookieRefusal → Type 0
IsAnswerOfBytes key bytes (Ok cookie) =
    IsCookie cookie × (bytes ≡ cookie_fields cookie ++ tag_of key cookie)
IsAnswerOfBytes key bytes (Err NotBase64) = ⊥
IsAnswerOfBytes key bytes (Err Form) = HasNoForm bytes
IsAnswerOfBytes key bytes (Err Tag) =
    (cookie : Cookie) × (tag : List ℕ) × HasForm bytes cookie tag × (tag ≢ tag_of key cookie)
IsAnswerOfBytes key bytes (Err OutOfMemory) = Unit {0}

-- the value of a digit, and 0 of what is none
abbrev pub hex_value : ℕ → ℕ
hex_value digit =
    if is_ascii_digit digit then digit - 48 else (
    if nat_le 97 digit && nat_le digit 102 then digit - 97 + 10 else 0)

-- the byte that the two digits at a place are
abbrev pub byte_at : List ℕ → ℕ → ℕ
byte_at text k =
    16 * hex_value (slice_index text (2 * k)) + hex_value (slice_index text (2 * k + 1))
