-- Which texts a field may hold, so that it stays one line (RFC 9110, section 5.5).
use Rattle.std.specs.Prelude.{◌≡◌, ℕ, ◌||◌, Bool, false, List, [], All}
use Rattle.http_wire.specs.declared.response.CookieField.{CookieField}
use Rattle.http_wire.specs.declared.response.CookieField.TheVariants.{None, Set, Clear}
use Rattle.http_wire.specs.declared.response.ExtraFields.{ExtraFields}
use Rattle.http_wire.specs.Extent.{is_feed, is_return}

-- a byte that is part of a line end: a carriage return or a line feed
abbrev pub is_break : ℕ → Bool
is_break byte = is_feed byte || is_return byte

-- a text without line ends
abbrev pub IsOneLine : List ℕ → Type 0
IsOneLine text = All (λ byte. is_break byte ≡ false) text

-- the text of a cookie that is set, and none of another
abbrev pub cookie_text : CookieField → List ℕ
cookie_text None = []
cookie_text (Set text) = text
cookie_text Clear = []

-- what is done with a cookie, with an empty text
abbrev pub with_empty_text : CookieField → CookieField
with_empty_text None = None
with_empty_text (Set text) = Set []
with_empty_text Clear = Clear

-- the fields, with an empty text of the cookie
abbrev pub without_text : ExtraFields → ExtraFields
without_text extra = record {
  cookie = with_empty_text extra.cookie;
  retry = extra.retry;
  allow = extra.allow;
  close = extra.close;
}
