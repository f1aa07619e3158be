-- A response has the line ends of its fields, whatever the cookie's text is.
use Rattle.std.proofs.Common.{◌≡◌, ℕ, true, false, List, [], ◌∷◌, ◌++◌, filter, codes, refl, ap, sym, ◌∙◌}
use Rattle.std.proofs.lemmas.List.{append-nil}
use Rattle.std.proofs.lemmas.List.Elements.{All-head, All-tail, filter-append}
use Rattle.std.specs.Prelude.{length}
use Rattle.http_wire.specs.declared.response.CookieField.{CookieField}
use Rattle.http_wire.specs.declared.response.CookieField.TheVariants.{None, Set, Clear}
use Rattle.http_wire.specs.declared.response.ExtraFields.{ExtraFields}
use Rattle.http_wire.specs.OneLine.{IsOneLine, cookie_text, is_break, with_empty_text, without_text}
use Rattle.http_wire.specs.Response.{allow_field, close_field, cookie_field, extra_fields, page_fields, page_part, response_bytes, retry_field, set_field, status_line}

-- the line ends among bytes
unfoldable breaks : List ℕ → List ℕ
breaks bytes = filter is_break bytes

-- one line has none
none_of : (bytes : List ℕ) → IsOneLine bytes → filter is_break bytes ≡ []
none_of [] all = refl
none_of (byte ∷ rest) all =
    let plain : is_break byte ≡ false = All-head (λ b. is_break b ≡ false) byte rest all in
    rw plain (none_of rest (All-tail (λ b. is_break b ≡ false) byte rest all))

-- bytes behind others
behind : (a x y : List ℕ) → breaks x ≡ breaks y → breaks (a ++ x) ≡ breaks (a ++ y)
unfolding breaks
behind a x y same =
    filter-append is_break a x ∙ ap (λ l. filter is_break a ++ l) same ∙ sym (filter-append is_break a y)

-- bytes before others
ahead : (x y a : List ℕ) → breaks x ≡ breaks y → breaks (x ++ a) ≡ breaks (y ++ a)
unfolding breaks
ahead x y a same =
    filter-append is_break x a ∙ ap (λ l. l ++ filter is_break a) same ∙ sym (filter-append is_break y a)

-- one line has those of an empty text
as_empty : (text : List ℕ) → IsOneLine text → breaks text ≡ breaks []
unfolding breaks
as_empty text plain = none_of text plain

-- one line between others
between : (a text b : List ℕ) → IsOneLine text → breaks (a ++ text ++ b) ≡ breaks (a ++ [] ++ b)
between a text b plain = ahead (a ++ text) (a ++ []) b (behind a text [] (as_empty text plain))

-- the field of the cookie
cookie_on : (cookie : CookieField) → IsOneLine (cookie_text cookie)
    → breaks (cookie_field cookie) ≡ breaks (cookie_field (with_empty_text cookie))
unfolding set_field
cookie_on None plain = refl
cookie_on (Set text) plain = between (codes "Set-Cookie: crash=") text (codes "; Path=/; Max-Age=1800; HttpOnly\r\n") plain
cookie_on Clear plain = refl

-- the fields
extra_on : (extra : ExtraFields) → IsOneLine (cookie_text extra.cookie)
    → breaks (extra_fields extra) ≡ breaks (extra_fields (without_text extra))
unfolding extra_fields
extra_on extra plain =
    let first = cookie_field extra.cookie in
    let other = cookie_field (with_empty_text extra.cookie) in
    let retry = retry_field extra.retry in
    let allow = allow_field extra.allow in
    ahead (first ++ retry ++ allow) (other ++ retry ++ allow) (close_field extra.close)
    (ahead (first ++ retry) (other ++ retry) allow (ahead first other retry (cookie_on extra.cookie plain)))

-- the response
breaks_on : (status : ℕ) (extra : ExtraFields) (page : List ℕ) → IsOneLine (cookie_text extra.cookie)
    → breaks (response_bytes status extra page true) ≡ breaks (response_bytes status (without_text extra) page true)
unfolding response_bytes
breaks_on status extra page plain =
    let front = status_line status ++ page_fields (length page) in
    let fields = extra_fields extra in
    let other = extra_fields (without_text extra) in
    ahead (front ++ fields ++ codes "\r\n") (front ++ other ++ codes "\r\n") (page_part true page)
    (ahead (front ++ fields) (front ++ other) (codes "\r\n") (behind front fields other (extra_on extra plain)))

pub same_breaks : (status : ℕ) (extra : ExtraFields) (page : List ℕ) → IsOneLine (cookie_text extra.cookie)
    → filter is_break (response_bytes status extra page true)
    ≡ filter is_break (response_bytes status (without_text extra) page true)
unfolding breaks
same_breaks status extra page plain = breaks_on status extra page plain

-- the page stands behind the head
pub page_behind : (status : ℕ) (extra : ExtraFields) (page : List ℕ)
    → response_bytes status extra page false ≡ response_bytes status extra page true ++ page
unfolding response_bytes page_part
page_behind status extra page =
    let head = status_line status ++ page_fields (length page) ++ extra_fields extra ++ codes "\r\n" in
    ap (λ l. l ++ page) (sym (append-nil head))
