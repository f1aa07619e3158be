-- The markup of a page is its own: it is the same whatever texts stand on it.
use Rattle.std.proofs.Common.{◌≡◌, ℕ, false, List, [], ◌∷◌, ◌++◌, map, filter, codes, All, refl, ap, sym, ◌∙◌}
use Rattle.std.specs.List.{flat_map}
use Rattle.std.proofs.lemmas.List.Elements.{All-head, All-tail, filter-append}
use Rattle.page_text.specs.declared.page_line.PageLine.{PageLine}
use Rattle.page_text.specs.declared.page_line.PageLine.TheVariants.{Para, Link, Form}
use Rattle.page_text.specs.WithoutTexts.{without_texts}
use Rattle.page_text.specs.Escapes.{escaped, is_markup}
use Rattle.page_text.specs.Pages.{para_bytes, link_bytes, field_bytes, form_start, form_bytes, line_bytes, title_bytes, heading_bytes, page_bytes}
use Rattle.page_text.proofs.Reading.{no_markup}

-- the markup among bytes
unfoldable markup : List ℕ → List ℕ
markup bytes = filter is_markup bytes

-- bytes without markup have none
none_of : (bytes : List ℕ) → All (λ byte. is_markup byte ≡ false) bytes → filter is_markup bytes ≡ []
none_of [] all = refl
none_of (byte ∷ rest) all =
    let plain : is_markup byte ≡ false = All-head (λ b. is_markup b ≡ false) byte rest all in
    rw plain (none_of rest (All-tail (λ b. is_markup b ≡ false) byte rest all))

-- two texts have the same markup, once they are escaped
texts : (text other : List ℕ) → markup (escaped text) ≡ markup (escaped other)
unfolding markup
texts text other = none_of (escaped text) (no_markup text) ∙ sym (none_of (escaped other) (no_markup other))

-- and so have bytes that go on with bytes of the same markup
then_same : (a b x y : List ℕ) → markup a ≡ markup b → markup x ≡ markup y → markup (a ++ x) ≡ markup (b ++ y)
unfolding markup
then_same a b x y first second =
    filter-append is_markup a x ∙ ap (λ l. l ++ filter is_markup x) first ∙ ap (λ l. filter is_markup b ++ l) second ∙ sym (filter-append is_markup b y)

-- a text behind bytes of the same markup
then_text : (a b text : List ℕ) → markup a ≡ markup b → markup (a ++ escaped text) ≡ markup (b ++ escaped [])
then_text a b text same = then_same a b (escaped text) (escaped []) same (texts text [])

-- and the same bytes behind them
then_bytes : (a b x : List ℕ) → markup a ≡ markup b → markup (a ++ x) ≡ markup (b ++ x)
then_bytes a b x same = then_same a b x x same refl

-- a text between bytes
around : (a text b : List ℕ) → markup (a ++ escaped text ++ b) ≡ markup (a ++ escaped [] ++ b)
around a text b = then_bytes (a ++ escaped text) (a ++ escaped []) b (then_text a a text refl)

-- two texts between bytes
around_two : (a text b other c : List ℕ) → markup (a ++ escaped text ++ b ++ escaped other ++ c) ≡ markup (a ++ escaped [] ++ b ++ escaped [] ++ c)
around_two a text b other c =
    then_bytes (a ++ escaped text ++ b ++ escaped other) (a ++ escaped [] ++ b ++ escaped []) c
    (then_text (a ++ escaped text ++ b) (a ++ escaped [] ++ b) other (around a text b))

para_same : (text : List ℕ) → markup (para_bytes text) ≡ markup (para_bytes [])
unfolding para_bytes
para_same text = around (codes "<p>") text (codes "</p>\n")

link_same : (address text : List ℕ) → markup (link_bytes address text) ≡ markup (link_bytes [] [])
unfolding link_bytes
link_same address text = around_two (codes "<p><a href=\"") address (codes "\">") text (codes "</a></p>\n")

field_same : (name : List ℕ) → markup (field_bytes name) ≡ markup (field_bytes [])
unfolding field_bytes
field_same name = around_two (codes "<label>") name (codes " <input name=\"") name (codes "\"></label>\n")

start_same : (address token : List ℕ) → markup (form_start address token) ≡ markup (form_start [] [])
unfolding form_start
start_same address token =
    around_two (codes "<form method=\"post\" action=\"") address (codes "\">\n<input type=\"hidden\" name=\"token\" value=\"") token (codes "\">\n")

fields_same : (fields : List (List ℕ)) → markup (flat_map field_bytes fields) ≡ markup (flat_map field_bytes (map (λ name. []) fields))
fields_same [] = refl
fields_same (name ∷ names) =
    then_same (field_bytes name) (field_bytes []) (flat_map field_bytes names) (flat_map field_bytes (map (λ n. []) names)) (field_same name) (fields_same names)

form_same : (address token : List ℕ) (fields : List (List ℕ)) → markup (form_bytes address token fields) ≡ markup (form_bytes [] [] (map (λ name. []) fields))
unfolding form_bytes
form_same address token fields =
    then_bytes (form_start address token ++ flat_map field_bytes fields) (form_start [] [] ++ flat_map field_bytes (map (λ name. []) fields))
    (codes "<button>Send</button>\n</form>\n")
    (then_same (form_start address token) (form_start [] []) (flat_map field_bytes fields) (flat_map field_bytes (map (λ name. []) fields))
    (start_same address token) (fields_same fields))

line_same : (line : PageLine) → markup (line_bytes line) ≡ markup (line_bytes (without_texts line))
line_same (Para text) = para_same text
line_same (Link address text) = link_same address text
line_same (Form address token fields) = form_same address token fields

lines_same : (lines : List PageLine) → markup (flat_map line_bytes lines) ≡ markup (flat_map line_bytes (map without_texts lines))
lines_same [] = refl
lines_same (line ∷ lines) =
    then_same (line_bytes line) (line_bytes (without_texts line)) (flat_map line_bytes lines) (flat_map line_bytes (map without_texts lines)) (line_same line) (lines_same lines)

title_same : (heading : List ℕ) → markup (title_bytes heading) ≡ markup (title_bytes [])
unfolding title_bytes
title_same heading = around (codes "<!doctype html>\n<title>") heading (codes "</title>\n")

heading_same : (heading : List ℕ) → markup (heading_bytes heading) ≡ markup (heading_bytes [])
unfolding heading_bytes
heading_same heading = around (codes "<h1>") heading (codes "</h1>\n")

pub own_markup : (heading : List ℕ) (lines : List PageLine) → filter is_markup (page_bytes heading lines) ≡ filter is_markup (page_bytes [] (map without_texts lines))
unfolding page_bytes markup
own_markup heading lines =
    then_same (title_bytes heading ++ heading_bytes heading) (title_bytes [] ++ heading_bytes []) (flat_map line_bytes lines) (flat_map line_bytes (map without_texts lines))
    (then_same (title_bytes heading) (title_bytes []) (heading_bytes heading) (heading_bytes []) (title_same heading) (heading_same heading))
    (lines_same lines)
