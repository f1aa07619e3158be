-- Each `&` of a page begins one of the five references.
use Rattle.std.proofs.Common.{◌≡◌, ℕ, Bool, true, false, ◌==◌, cond, List, [], ◌∷◌, ◌++◌, Option, Some, None, codes, refl, subst, sym, append_assoc}
use Rattle.std.specs.List.{flat_map}
use Rattle.std.proofs.lemmas.List.{append-nil}
use Rattle.std.specs.Option.{IsSome, option_map}
use Rattle.page_text.specs.declared.page_line.PageLine.{PageLine}
use Rattle.page_text.specs.declared.page_line.PageLine.TheVariants.{Para, Link, Form}
use Rattle.page_text.specs.Escapes.{escape_byte, escaped, unescaped}
use Rattle.page_text.specs.Pages.{para_bytes, link_bytes, field_bytes, form_start, form_bytes, line_bytes, title_bytes, heading_bytes, page_bytes}
use Rattle.page_text.proofs.Reading.{byte_read}

-- bytes that read back before any rest that reads back
abbrev ReadsOn : List ℕ → Type 0
ReadsOn bytes = (rest : List ℕ) → IsSome (unescaped rest) → IsSome (unescaped (bytes ++ rest))

-- whether bytes have no `&`
abbrev no_reference : List ℕ → Bool
no_reference [] = true
no_reference (byte ∷ rest) = cond (byte == 38) false (no_reference rest)

-- a text with one byte more
one_more : (byte : ℕ) (read : Option (List ℕ)) → IsSome read → IsSome (option_map (λ text. byte ∷ text) read)
one_more byte None is = is
one_more byte (Some text) is = is

-- bytes without `&` read on
plain : (bytes : List ℕ) → no_reference bytes ≡ true → ReadsOn bytes
plain [] none rest is = is
plain (byte ∷ bytes) none rest is = by_test (byte == 38) refl none (plain bytes)
  where
    by_test : (test : Bool) → (byte == 38) ≡ test → cond test false (no_reference bytes) ≡ true
        → (no_reference bytes ≡ true → ReadsOn bytes) → IsSome (unescaped (byte ∷ bytes ++ rest))
    by_test true here e later = absurd (cc)
    by_test false here e later = rw here (one_more byte (unescaped (bytes ++ rest)) (later e rest is))

-- and so do bytes behind one another
behind : (a b : List ℕ) → ReadsOn a → ReadsOn b → ReadsOn (a ++ b)
behind a b first second rest is =
    subst (λ l. IsSome (unescaped l)) (sym (append_assoc a b rest)) (first (b ++ rest) (second rest is))

-- a byte that is escaped
escaped_byte : (byte : ℕ) → ReadsOn (escape_byte byte)
escaped_byte byte rest is =
    subst IsSome (sym (byte_read byte rest)) (one_more byte (unescaped rest) is)

-- a text that is escaped
a_text : (text : List ℕ) → ReadsOn (escaped text)
unfolding escaped
a_text [] = λ rest is. is
a_text (byte ∷ text) = behind (escape_byte byte) (escaped text) (escaped_byte byte) (a_text text)

-- what is written for each of a list
for_each : {A : Type 0} (write : A → List ℕ) → ((x : A) → ReadsOn (write x)) → (xs : List A) → ReadsOn (flat_map write xs)
for_each write each [] = λ rest is. is
for_each write each (x ∷ xs) = behind (write x) (flat_map write xs) (each x) (for_each write each xs)

-- a text between bytes
around : (a text b : List ℕ) → no_reference a ≡ true → no_reference b ≡ true → ReadsOn (a ++ escaped text ++ b)
around a text b first last =
    behind (a ++ escaped text) b (behind a (escaped text) (plain a first) (a_text text)) (plain b last)

-- two texts between bytes
around_two : (a text b other c : List ℕ) → no_reference a ≡ true → no_reference b ≡ true → no_reference c ≡ true
    → ReadsOn (a ++ escaped text ++ b ++ escaped other ++ c)
around_two a text b other c first second last =
    behind (a ++ escaped text ++ b ++ escaped other) c
    (behind (a ++ escaped text ++ b) (escaped other) (around a text b first second) (a_text other))
    (plain c last)

a_para : (text : List ℕ) → ReadsOn (para_bytes text)
unfolding para_bytes
a_para text = around (codes "<p>") text (codes "</p>\n") refl refl

a_link : (address text : List ℕ) → ReadsOn (link_bytes address text)
unfolding link_bytes
a_link address text = around_two (codes "<p><a href=\"") address (codes "\">") text (codes "</a></p>\n") refl refl refl

a_field : (name : List ℕ) → ReadsOn (field_bytes name)
unfolding field_bytes
a_field name = around_two (codes "<label>") name (codes " <input name=\"") name (codes "\"></label>\n") refl refl refl

a_start : (address token : List ℕ) → ReadsOn (form_start address token)
unfolding form_start
a_start address token =
    around_two (codes "<form method=\"post\" action=\"") address (codes "\">\n<input type=\"hidden\" name=\"token\" value=\"") token (codes "\">\n") refl refl refl

a_form : (address token : List ℕ) (fields : List (List ℕ)) → ReadsOn (form_bytes address token fields)
unfolding form_bytes
a_form address token fields =
    behind (form_start address token ++ flat_map field_bytes fields) (codes "<button>Send</button>\n</form>\n")
    (behind (form_start address token) (flat_map field_bytes fields) (a_start address token) (for_each field_bytes a_field fields))
    (plain (codes "<button>Send</button>\n</form>\n") refl)

a_line : (line : PageLine) → ReadsOn (line_bytes line)
a_line (Para text) = a_para text
a_line (Link address text) = a_link address text
a_line (Form address token fields) = a_form address token fields

a_title : (heading : List ℕ) → ReadsOn (title_bytes heading)
unfolding title_bytes
a_title heading = around (codes "<!doctype html>\n<title>") heading (codes "</title>\n") refl refl

a_heading : (heading : List ℕ) → ReadsOn (heading_bytes heading)
unfolding heading_bytes
a_heading heading = around (codes "<h1>") heading (codes "</h1>\n") refl refl

-- a page reads back as a whole
pub page_reads : (heading : List ℕ) (lines : List PageLine) → IsSome (unescaped (page_bytes heading lines))
unfolding page_bytes
page_reads heading lines =
    behind (title_bytes heading) (heading_bytes heading) (a_title heading) (a_heading heading)
    (flat_map line_bytes lines) (all_lines (for_each line_bytes a_line lines [] refl))
  where
    all_lines : IsSome (unescaped (flat_map line_bytes lines ++ [])) → IsSome (unescaped (flat_map line_bytes lines))
    all_lines is = subst (λ l. IsSome (unescaped l)) (append-nil (flat_map line_bytes lines)) is
