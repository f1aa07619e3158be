-- The bytes of a page, in HTML. Each text and each attribute is escaped. A line ends with a line feed.
use Rattle.std.specs.Prelude.{ℕ, List, ◌++◌, codes}
use Rattle.std.specs.List.{flat_map}
use Rattle.page_text.specs.declared.page_line.PageLine.{PageLine}
use Rattle.page_text.specs.declared.page_line.PageLine.TheVariants.{Para, Link, Form}
use Rattle.page_text.specs.Escapes.{escaped}

-- a paragraph
unfoldable pub para_bytes : List ℕ → List ℕ
para_bytes text = codes "<p>" ++ escaped text ++ codes "</p>\n"

-- a paragraph with a link
unfoldable pub link_bytes : List ℕ → List ℕ → List ℕ
link_bytes address text =
    codes "<p><a href=\"" ++ escaped address ++ codes "\">" ++ escaped text ++ codes "</a></p>\n"

-- a field of a form: its name, and its input of that name
unfoldable pub field_bytes : List ℕ → List ℕ
field_bytes name =
    codes "<label>" ++ escaped name ++ codes " <input name=\"" ++ escaped name ++ codes "\"></label>\n"

-- the start of a form that is posted to an address, with its hidden token
unfoldable pub form_start : List ℕ → List ℕ → List ℕ
form_start address token =
    codes "<form method=\"post\" action=\"" ++ escaped address
    ++ codes "\">\n<input type=\"hidden\" name=\"token\" value=\"" ++ escaped token ++ codes "\">\n"

-- a form: its start, its fields, and its button
unfoldable pub form_bytes : List ℕ → List ℕ → List (List ℕ) → List ℕ
form_bytes address token fields =
    form_start address token
    ++ flat_map field_bytes fields
    ++ codes "<button>Send</button>\n</form>\n"

-- a line of a page
abbrev pub line_bytes : PageLine → List ℕ
line_bytes (Para text) = para_bytes text
line_bytes (Link address text) = link_bytes address text
line_bytes (Form address token fields) = form_bytes address token fields

-- what each page begins with: its document type, and its title
unfoldable pub title_bytes : List ℕ → List ℕ
title_bytes heading = codes "<!doctype html>\n<title>" ++ escaped heading ++ codes "</title>\n"

-- a heading
unfoldable pub heading_bytes : List ℕ → List ℕ
heading_bytes heading = codes "<h1>" ++ escaped heading ++ codes "</h1>\n"

-- a page: its heading, which is its title too, and its lines in order
unfoldable pub page_bytes : List ℕ → List PageLine → List ℕ
page_bytes heading lines = title_bytes heading ++ heading_bytes heading ++ flat_map line_bytes lines
