-- Escaped texts: bytes of markup as character references (HTML Standard of the WHATWG, section 13.1.4
-- "Character references"). The codes of `"`, `&`, `'`, `<` and `>` are 34, 38, 39, 60 and 62.
use Rattle.std.specs.Prelude.{ℕ, ◌==◌, ◌||◌, Bool, if◌then◌else◌, List, [], ◌∷◌, ◌++◌, bytes_eq, codes, Option, Some, None}
use Rattle.std.specs.List.{flat_map}
use Rattle.std.specs.Option.{option_and_then, option_map}

-- a byte that begins or ends a tag or the value of an attribute: `<`, `>`, `"` or `'`
abbrev pub is_markup : ℕ → Bool
is_markup byte = ((byte == 60) || (byte == 62)) || ((byte == 34) || (byte == 39))

-- what stands for a byte: the reference of a byte of markup and of `&`, and else the byte
abbrev pub escape_byte : ℕ → List ℕ
escape_byte byte =
    if byte == 38 then codes "&amp;" else (
    if byte == 60 then codes "&lt;" else (
    if byte == 62 then codes "&gt;" else (
    if byte == 34 then codes "&quot;" else (
    if byte == 39 then codes "&#39;" else byte ∷ []))))

-- a text with each byte escaped
unfoldable pub escaped : List ℕ → List ℕ
escaped text = flat_map escape_byte text

-- the byte that a reference names between its `&` and its `;`, where it is one of the five
abbrev pub named_byte : List ℕ → Option ℕ
named_byte name =
    if bytes_eq name (codes "amp") then Some 38 else (
    if bytes_eq name (codes "lt") then Some 60 else (
    if bytes_eq name (codes "gt") then Some 62 else (
    if bytes_eq name (codes "quot") then Some 34 else (
    if bytes_eq name (codes "#39") then Some 39 else None))))

-- How bytes read on: behind an `&` and these bytes of a name, up to the `;` (whose code is 59), or
-- outside of references. None where a name is none of the five, or has no end.
abbrev pub unescaped_after : Option (List ℕ) → List ℕ → Option (List ℕ)
unescaped_after None [] = Some []
unescaped_after (Some name) [] = None
unescaped_after None (byte ∷ rest) =
    if byte == 38 then unescaped_after (Some []) rest
    else option_map (λ text. byte ∷ text) (unescaped_after None rest)
unescaped_after (Some name) (byte ∷ rest) =
    if byte == 59 then
    option_and_then (λ named. option_map (λ text. named ∷ text) (unescaped_after None rest)) (named_byte name)
    else unescaped_after (Some (name ++ byte ∷ [])) rest

-- The text that an escaped text reads back as, with the five references read. None where another `&`
-- stands.
abbrev pub unescaped : List ℕ → Option (List ℕ)
unescaped bytes = unescaped_after None bytes
