-- What was escaped has no markup, and reads back.
use Rattle.std.proofs.Common.{◌≡◌, ℕ, Bool, true, false, ◌==◌, if◌then◌else◌, List, [], ◌∷◌, ◌++◌, Some, None, codes, refl, sym, ap, ◌∙◌}
use Rattle.std.specs.List.{All}
use Rattle.std.proofs.lemmas.Bool.{eqb-true}
use Rattle.std.proofs.lemmas.List.Elements.{All-append, All-cons, All-from_recursion, All-nil}
use Rattle.std.specs.Option.{option_map, unwrap_or}
use Rattle.page_text.specs.Escapes.{escape_byte, escaped, is_markup, unescaped, unescaped_after}

-- whether a byte is no byte of markup
abbrev IsPlain : ℕ → Type 0
IsPlain byte = is_markup byte ≡ false

-- what stands for a byte, by whether it is `&`, `<`, `>`, `"` or `'`
abbrev piece : Bool → Bool → Bool → Bool → Bool → ℕ → List ℕ
piece a b c d e byte =
    if a then codes "&amp;" else (if b then codes "&lt;" else (if c then codes "&gt;" else (if d then codes "&quot;" else (if e then codes "&#39;" else byte ∷ []))))

-- what stands for a byte has no markup
byte_plain : (byte : ℕ) → All IsPlain (escape_byte byte)
byte_plain byte = go (byte == 38) (byte == 60) (byte == 62) (byte == 34) (byte == 39) refl refl refl refl
  where
    go : (a b c d e : Bool) → (byte == 60) ≡ b → (byte == 62) ≡ c → (byte == 34) ≡ d → (byte == 39) ≡ e
        → All IsPlain (piece a b c d e byte)
    go true b c d e w x y z = All-from_recursion IsPlain (codes "&amp;") (refl, (refl, (refl, (refl, (refl, tt)))))
    go false true c d e w x y z = All-from_recursion IsPlain (codes "&lt;") (refl, (refl, (refl, (refl, tt))))
    go false false true d e w x y z = All-from_recursion IsPlain (codes "&gt;") (refl, (refl, (refl, (refl, tt))))
    go false false false true e w x y z = All-from_recursion IsPlain (codes "&quot;") (refl, (refl, (refl, (refl, (refl, (refl, tt))))))
    go false false false false true w x y z = All-from_recursion IsPlain (codes "&#39;") (refl, (refl, (refl, (refl, (refl, tt)))))
    go false false false false false w x y z =
        let plain : IsPlain byte = rw (w, x, y, z) refl in
        All-cons IsPlain byte [] plain (All-nil IsPlain)

-- an escaped text has no markup
pub no_markup : (text : List ℕ) → All (λ byte. is_markup byte ≡ false) (escaped text)
unfolding escaped
no_markup [] = All-nil IsPlain
no_markup (byte ∷ rest) = All-append IsPlain (escape_byte byte) (escaped rest) (byte_plain byte) (no_markup rest)

-- a byte that was escaped reads back as the byte, before any rest
pub byte_read : (byte : ℕ) (rest : List ℕ) → unescaped_after None (escape_byte byte ++ rest) ≡ option_map (λ text. byte ∷ text) (unescaped_after None rest)
byte_read byte rest = go (byte == 38) (byte == 60) (byte == 62) (byte == 34) (byte == 39) refl refl refl refl refl
  where
    go : (a b c d e : Bool) → (byte == 38) ≡ a → (byte == 60) ≡ b → (byte == 62) ≡ c → (byte == 34) ≡ d → (byte == 39) ≡ e
        → unescaped_after None ((piece a b c d e byte) ++ rest)
        ≡ option_map (λ text. byte ∷ text) (unescaped_after None rest)
    go true b c d e is w x y z = rw (eqb-true byte 38 is) refl
    go false true c d e other is x y z = rw (eqb-true byte 60 is) refl
    go false false true d e other w is y z = rw (eqb-true byte 62 is) refl
    go false false false true e other w x is z = rw (eqb-true byte 34 is) refl
    go false false false false true other w x y is = rw (eqb-true byte 39 is) refl
    go false false false false false other w x y z = rw other refl

-- what was escaped reads back as the text that was given
pub reads_back : (text : List ℕ) → unescaped (escaped text) ≡ Some text
unfolding escaped
reads_back [] = refl
reads_back (byte ∷ rest) = byte_read byte (escaped rest) ∙ ap (option_map (λ text. byte ∷ text)) (reads_back rest)

-- texts that are escaped to the same bytes are the same
pub escaped_same : (text other : List ℕ) → escaped text ≡ escaped other → text ≡ other
escaped_same text other e =
    let read : Some text ≡ Some other = sym (reads_back text) ∙ ap unescaped e ∙ reads_back other in
    ap (λ o. unwrap_or o []) read
