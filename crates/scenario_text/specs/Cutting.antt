-- The lines of a text.
use Rattle.std.specs.Prelude.{◌≡◌, ◌≢◌, ℕ, ◌==◌, if◌then◌else◌, List, [], ◌∷◌, ◌++◌, All, ◌⊎◌}
use Rattle.std.specs.List.{onto_first, flat_map}

-- the lines of a text: each ends with a line feed, or with the text
abbrev pub lines_of : List ℕ → List (List ℕ)
lines_of [] = []
lines_of (b ∷ bs) = if b == 10 then [] ∷ lines_of bs else onto_first b (lines_of bs)

-- a list of bytes has no line feed
abbrev pub IsOneLine : List ℕ → Type 0
IsOneLine line = All (λ b. b ≢ 10) line

-- lines, each with a line feed after it
abbrev pub text_of_lines : List (List ℕ) → List ℕ
text_of_lines lines = flat_map (λ line. line ++ 10 ∷ []) lines

-- a text of these lines, the last of which is not empty and has no line feed after it
abbrev pub EndsWithoutFeed : List ℕ → List (List ℕ) → Type 0
EndsWithoutFeed text lines =
    (before : List (List ℕ)) × (last : List ℕ)
    × (lines ≡ before ++ last ∷ []) × (last ≢ []) × (text ≡ text_of_lines before ++ last)

-- A text consists of these lines: after each is a line feed, but after a last one that is not empty
-- the text may end without one.
abbrev pub ConsistsOf : List ℕ → List (List ℕ) → Type 0
ConsistsOf text lines =
    All IsOneLine lines × ((text ≡ text_of_lines lines) ⊎ EndsWithoutFeed text lines)

-- a text is these lines, each with a line feed after it, and then the beginning of a line
pub record IsCut (text : List ℕ) (lines : List (List ℕ)) (part : List ℕ) : Type 0 where
  pub whole : text ≡ text_of_lines lines ++ part
  pub plain : All IsOneLine lines
  pub one : IsOneLine part
