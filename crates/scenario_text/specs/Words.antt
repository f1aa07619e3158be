-- The words of a line.
use Rattle.std.specs.Prelude.{ℕ, ◌==◌, List, [], ◌∷◌, Option, Some, None}
use Rattle.std.specs.Option.{option_map}
use Rattle.std.specs.List.{slice_split}

-- the words of a line, between single spaces
abbrev pub words_of : List ℕ → List (List ℕ)
words_of text = slice_split (λ b. b == 32) text

-- the words after a first one, of what is left from the space that ends it
abbrev pub words_after : List ℕ → List (List ℕ)
words_after [] = []
words_after (space ∷ text) = words_of text

-- nothing, where there is no word
abbrev pub no_words : List (List ℕ) → Option (Unit {0})
no_words [] = Some tt
no_words (word ∷ words) = None

-- the only word
abbrev pub one_word : List (List ℕ) → Option (List ℕ)
one_word [] = None
one_word (word ∷ words) = option_map (λ _. word) (no_words words)

-- the two words
abbrev pub two_words : List (List ℕ) → Option (List ℕ × List ℕ)
two_words [] = None
two_words (first ∷ words) = option_map (λ second. (first, second)) (one_word words)

-- the three words
abbrev pub three_words : List (List ℕ) → Option (List ℕ × List ℕ × List ℕ)
three_words [] = None
three_words (first ∷ words) = option_map (λ w. (first, w.0, w.1)) (two_words words)

-- the four words
abbrev pub four_words : List (List ℕ) → Option (List ℕ × List ℕ × List ℕ × List ℕ)
four_words [] = None
four_words (first ∷ words) = option_map (λ w. (first, w.0, w.1, w.2)) (three_words words)
