-- Lines that are read from their spelling.
use Rattle.std.proofs.Common.{◌≡◌, ℕ, true, false, List, [], ◌∷◌, Option, Some, refl, ap, ◌∙◌}
use Rattle.std.specs.Option.{option_zip}
use Rattle.scenario_text.specs.Words.{words_of}
use Rattle.scenario_text.specs.Reading.{line_of_words, passes}
use Rattle.scenario_text.specs.Spelling.{spelling, words_of_line}
use Rattle.scenario_text.specs.declared.line.Line.{Line}
use Rattle.scenario_text.proofs.Splits.{words_joined, is_whole}
use Rattle.scenario_text.proofs.WordKinds.{Kind}

-- a line that does not pass, and is read from its words
abbrev pub IsRead : Line → Type 0
IsRead line = (passes (spelling line) ≡ false) × (words_of (spelling line) ≡ words_of_line line) × (line_of_words (words_of_line line) ≡ Some line)

-- one of no further word, of one and of two
pub no_read : (line : Line) (word : List ℕ) → passes (spelling line) ≡ false → words_of_line line ≡ word ∷ [] → is_whole word ≡ true → line_of_words (word ∷ []) ≡ Some line → IsRead line
no_read line word p own w r = (p, rw own (words_joined word [] w tt), ap line_of_words own ∙ r)

pub one_read : {A : Type 0} (K : Kind A) (line : Line) (word : List ℕ) (a : A) → K.IsIn a → (f : Option A → Option Line) → passes (spelling line) ≡ false → words_of_line line ≡ word ∷ K.word a ∷ [] → is_whole word ≡ true → line_of_words (word ∷ K.word a ∷ []) ≡ f (K.says (K.word a)) → f (Some a) ≡ Some line → IsRead line
one_read K line word a h f p own w r m =
    let split : words_of (spelling line) ≡ words_of_line line = rw own (words_joined word (K.word a ∷ []) w (K.whole a h, tt)) in
    (p, split, ap line_of_words own ∙ r ∙ ap f (K.read a h) ∙ m)

pub two_read : {A B : Type 0} (J : Kind A) (K : Kind B) (line : Line) (word : List ℕ) (a : A) (b : B) → J.IsIn a → K.IsIn b → (f : Option (A × B) → Option Line) → passes (spelling line) ≡ false → words_of_line line ≡ word ∷ J.word a ∷ K.word b ∷ [] → is_whole word ≡ true → line_of_words (word ∷ J.word a ∷ K.word b ∷ []) ≡ f (option_zip (J.says (J.word a)) (K.says (K.word b))) → f (Some (a, b)) ≡ Some line → IsRead line
two_read J K line word a b h k f p own w r m =
    let split : words_of (spelling line) ≡ words_of_line line = rw own (words_joined word (J.word a ∷ K.word b ∷ []) w (J.whole a h, (K.whole b k, tt))) in
    let both : option_zip (J.says (J.word a)) (K.says (K.word b)) ≡ Some (a, b) = rw (J.read a h, K.read b k) refl in
    (p, split, ap line_of_words own ∙ r ∙ ap f both ∙ m)
