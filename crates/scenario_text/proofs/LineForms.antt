-- Forms of lines by their first words: what words read as, they spell.
use Rattle.std.proofs.Common.{◌≡◌, ℕ, Bool, true, false, cond, List, [], ◌∷◌, Option, Some, option_and_then, refl}
use Rattle.std.specs.Option.{option_map, option_zip}
use Rattle.std.specs.Str.{bytes_eq}
use Rattle.std.proofs.lemmas.Slice.Eq.{bytes_eq-Decides}
use Rattle.scenario_text.specs.Words.{no_words, one_word, two_words, three_words, four_words}
use Rattle.crash_base.proofs.Options.{map_some}
use Rattle.scenario_text.proofs.WordKinds.{Kind, one_spelled, two_spelled, three_spelled, four_spelled}

-- a grammar of lines: what their fields may be, and their words
pub record Grammar (L : Type 0) : Type 1 where
  pub IsIn : L → Type 0
  pub words : L → List (List ℕ)

-- these words, the first among them, are those of a line in its ranges
abbrev pub AreWords : {L : Type 0} → Grammar L → List (List ℕ) → L → Type 0
AreWords G words line = G.IsIn line × (words ≡ G.words line)

-- the words of the line that these words made, too
pub same_line : {L : Type 0} (G : Grammar L) (words : List (List ℕ)) (made line : L) → made ≡ line → AreWords G words made → AreWords G words line
same_line {L} G words made line e h = let P : L → Type 0 = λ l. AreWords G words l in rw (← e) h

-- one form more, by its first word
pub form : {L : Type 0} (G : Grammar L) (word first : List ℕ) (words : List (List ℕ)) (line : L) (here later : Option L) → (here ≡ Some line → AreWords G (word ∷ words) line) → (later ≡ Some line → AreWords G (first ∷ words) line) → cond (bytes_eq first word) here later ≡ Some line → AreWords G (first ∷ words) line
form G word first words line here later f g h =
    let go : (b : Bool) → bytes_eq first word ≡ b → cond b here later ≡ Some line → AreWords G (first ∷ words) line = elim [
      | true ↦ λ e k.
          let same : first ≡ word = (bytes_eq-Decides first word).0 e in
          let P : List ℕ → Type 0 = λ w. AreWords G (w ∷ words) line in
          rw same (f k)
      | false ↦ λ e k. g k
    ] in
    go (bytes_eq first word) refl h

-- the words of a line made of what its further words say
pub made_words : {L A : Type 0} (G : Grammar L) (word : List ℕ) (mk : A → L) (own : A → List (List ℕ)) (IsIn : A → Type 0) → ((a : A) → IsIn a → AreWords G (word ∷ own a) (mk a)) → (words : List (List ℕ)) (line : L) (o : Option A) → ((a : A) → o ≡ Some a → (words ≡ own a) × IsIn a) → option_map mk o ≡ Some line → AreWords G (word ∷ words) line
made_words {L} {A} G word mk own IsIn fits words line o says h =
    let (a, e, k) = map_some mk o line h in
    let (s, r) = says a e in
    let P : List (List ℕ) → Type 0 = λ ws. AreWords G (word ∷ ws) (mk a) in
    let there : AreWords G (word ∷ words) (mk a) = rw s (fits a r) in
    same_line G (word ∷ words) (mk a) line k there

-- a form of one line, with no further word, with one, with two, with three and with four
pub no_form : {L : Type 0} (G : Grammar L) (word : List ℕ) (made : L) → AreWords G (word ∷ []) made → (first : List ℕ) (words : List (List ℕ)) (line : L) (later : Option L) → (later ≡ Some line → AreWords G (first ∷ words) line) → cond (bytes_eq first word) (option_map (λ _. made) (no_words words)) later ≡ Some line → AreWords G (first ∷ words) line
no_form G word made fits first words line later = form G word first words line (option_map (λ _. made) (no_words words)) later (made_words G word (λ _. made) (λ _. []) (λ _. Unit {0}) (λ _ _. fits) words line (no_words words) (none words))
  where
    none : (words : List (List ℕ)) (u : Unit {0}) → no_words words ≡ Some u → (words ≡ []) × Unit {0}
    none [] u h = (refl, tt)
    none (w ∷ words) u h = cc

pub one_form : {L A : Type 0} (G : Grammar L) (K : Kind A) (word : List ℕ) (mk : A → L) → ((a : A) → K.IsIn a → AreWords G (word ∷ K.word a ∷ []) (mk a)) → (first : List ℕ) (words : List (List ℕ)) (line : L) (later : Option L) → (later ≡ Some line → AreWords G (first ∷ words) line) → cond (bytes_eq first word) (option_map mk (option_and_then K.says (one_word words))) later ≡ Some line → AreWords G (first ∷ words) line
one_form G K word mk fits first words line later = form G word first words line (option_map mk (option_and_then K.says (one_word words))) later (made_words G word mk (λ a. K.word a ∷ []) K.IsIn fits words line (option_and_then K.says (one_word words)) (one_spelled K words))

pub two_form : {L A B : Type 0} (G : Grammar L) (J : Kind A) (K : Kind B) (word : List ℕ) (mk : A × B → L) → ((p : A × B) → J.IsIn p.0 × K.IsIn p.1 → AreWords G (word ∷ J.word p.0 ∷ K.word p.1 ∷ []) (mk p)) → (first : List ℕ) (words : List (List ℕ)) (line : L) (later : Option L) → (later ≡ Some line → AreWords G (first ∷ words) line) → cond (bytes_eq first word) (option_map mk (option_and_then (λ w. option_zip (J.says w.0) (K.says w.1)) (two_words words))) later ≡ Some line → AreWords G (first ∷ words) line
two_form G J K word mk fits first words line later = form G word first words line (option_map mk (option_and_then (λ w. option_zip (J.says w.0) (K.says w.1)) (two_words words))) later (made_words G word mk (λ p. J.word p.0 ∷ K.word p.1 ∷ []) (λ p. J.IsIn p.0 × K.IsIn p.1) fits words line (option_and_then (λ w. option_zip (J.says w.0) (K.says w.1)) (two_words words)) (two_spelled J K words))

pub three_form : {L A B C : Type 0} (G : Grammar L) (J : Kind A) (K : Kind B) (M : Kind C) (word : List ℕ) (mk : A × (B × C) → L) → ((p : A × (B × C)) → J.IsIn p.0 × K.IsIn p.1.0 × M.IsIn p.1.1 → AreWords G (word ∷ J.word p.0 ∷ K.word p.1.0 ∷ M.word p.1.1 ∷ []) (mk p)) → (first : List ℕ) (words : List (List ℕ)) (line : L) (later : Option L) → (later ≡ Some line → AreWords G (first ∷ words) line) → cond (bytes_eq first word) (option_map mk (option_and_then (λ w. option_zip (J.says w.0) (option_zip (K.says w.1) (M.says w.2))) (three_words words))) later ≡ Some line → AreWords G (first ∷ words) line
three_form G J K M word mk fits first words line later = form G word first words line (option_map mk (option_and_then (λ w. option_zip (J.says w.0) (option_zip (K.says w.1) (M.says w.2))) (three_words words))) later (made_words G word mk (λ p. J.word p.0 ∷ K.word p.1.0 ∷ M.word p.1.1 ∷ []) (λ p. J.IsIn p.0 × K.IsIn p.1.0 × M.IsIn p.1.1) fits words line (option_and_then (λ w. option_zip (J.says w.0) (option_zip (K.says w.1) (M.says w.2))) (three_words words)) (three_spelled J K M words))

pub four_form : {L A B C D : Type 0} (G : Grammar L) (I : Kind A) (J : Kind B) (K : Kind C) (M : Kind D) (word : List ℕ) (mk : A × (B × (C × D)) → L) → ((p : A × (B × (C × D))) → I.IsIn p.0 × J.IsIn p.1.0 × K.IsIn p.1.1.0 × M.IsIn p.1.1.1 → AreWords G (word ∷ I.word p.0 ∷ J.word p.1.0 ∷ K.word p.1.1.0 ∷ M.word p.1.1.1 ∷ []) (mk p)) → (first : List ℕ) (words : List (List ℕ)) (line : L) (later : Option L) → (later ≡ Some line → AreWords G (first ∷ words) line) → cond (bytes_eq first word) (option_map mk (option_and_then (λ w. option_zip (I.says w.0) (option_zip (J.says w.1) (option_zip (K.says w.2) (M.says w.3)))) (four_words words))) later ≡ Some line → AreWords G (first ∷ words) line
four_form G I J K M word mk fits first words line later = form G word first words line (option_map mk (option_and_then (λ w. option_zip (I.says w.0) (option_zip (J.says w.1) (option_zip (K.says w.2) (M.says w.3)))) (four_words words))) later (made_words G word mk (λ p. I.word p.0 ∷ J.word p.1.0 ∷ K.word p.1.1.0 ∷ M.word p.1.1.1 ∷ []) (λ p. I.IsIn p.0 × J.IsIn p.1.0 × K.IsIn p.1.1.0 × M.IsIn p.1.1.1) fits words line (option_and_then (λ w. option_zip (I.says w.0) (option_zip (J.says w.1) (option_zip (K.says w.2) (M.says w.3)))) (four_words words)) (four_spelled I J K M words))
