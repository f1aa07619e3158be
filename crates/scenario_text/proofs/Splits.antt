-- Words without a space, joined and cut again.
use Rattle.std.proofs.Common.{◌≡◌, ℕ, ◌==◌, ◌-◌, Bool, true, false, not, List, [], ◌∷◌, ◌≢◌, length, take, drop, position, Some, None, refl, ap, sym, ◌∙◌, arith}
use Rattle.std.specs.Char.{is_ascii_digit}
use Rattle.std.specs.List.{position_or_len, list_all, All, join_with_byte}
use Rattle.std.specs.Str.{all_ascii_digits}
use Rattle.std.proofs.lemmas.Bool.{and_parts}
use Rattle.std.proofs.lemmas.List.Elements.{All-nil, All-cons, All-from_get_or}
use Rattle.std.proofs.Math.Seq.{drop-length}
use Rattle.std.proofs.lemmas.List.{drop_more, take_rest}
use Rattle.std.proofs.lemmas.List.Sums.{fails_before_first}
use Rattle.std.proofs.lemmas.List.Splits.{slice_split_none, slice_split_at, slice_split_first}
use Rattle.std.proofs.lemmas.Bool.Decides.{nat_tests}
use Rattle.crash_base.proofs.Positions.{position-some, position-none}
use Rattle.crash_base.specs.Names.{is_name_byte}
use Rattle.scenario_text.specs.Words.{words_of, words_after, no_words}

-- a space
abbrev space : ℕ → Bool
space b = b == 32

-- a text without a space is its one word
pub unspaced : (text : List ℕ) → None ≡ position space text → words_of text ≡ text ∷ []
unspaced text h = slice_split_none space text (All-from_get_or (λ b. space b ≡ false) text 0 (λ i few. let n = position-none space text (sym h) in fails_before_first space text i 0 (omega arith)))

-- and else what comes before the first space is its first word
pub spaced : (text : List ℕ) (i : ℕ) → Some i ≡ position space text → words_of text ≡ take i text ∷ words_after (drop i text)
spaced text i h =
    let r = position-some space text i (sym h) in
    let first = slice_split_first space text 0 r.1 in
    let P : ℕ → Type 0 = λ n. words_of text ≡ take n text ∷ words_after (drop n text) in
    let n = position_or_len space text in
    let whole : P n = first ∙ ap (λ left. take n text ∷ words_after left) (sym (drop_more text n 0 r.1)) in
    rw r.0 whole

-- a text has a word
some_words : (text : List ℕ) → (word : List ℕ) × (words : List (List ℕ)) × (words_of text ≡ word ∷ words)
some_words [] = ([], [], refl)
some_words (b ∷ bs) =
    let go : (d : Bool) → space b ≡ d → (word : List ℕ) × (words : List (List ℕ)) × (words_of (b ∷ bs) ≡ word ∷ words) = elim [
      | true ↦ λ e. ([], words_of bs, rw e refl)
      | false ↦ λ e. let (word, words, h) = some_words bs in (b ∷ word, words, rw (e, h) refl)
    ] in
    go (space b) refl

-- there is one after a space
pub no_words_no : (left : List ℕ) → length left ≢ 0 → no_words (words_after left) ≡ None
no_words_no [] h = absurd (h refl)
no_words_no (b ∷ text) h = let (word, words, e) = some_words text in rw e refl

-- no byte of the word is a space
abbrev pub is_whole : List ℕ → Bool
is_whole word = list_all (λ b. not (b == 32)) word

-- the same of each of these words
abbrev pub AreWhole : List (List ℕ) → Type 0
AreWhole [] = Unit {0}
AreWhole (word ∷ words) = (is_whole word ≡ true) × AreWhole words

no_space : (word : List ℕ) → is_whole word ≡ true → All (λ b. space b ≡ false) word
no_space [] h = All-nil (λ b. space b ≡ false)
no_space (b ∷ bs) h =
    let g = and_parts (not (b == 32)) (is_whole bs) h in
    let here : space b ≡ false = grind (arith, nat_tests) in
    All-cons (λ b. space b ≡ false) b bs here (no_space bs g.1)

-- words joined by one space are the words of what they make
pub words_joined : (word : List ℕ) (words : List (List ℕ)) → is_whole word ≡ true → AreWhole words → words_of (join_with_byte 32 (word ∷ words)) ≡ word ∷ words
words_joined word [] h hs = slice_split_none space word (no_space word h)
words_joined word (next ∷ words) h (k, ks) = slice_split_at space word 32 (join_with_byte 32 (next ∷ words)) (no_space word h) refl ∙ ap (λ ws. word ∷ ws) (words_joined next words k ks)

-- another byte before a word, which is no space either
pub whole_more : (b : ℕ) (bs : List ℕ) → (b == 32) ≡ false → is_whole bs ≡ true → is_whole (b ∷ bs) ≡ true
whole_more b bs h k = rw (h, k) refl

-- nor has a word whose bytes pass a test that a space fails
pub tested_whole : (test : ℕ → Bool) → ((b : ℕ) → test b ≡ true → (b == 32) ≡ false) → (word : List ℕ) → list_all test word ≡ true → is_whole word ≡ true
tested_whole test other [] h = refl
tested_whole test other (b ∷ bs) h =
    let g = and_parts (test b) (list_all test bs) h in
    whole_more b bs (other b g.0) (tested_whole test other bs g.1)

-- digits have no space
pub digits_whole : (ds : List ℕ) → all_ascii_digits ds ≡ true → is_whole ds ≡ true
digits_whole ds h = tested_whole is_ascii_digit (λ b d. grind (arith, nat_tests)) ds h

-- nor do bytes of a name
pub name_whole : (word : List ℕ) → list_all is_name_byte word ≡ true → is_whole word ≡ true
name_whole word h = tested_whole is_name_byte (λ b n. grind (arith, nat_tests)) word h

-- nothing is left past the end
pub none_left : (xs : List ℕ) → take (length xs - length xs) (drop (length xs) xs) ≡ []
none_left xs = take_rest xs (length xs) ∙ drop-length xs
