-- Kinds of words, and what words of these kinds say together.
use Rattle.std.proofs.Common.{◌≡◌, ℕ, true, List, [], ◌∷◌, Option, Some, None, option_and_then, refl, ap, arith}
use Rattle.std.specs.Fmt.{decimal}
use Rattle.std.specs.List.{list_all}
use Rattle.std.specs.Option.{option_zip}
use Rattle.std.proofs.lemmas.Bool.{and_parts}
use Rattle.crash_base.specs.Names.{is_name_byte}
use Rattle.scenario_text.specs.declared.line.TheConstants.{MAX_CALLER}
use Rattle.scenario_text.specs.declared.seat_line.TheConstants.{MAX_SEAT}
use Rattle.scenario_text.specs.declared.session_line.TheConstants.{MAX_KEY}
use Rattle.scenario_text.specs.declared.session_line.Freed.{Freed}
use Rattle.crash_base.specs.declared.fault_plans.FaultKind.{FaultKind}
use Rattle.scenario_text.specs.declared.head_line.CureLevel.{CureLevel}
use Rattle.scenario_text.specs.Fields.{name_of, decimal_number, brick_number, caller_number, key_number, seat_number, hex_bytes, text_of, freed_of, kind_of, level_of}
use Rattle.scenario_text.specs.Texts.{hex_text}
use Rattle.scenario_text.specs.FieldSpelling.{IsName, IsNumber, IsBrick, IsCaller, IsSessionKey, IsSeat, IsText, IsKind, AreBytes, caller_word, key_word, seat_word, freed_word, kind_word, level_word}
use Rattle.scenario_text.specs.Words.{one_word, two_words, three_words, four_words}
use Rattle.scenario_text.proofs.OneWord.{number_read, number_spelled, brick_read, brick_spelled, decimal_digits, lettered_read, lettered_spelled, is_name_read, name_read, name_spelled}
use Rattle.scenario_text.proofs.Splits.{is_whole, whole_more, digits_whole, name_whole}
use Rattle.scenario_text.proofs.SessionWords.{text_read, text_spelled, text_whole, freed_read, freed_spelled, freed_whole}
use Rattle.scenario_text.proofs.FaultWords.{kind_read, kind_spelled, kind_whole, level_read, level_spelled, level_whole}
use Rattle.scenario_text.proofs.Hexadecimal.{hex_spelled, hex_read, hex_whole}

-- A kind of words: what one says, the word of what it says, and what that may be. Each of both follows from the other.
pub record Kind (A : Type 0) : Type 1 where
  pub says : List ℕ → Option A
  pub word : A → List ℕ
  pub IsIn : A → Type 0
  pub spelled : (w : List ℕ) (a : A) → says w ≡ Some a → (w ≡ word a) × IsIn a
  pub read : (a : A) → IsIn a → says (word a) ≡ Some a
  pub whole : (a : A) → IsIn a → is_whole (word a) ≡ true

pub named_whole : (name : List ℕ) → IsName name → is_whole name ≡ true
named_whole name h = name_whole name (and_parts _ (list_all is_name_byte name) (is_name_read name h)).1

pub number_whole : (n : ℕ) → IsNumber n → is_whole (decimal n) ≡ true
number_whole n h = digits_whole (decimal n) (decimal_digits n h)

pub brick_whole : (n : ℕ) → IsBrick n → is_whole (decimal n) ≡ true
brick_whole n (low, small) = number_whole n small

pub caller_whole : (c : ℕ) → IsCaller c → is_whole (caller_word c) ≡ true
caller_whole c (low, high) = whole_more 99 (decimal c) refl (number_whole c (omega arith))

pub key_whole : (k : ℕ) → IsSessionKey k → is_whole (key_word k) ≡ true
key_whole k (low, high) = whole_more 107 (decimal k) refl (number_whole k (omega arith))

pub seat_whole : (s : ℕ) → IsSeat s → is_whole (seat_word s) ≡ true
seat_whole s (low, high) = whole_more 115 (decimal s) refl (number_whole s (omega arith))

abbrev pub names : Kind (List ℕ)
names = record { says = name_of; word = λ n. n; IsIn = IsName; spelled = name_spelled; read = name_read; whole = named_whole }

abbrev pub numbers : Kind ℕ
numbers = record { says = decimal_number; word = decimal; IsIn = IsNumber; spelled = number_spelled; read = number_read; whole = number_whole }

abbrev pub bricks : Kind ℕ
bricks = record { says = brick_number; word = decimal; IsIn = IsBrick; spelled = brick_spelled; read = brick_read; whole = brick_whole }

abbrev pub callers : Kind ℕ
callers = record { says = caller_number; word = caller_word; IsIn = IsCaller; spelled = lettered_spelled 99 MAX_CALLER; read = lettered_read 99 MAX_CALLER (omega arith); whole = caller_whole }

abbrev pub keys : Kind ℕ
keys = record { says = key_number; word = key_word; IsIn = IsSessionKey; spelled = lettered_spelled 107 MAX_KEY; read = lettered_read 107 MAX_KEY (omega arith); whole = key_whole }

abbrev pub seats : Kind ℕ
seats = record { says = seat_number; word = seat_word; IsIn = IsSeat; spelled = lettered_spelled 115 MAX_SEAT; read = lettered_read 115 MAX_SEAT (omega arith); whole = seat_whole }

abbrev pub texts : Kind (List ℕ)
texts = record { says = text_of; word = λ t. t; IsIn = IsText; spelled = text_spelled; read = text_read; whole = text_whole }

abbrev pub outcomes : Kind Freed
outcomes = record { says = freed_of; word = freed_word; IsIn = λ _. Unit {0}; spelled = freed_spelled; read = λ f _. freed_read f; whole = λ f _. freed_whole f }

abbrev pub faults : Kind FaultKind
faults = record { says = kind_of; word = kind_word; IsIn = IsKind; spelled = kind_spelled; read = kind_read; whole = kind_whole }

abbrev pub levels : Kind CureLevel
levels = record { says = level_of; word = level_word; IsIn = λ _. Unit {0}; spelled = level_spelled; read = λ l _. level_read l; whole = λ l _. level_whole l }

abbrev pub bytes : Kind (List ℕ)
bytes = record { says = hex_bytes; word = hex_text; IsIn = AreBytes; spelled = hex_spelled; read = hex_read; whole = λ a h. hex_whole a }

-- words that say something, where one is wanted
pub one_spelled : {A : Type 0} (K : Kind A) (words : List (List ℕ)) (a : A) → option_and_then K.says (one_word words) ≡ Some a → (words ≡ K.word a ∷ []) × K.IsIn a
one_spelled K [] a h = cc
one_spelled K (w ∷ []) a h = let g = K.spelled w a h in (ap (λ v. v ∷ []) g.0, g.1)
one_spelled K (w ∷ more ∷ words) a h = cc

both_some : {A B : Type 0} (o : Option A) (q : Option B) (p : A × B) → option_zip o q ≡ Some p → (o ≡ Some p.0) × (q ≡ Some p.1)
both_some None q p h = cc
both_some (Some x) None p h = cc
both_some (Some x) (Some y) p h = let e : (x, y) ≡ p = cc in (ap (λ r. Some r.0) e, ap (λ r. Some r.1) e)

-- where two are wanted
pub two_spelled : {A B : Type 0} (K : Kind A) (L : Kind B) (words : List (List ℕ)) (p : A × B) → option_and_then (λ w. option_zip (K.says w.0) (L.says w.1)) (two_words words) ≡ Some p → (words ≡ K.word p.0 ∷ L.word p.1 ∷ []) × (K.IsIn p.0 × L.IsIn p.1)
two_spelled K L [] p h = cc
two_spelled K L (v ∷ []) p h = cc
two_spelled K L (v ∷ w ∷ []) p h =
    let (e, f) = both_some (K.says v) (L.says w) p h in
    let (a, i) = K.spelled v p.0 e in
    let (b, j) = L.spelled w p.1 f in
    (rw (a, b) refl, (i, j))
two_spelled K L (v ∷ w ∷ more ∷ words) p h = cc

-- where three are
pub three_spelled : {A B C : Type 0} (K : Kind A) (L : Kind B) (M : Kind C) (words : List (List ℕ)) (p : A × (B × C)) → option_and_then (λ w. option_zip (K.says w.0) (option_zip (L.says w.1) (M.says w.2))) (three_words words) ≡ Some p → (words ≡ K.word p.0 ∷ L.word p.1.0 ∷ M.word p.1.1 ∷ []) × (K.IsIn p.0 × L.IsIn p.1.0 × M.IsIn p.1.1)
three_spelled K L M [] p h = cc
three_spelled K L M (u ∷ []) p h = cc
three_spelled K L M (u ∷ v ∷ []) p h = cc
three_spelled K L M (u ∷ v ∷ w ∷ []) p h =
    let (e, more) = both_some (K.says u) (option_zip (L.says v) (M.says w)) p h in
    let (f, g) = both_some (L.says v) (M.says w) p.1 more in
    let (x, i) = K.spelled u p.0 e in
    let (y, j) = L.spelled v p.1.0 f in
    let (z, k) = M.spelled w p.1.1 g in
    (rw (x, y, z) refl, (i, j, k))
three_spelled K L M (u ∷ v ∷ w ∷ more ∷ words) p h = cc

-- where four are
pub four_spelled : {A B C D : Type 0} (J : Kind A) (K : Kind B) (L : Kind C) (M : Kind D) (words : List (List ℕ)) (p : A × (B × (C × D))) → option_and_then (λ w. option_zip (J.says w.0) (option_zip (K.says w.1) (option_zip (L.says w.2) (M.says w.3)))) (four_words words) ≡ Some p → (words ≡ J.word p.0 ∷ K.word p.1.0 ∷ L.word p.1.1.0 ∷ M.word p.1.1.1 ∷ []) × (J.IsIn p.0 × K.IsIn p.1.0 × L.IsIn p.1.1.0 × M.IsIn p.1.1.1)
four_spelled J K L M [] p h = cc
four_spelled J K L M (t ∷ []) p h = cc
four_spelled J K L M (t ∷ u ∷ []) p h = cc
four_spelled J K L M (t ∷ u ∷ v ∷ []) p h = cc
four_spelled J K L M (t ∷ u ∷ v ∷ w ∷ []) p h =
    let (d, some) = both_some (J.says t) (option_zip (K.says u) (option_zip (L.says v) (M.says w))) p h in
    let (e, more) = both_some (K.says u) (option_zip (L.says v) (M.says w)) p.1 some in
    let (f, g) = both_some (L.says v) (M.says w) p.1.1 more in
    let (a, i) = J.spelled t p.0 d in
    let (x, j) = K.spelled u p.1.0 e in
    let (y, k) = L.spelled v p.1.1.0 f in
    let (z, l) = M.spelled w p.1.1.1 g in
    (rw (a, x, y, z) refl, (i, j, k, l))
four_spelled J K L M (t ∷ u ∷ v ∷ w ∷ more ∷ words) p h = cc

-- and what four words are
pub four_are : (words : List (List ℕ)) (w : List ℕ × List ℕ × List ℕ × List ℕ) → four_words words ≡ Some w → words ≡ w.0 ∷ w.1 ∷ w.2 ∷ w.3 ∷ []
four_are [] w h = cc
four_are (a ∷ []) w h = cc
four_are (a ∷ b ∷ []) w h = cc
four_are (a ∷ b ∷ c ∷ []) w h = cc
four_are (a ∷ b ∷ c ∷ d ∷ []) w h = let e : (a, b, c, d) ≡ w = cc in ap (λ w. w.0 ∷ w.1 ∷ w.2 ∷ w.3 ∷ []) e
four_are (a ∷ b ∷ c ∷ d ∷ more ∷ words) w h = cc
