-- Lines about sessions: what words read as, they spell, and what spells one, is read as it.
use Rattle.std.proofs.Common.{◌≡◌, ◌⊎◌, inl, inr, ℕ, List, [], ◌∷◌, Option, Some, None, codes, refl}
use Rattle.std.specs.Option.{option_map, option_or}
use Rattle.scenario_text.specs.declared.session_line.SessionLine.{SessionLine}
use Rattle.scenario_text.specs.declared.session_line.SessionLine.TheVariants.{Now, Write, Fetch, Cookie, Present, Lose, Mute, Repeat, Crash, Sweep, Values, Windows, Hold, Free}
use Rattle.scenario_text.specs.declared.line.Line.{Line}
use Rattle.scenario_text.specs.declared.line.Line.TheVariants.{Session}
use Rattle.scenario_text.specs.Arguments.{one_brick, brick_and_number}
use Rattle.scenario_text.specs.SessionReading.{session_line, sweep_line}
use Rattle.scenario_text.specs.SessionSpelling.{IsSessionInRange, words_of_session_line}
use Rattle.scenario_text.proofs.WordKinds.{numbers, bricks, keys, texts, outcomes, bytes, one_spelled, two_spelled}
use Rattle.scenario_text.proofs.LineForms.{Grammar, AreWords, form, made_words, no_form, one_form, two_form}
use Rattle.scenario_text.proofs.LineReads.{IsRead, no_read, one_read, two_read}

abbrev pub sessions : Grammar SessionLine
sessions = record { IsIn = IsSessionInRange; words = words_of_session_line }

-- one of two that are tried in turn
pub one_of : {A : Type 0} (o p : Option A) (y : A) → option_or o p ≡ Some y → (o ≡ Some y) ⊎ (p ≡ Some y)
one_of None p y h = inr h
one_of (Some x) p y h = inl h

-- a sweep has a brick, or a brick and a moment
sweep_spelled : (words : List (List ℕ)) (line : SessionLine) → sweep_line words ≡ Some line → AreWords sessions (codes "sweep" ∷ words) line
sweep_spelled words line h = go (one_of (option_map (λ b. Sweep b None) (one_brick words)) (option_map (λ p. Sweep p.0 (Some p.1)) (brick_and_number words)) line h)
  where
    go : (option_map (λ b. Sweep b None) (one_brick words) ≡ Some line) ⊎ (option_map (λ p. Sweep p.0 (Some p.1)) (brick_and_number words) ≡ Some line) → AreWords sessions (codes "sweep" ∷ words) line
    go (inl k) = made_words sessions (codes "sweep") (λ b. Sweep b None) (λ b. bricks.word b ∷ []) bricks.IsIn (λ _ r. (r, refl)) words line (one_brick words) (one_spelled bricks words) k
    go (inr k) = made_words sessions (codes "sweep") (λ p. Sweep p.0 (Some p.1)) (λ p. bricks.word p.0 ∷ numbers.word p.1 ∷ []) (λ p. bricks.IsIn p.0 × numbers.IsIn p.1) (λ _ r. (r, refl)) words line (brick_and_number words) (two_spelled bricks numbers words) k

-- what words read as, they spell
pub session_spelled : (first : List ℕ) (words : List (List ℕ)) (line : SessionLine) → session_line first words ≡ Some line → AreWords sessions (first ∷ words) line
session_spelled first words line h =
    one_form sessions numbers (codes "now") (λ a. Now a) (λ _ r. (r, refl)) first words line _ (
    two_form sessions keys bytes (codes "write") (λ p. Write p.0 p.1) (λ _ r. (r, refl)) first words line _ (
    one_form sessions keys (codes "fetch") (λ a. Fetch a) (λ _ r. (r, refl)) first words line _ (
    one_form sessions keys (codes "cookie") (λ a. Cookie a) (λ _ r. (r, refl)) first words line _ (
    one_form sessions texts (codes "present") (λ a. Present a) (λ _ r. (r, refl)) first words line _ (
    two_form sessions bricks numbers (codes "lose") (λ p. Lose p.0 p.1) (λ _ r. (r, refl)) first words line _ (
    two_form sessions bricks numbers (codes "mute") (λ p. Mute p.0 p.1) (λ _ r. (r, refl)) first words line _ (
    two_form sessions bricks numbers (codes "repeat") (λ p. Repeat p.0 p.1) (λ _ r. (r, refl)) first words line _ (
    one_form sessions bricks (codes "crash") (λ a. Crash a) (λ _ r. (r, refl)) first words line _ (
    form sessions (codes "sweep") first words line _ _ (sweep_spelled words line) (
    one_form sessions bricks (codes "values") (λ a. Values a) (λ _ r. (r, refl)) first words line _ (
    no_form sessions (codes "windows") Windows (tt, refl) first words line _ (
    one_form sessions bricks (codes "hold") (λ a. Hold a) (λ _ r. (r, refl)) first words line _ (
    two_form sessions bricks outcomes (codes "free") (λ p. Free p.0 p.1) (λ _ r. (r.0, refl)) first words line _ (
    λ k. cc)))))))))))))) h

-- what is read, as a line
abbrev as_line : {A : Type 0} → (A → SessionLine) → Option A → Option Line
as_line mk o = option_or (option_map (λ s. Session s) (option_map mk o)) None

-- a line about sessions is read from its spelling
pub session_read : (line : SessionLine) → IsSessionInRange line → IsRead (Session line)
session_read (Now moment) h = one_read numbers (Session (Now moment)) (codes "now") moment h (as_line (λ a. Now a)) refl refl refl refl refl
session_read (Write key value) (h, k) = two_read keys bytes (Session (Write key value)) (codes "write") key value h k (as_line (λ p. Write p.0 p.1)) refl refl refl refl refl
session_read (Fetch key) h = one_read keys (Session (Fetch key)) (codes "fetch") key h (as_line (λ a. Fetch a)) refl refl refl refl refl
session_read (Cookie key) h = one_read keys (Session (Cookie key)) (codes "cookie") key h (as_line (λ a. Cookie a)) refl refl refl refl refl
session_read (Present text) h = one_read texts (Session (Present text)) (codes "present") text h (as_line (λ a. Present a)) refl refl refl refl refl
session_read (Lose brick count) (h, k) = two_read bricks numbers (Session (Lose brick count)) (codes "lose") brick count h k (as_line (λ p. Lose p.0 p.1)) refl refl refl refl refl
session_read (Mute brick count) (h, k) = two_read bricks numbers (Session (Mute brick count)) (codes "mute") brick count h k (as_line (λ p. Mute p.0 p.1)) refl refl refl refl refl
session_read (Repeat brick index) (h, k) = two_read bricks numbers (Session (Repeat brick index)) (codes "repeat") brick index h k (as_line (λ p. Repeat p.0 p.1)) refl refl refl refl refl
session_read (Crash brick) h = one_read bricks (Session (Crash brick)) (codes "crash") brick h (as_line (λ a. Crash a)) refl refl refl refl refl
session_read (Sweep brick None) h = one_read bricks (Session (Sweep brick None)) (codes "sweep") brick h (λ o. option_or (option_map (λ s. Session s) (option_or (option_map (λ b. Sweep b None) o) None)) None) refl refl refl refl refl
session_read (Sweep brick (Some moment)) (h, k) = two_read bricks numbers (Session (Sweep brick (Some moment))) (codes "sweep") brick moment h k (as_line (λ p. Sweep p.0 (Some p.1))) refl refl refl refl refl
session_read (Values brick) h = one_read bricks (Session (Values brick)) (codes "values") brick h (as_line (λ a. Values a)) refl refl refl refl refl
session_read Windows h = no_read (Session Windows) (codes "windows") refl refl refl refl
session_read (Hold brick) h = one_read bricks (Session (Hold brick)) (codes "hold") brick h (as_line (λ a. Hold a)) refl refl refl refl refl
session_read (Free brick freed) h = two_read bricks outcomes (Session (Free brick freed)) (codes "free") brick freed h tt (as_line (λ p. Free p.0 p.1)) refl refl refl refl refl
