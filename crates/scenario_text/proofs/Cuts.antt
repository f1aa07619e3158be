-- The lines of a text.
use Rattle.std.proofs.Common.{◌≡◌, ◌≢◌, ◌↔◌, ℕ, Bool, true, false, cond, List, [], ◌∷◌, ◌++◌, length, take, drop, ◌==◌, subst, All, inl, inr, append_assoc, refl, ap, sym, ◌∙◌, arith}
use Rattle.std.specs.List.{onto_first}
use Rattle.std.proofs.lemmas.List.{append-nil, take_at, drop_at}
use Rattle.std.proofs.lemmas.List.Elements.{All-nil, All-cons, All-head, All-tail, All-same, All-take, All-drop}
use Rattle.std.proofs.lemmas.Bool.Decides.{nat_tests}
use Rattle.scenario_text.specs.Cutting.{lines_of, IsOneLine, text_of_lines, EndsWithoutFeed, ConsistsOf}

-- a line feed
abbrev pub feeds : ℕ → Bool
feeds b = b == 10

not_feed : (b : ℕ) → b ≢ 10 → feeds b ≡ false
not_feed b h = grind (arith, nat_tests)

-- a first byte goes onto the only line
onto_one : (x : ℕ) (xs : List ℕ) → (xs ≢ [] → lines_of xs ≡ xs ∷ []) → onto_first x (lines_of xs) ≡ (x ∷ xs) ∷ []
onto_one x [] h = refl
onto_one x (y ∷ ys) h = ap (onto_first x) (h (λ e. cc))

-- a line comes before the lines after its line feed
pub line_fed : (line rest : List ℕ) → IsOneLine line → lines_of (line ++ 10 ∷ rest) ≡ line ∷ lines_of rest
line_fed [] rest h = refl
line_fed (b ∷ bs) rest h =
    let other : feeds b ≡ false = not_feed b (All-head (λ b. b ≢ 10) b bs h) in
    rw (other, line_fed bs rest (All-tail (λ b. b ≢ 10) b bs h)) refl

-- lines with their line feeds, before a rest
pub lines_fed : (lines : List (List ℕ)) (rest : List ℕ) → All IsOneLine lines → lines_of (text_of_lines lines ++ rest) ≡ lines ++ lines_of rest
lines_fed [] rest h = refl
lines_fed (line ∷ lines) rest h =
    let first : text_of_lines (line ∷ lines) ++ rest ≡ line ++ 10 ∷ (text_of_lines lines ++ rest) = append_assoc (line ++ 10 ∷ []) (text_of_lines lines) rest ∙ append_assoc line (10 ∷ []) (text_of_lines lines ++ rest) in
    ap lines_of first ∙ line_fed line (text_of_lines lines ++ rest) (All-head IsOneLine line lines h) ∙ ap (λ ls. line ∷ ls) (lines_fed lines rest (All-tail IsOneLine line lines h))

-- a text without a line feed is its one line
pub line_unfed : (line : List ℕ) → IsOneLine line → line ≢ [] → lines_of line ≡ line ∷ []
line_unfed [] h ne = absurd (ne refl)
line_unfed (b ∷ bs) h ne =
    let other : feeds b ≡ false = not_feed b (All-head (λ b. b ≢ 10) b bs h) in
    rw other (onto_one b bs (line_unfed bs (All-tail (λ b. b ≢ 10) b bs h)))

-- what holds of each element of two lists together holds of each of the first, and of the second
pub all_left : {X : Type 0} (P : X → Type 0) (xs ys : List X) → All P (xs ++ ys) → All P xs
all_left P xs ys h = All-same P xs (take (length xs) (xs ++ ys)) (sym (take_at xs ys (length xs) refl)) (All-take P (length xs) (xs ++ ys) h)

all_right : {X : Type 0} (P : X → Type 0) (xs ys : List X) → All P (xs ++ ys) → All P ys
all_right P xs ys h = All-same P ys (drop (length xs) (xs ++ ys)) (sym (drop_at xs ys (length xs) refl)) (All-drop P (length xs) (xs ++ ys) h)

-- a text is cut into the lines of which it consists
consisting : (text : List ℕ) (lines : List (List ℕ)) → ConsistsOf text lines → lines_of text ≡ lines
consisting text lines (plain, inl e) =
    let whole : text ≡ text_of_lines lines ++ [] = e ∙ sym (append-nil (text_of_lines lines)) in
    ap lines_of whole ∙ lines_fed lines [] plain ∙ append-nil lines
consisting text lines (plain, inr (before, last, same, some, e)) =
    let each : All IsOneLine (before ++ last ∷ []) = All-same IsOneLine (before ++ last ∷ []) lines (sym same) plain in
    let one : IsOneLine last = All-head IsOneLine last [] (all_right IsOneLine before (last ∷ []) each) in
    ap lines_of e ∙ lines_fed before last (all_left IsOneLine before (last ∷ []) each) ∙ ap (λ ls. before ++ ls) (line_unfed last one some) ∙ sym same

-- lines with a last one are some
no_last : (before : List (List ℕ)) (last : List ℕ) → [] ≡ before ++ last ∷ [] → ⊥
no_last [] last e = cc
no_last (line ∷ before) last e = cc

-- the last line of those that a byte goes onto the first of
last_more : (b : ℕ) (bs line : List ℕ) (more before : List (List ℕ)) (last : List ℕ) → line ∷ more ≡ before ++ last ∷ [] → last ≢ [] → bs ≡ text_of_lines before ++ last → EndsWithoutFeed (b ∷ bs) ((b ∷ line) ∷ more)
last_more b bs line more [] last same some e = ([], b ∷ last, cc, (λ f. cc), ap (λ r. b ∷ r) e)
last_more b bs line more (first ∷ before) last same some e = ((b ∷ first) ∷ before, last, cc, some, ap (λ r. b ∷ r) e)

-- a byte before a text goes onto its first line
first_more : (b : ℕ) (bs : List ℕ) (lines : List (List ℕ)) → b ≢ 10 → ConsistsOf bs lines → ConsistsOf (b ∷ bs) (onto_first b lines)
first_more b bs [] other (plain, inl e) = (
  All-cons IsOneLine (b ∷ []) [] (All-cons (λ x. x ≢ 10) b [] other (All-nil (λ x. x ≢ 10))) plain,
  inr ([], b ∷ [], refl, (λ f. cc), ap (λ r. b ∷ r) e),
)
first_more b bs [] other (plain, inr (before, last, same, some, e)) = absurd (no_last before last same)
first_more b bs (line ∷ more) other (plain, text) =
    let one : IsOneLine (b ∷ line) = All-cons (λ x. x ≢ 10) b line other (All-head IsOneLine line more plain) in
    let each : All IsOneLine ((b ∷ line) ∷ more) = All-cons IsOneLine (b ∷ line) more one (All-tail IsOneLine line more plain) in
    elim text [
      | inl e ↦ (each, inl (ap (λ r. b ∷ r) e))
      | inr (before, last, same, some, e) ↦ (each, inr (last_more b bs line more before last same some e))
    ]

-- a line feed before a text ends an empty line
feed_more : (bs : List ℕ) (lines : List (List ℕ)) → ConsistsOf bs lines → ConsistsOf (10 ∷ bs) ([] ∷ lines)
feed_more bs lines (plain, text) =
    let each : All IsOneLine ([] ∷ lines) = All-cons IsOneLine [] lines (All-nil (λ x. x ≢ 10)) plain in
    elim text [
      | inl e ↦ (each, inl (ap (λ r. 10 ∷ r) e))
      | inr (before, last, same, some, e) ↦ (each, inr ([] ∷ before, last, ap (λ ls. [] ∷ ls) same, some, ap (λ r. 10 ∷ r) e))
    ]

pub is_feed : (b : ℕ) → feeds b ≡ true → b ≡ 10
is_feed b h = grind (arith, nat_tests)

pub no_feed : (b : ℕ) → feeds b ≡ false → b ≢ 10
no_feed b h = λ e. grind (arith, nat_tests)

-- and it consists of the lines into which it is cut
consists : (text : List ℕ) → ConsistsOf text (lines_of text)
consists [] = (All-nil IsOneLine, inl refl)
consists (b ∷ bs) =
    let h = consists bs in
    let go : (d : Bool) → feeds b ≡ d → ConsistsOf (b ∷ bs) (cond d ([] ∷ lines_of bs) (onto_first b (lines_of bs))) = elim [
      | true ↦ λ e. let P : ℕ → Type 0 = λ x. ConsistsOf (x ∷ bs) ([] ∷ lines_of bs) in subst P (sym (is_feed b e)) (feed_more bs (lines_of bs) h)
      | false ↦ λ e. first_more b bs (lines_of bs) (no_feed b e) h
    ] in
    go (feeds b) refl

-- the law of cutting
pub cut_law : (text : List ℕ) (lines : List (List ℕ)) → (lines_of text ≡ lines) ↔ ConsistsOf text lines
cut_law text lines =
    let P : List (List ℕ) → Type 0 = λ ls. ConsistsOf text ls in
    (λ e. subst P e (consists text), consisting text lines)
