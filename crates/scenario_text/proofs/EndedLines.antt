-- The lines of a text that have ended, and the beginning of the next one.
use Rattle.std.proofs.Common.{◌≡◌, ◌≢◌, ℕ, suc, ◌+◌, ◌-◌, ◌<◌, ◌≤◌, Bool, true, false, List, [], ◌∷◌, ◌++◌, length, length-append, add-one, take, drop, get_or, Some, None, All, append_assoc, append-nil, refl, ap, sym, subst, ◌∙◌, arith}
use Rattle.std.proofs.Math.Seq.{drop-cons}
use Rattle.std.specs.List.{position}
use Rattle.std.proofs.lemmas.List.{take_rest, length-take, get_or-take, take-append-drop}
use Rattle.std.proofs.lemmas.List.Elements.{All-nil, All-cons, All-head, All-tail, All-append}
use Rattle.std.proofs.lemmas.List.Quantifiers.{position-Some}
use Rattle.std.proofs.lemmas.List.Sums.{fails_before_first}
use Rattle.std.proofs.lemmas.Grind.{flat_map-append}
use Rattle.crash_base.proofs.Positions.{position-none}
use Rattle.scenario_text.specs.Cutting.{lines_of, IsOneLine, text_of_lines, IsCut}
use Rattle.scenario_text.proofs.Cuts.{feeds, is_feed, no_feed, line_fed, line_unfed, lines_fed, all_left}

-- where no line feed is found, there is none
pub unended : (xs : List ℕ) → None ≡ position feeds xs → IsOneLine xs
unended xs h = λ k d l. no_feed (get_or xs k d) (fails_before_first feeds xs k d (omega (arith, position-none feeds xs (sym h))))

-- and else a line comes before it
pub ended : (xs : List ℕ) (i : ℕ) → Some i ≡ position feeds xs → IsOneLine (take i xs) × (xs ≡ take i xs ++ 10 ∷ take (length xs - (i + 1)) (drop (i + 1) xs))
ended xs i h = (one_before, sym (take-append-drop i xs) ∙ ap (λ r. take i xs ++ r) rest)
  where
    found : (d : ℕ) → (i < length xs) × (feeds (get_or xs i d) ≡ true) × ((k : ℕ) → k < i → feeds (get_or xs k d) ≡ false)
    found d = position-Some feeds xs i d (sym h)

    one_before : (k d : ℕ) → k < length (take i xs) → get_or (take i xs) k d ≢ 10
    one_before k d l = let here : k < i = omega (arith, length-take i xs) in rw (get_or-take i xs k d here) (no_feed (get_or xs k d) ((found d).2 k here))

    rest : drop i xs ≡ 10 ∷ take (length xs - (i + 1)) (drop (i + 1) xs)
    rest =
        let within : i < length xs = (found 0).0 in
        let next : i + 1 ≡ suc i = add-one i in
        drop-cons xs i 0 within ∙ ap (λ b. b ∷ drop (suc i) xs) (is_feed (get_or xs i 0) (found 0).1) ∙ ap (λ n. 10 ∷ drop n xs) (sym next) ∙ ap (λ r. 10 ∷ r) (sym (take_rest xs (i + 1)))

-- a text is cut into lines and the beginning of one
pub cut_of : (text : List ℕ) → (lines : List (List ℕ)) × (part : List ℕ) × IsCut text lines part
cut_of [] = ([], [], record { whole = refl; plain = All-nil IsOneLine; one = All-nil (λ b. b ≢ 10) })
cut_of (b ∷ bs) = go (feeds b) refl (cut_of bs)
  where
    go : (d : Bool) → feeds b ≡ d → ((lines : List (List ℕ)) × (part : List ℕ) × IsCut bs lines part) → (lines : List (List ℕ)) × (part : List ℕ) × IsCut (b ∷ bs) lines part
    go true e (lines, part, h) = ([] ∷ lines, part, record { whole = rw (is_feed b e) (ap (λ r. 10 ∷ r) h.whole); plain = All-cons IsOneLine [] lines (All-nil (λ x. x ≢ 10)) h.plain; one = h.one })
    go false e ([], part, h) = ([], b ∷ part, record { whole = ap (λ r. b ∷ r) h.whole; plain = h.plain; one = All-cons (λ x. x ≢ 10) b part (no_feed b e) h.one })
    go false e (line ∷ lines, part, h) = (
      (b ∷ line) ∷ lines,
      part,
      record {
        whole = ap (λ r. b ∷ r) h.whole;
        plain = All-cons IsOneLine (b ∷ line) lines (All-cons (λ x. x ≢ 10) b line (no_feed b e) (All-head IsOneLine line lines h.plain)) (All-tail IsOneLine line lines h.plain);
        one = h.one;
      },
    )

same_ends : (ls ms : List (List ℕ)) (p q : List ℕ) → ls ++ p ∷ [] ≡ ms ++ q ∷ [] → (ls ≡ ms) × (p ≡ q)
same_ends [] [] p q e = (refl, cc)
same_ends [] (m ∷ []) p q e = cc
same_ends [] (m ∷ n ∷ ms) p q e = cc
same_ends (l ∷ []) [] p q e = cc
same_ends (l ∷ k ∷ ls) [] p q e = cc
same_ends (l ∷ ls) (m ∷ ms) p q e =
    let rest : ls ++ p ∷ [] ≡ ms ++ q ∷ [] = cc in
    let h = same_ends ls ms p q rest in
    let first : l ≡ m = cc in
    (ap (λ x. x ∷ ls) first ∙ ap (λ xs. m ∷ xs) h.0, h.1)

-- in one way only
pub cut_once : (text : List ℕ) (ls ms : List (List ℕ)) (p q : List ℕ) → IsCut text ls p → IsCut text ms q → (ls ≡ ms) × (p ≡ q)
cut_once text ls ms p q h k = same_ends ls ms p q (sym (fed ls p h) ∙ fed ms q k)
  where
    fed : (ls : List (List ℕ)) (p : List ℕ) → IsCut text ls p → lines_of (text ++ 10 ∷ []) ≡ ls ++ p ∷ []
    fed ls p h = ap (λ t. lines_of (t ++ 10 ∷ [])) h.whole ∙ ap lines_of (append_assoc (text_of_lines ls) p (10 ∷ [])) ∙ lines_fed ls (p ++ 10 ∷ []) h.plain ∙ ap (λ r. ls ++ r) (line_fed p [] h.one)

-- its lines are those, and the beginning where it is not empty
pub lines_cut : (text : List ℕ) (lines : List (List ℕ)) (part : List ℕ) → IsCut text lines part → lines_of text ≡ lines ++ lines_of part
lines_cut text lines part h = ap lines_of h.whole ∙ lines_fed lines part h.plain

-- a text of lines and one line more
pub text_of_lines-push : (lines : List (List ℕ)) (line rest : List ℕ) → text_of_lines (lines ++ line ∷ []) ++ rest ≡ text_of_lines lines ++ (line ++ 10 ∷ rest)
text_of_lines-push lines line rest = simp (flat_map-append, append_assoc, append-nil)

-- the lines before the last one have ended
pub lines_before : (text : List ℕ) (before : List (List ℕ)) (line : List ℕ) → lines_of text ≡ before ++ line ∷ [] → (rest : List ℕ) × (text ≡ text_of_lines before ++ rest) × All IsOneLine before
lines_before text before line e = go (cut_of text)
  where
    go : ((lines : List (List ℕ)) × (part : List ℕ) × IsCut text lines part) → (rest : List ℕ) × (text ≡ text_of_lines before ++ rest) × All IsOneLine before
    go (lines, [], h) =
        let same : lines ≡ before ++ line ∷ [] = sym (append-nil lines) ∙ sym (lines_cut text lines [] h) ∙ e in
        (line ++ 10 ∷ [], h.whole ∙ ap (λ ls. text_of_lines ls ++ []) same ∙ text_of_lines-push before line [], all_left IsOneLine before (line ∷ []) (subst (λ ls. All IsOneLine ls) same h.plain))
    go (lines, b ∷ bs, h) =
        let part : List ℕ = b ∷ bs in
        let ends : lines ++ part ∷ [] ≡ before ++ line ∷ [] = ap (λ ls. lines ++ ls) (sym (line_unfed part h.one (λ none. cc))) ∙ sym (lines_cut text lines part h) ∙ e in
        let same = (same_ends lines before part line ends).0 in
        (part, h.whole ∙ ap (λ ls. text_of_lines ls ++ part) same, subst (λ ls. All IsOneLine ls) same h.plain)

-- lines before a text that is cut
pub cut_before : (before lines : List (List ℕ)) (text part : List ℕ) → All IsOneLine before → IsCut text lines part → IsCut (text_of_lines before ++ text) (before ++ lines) part
cut_before before lines text part plain h = record {
  whole = ap (λ t. text_of_lines before ++ t) h.whole ∙ sym (append_assoc (text_of_lines before) (text_of_lines lines) part) ∙ ap (λ t. t ++ part) (sym (flat_map-append (λ line. line ++ 10 ∷ []) before lines));
  plain = All-append IsOneLine before lines plain h.plain;
  one = h.one;
}

-- the first line, or the beginning where no line ended, has so many bytes
abbrev pub FirstHas : ℕ → List (List ℕ) → List ℕ → Type 0
FirstHas n [] part = n ≤ length part
FirstHas n (line ∷ lines) part = n ≤ length line

-- what comes before the first line feed is a part of the first line
pub cut_after : (line text : List ℕ) → IsOneLine line → (lines : List (List ℕ)) × (part : List ℕ) × IsCut (line ++ text) lines part × FirstHas (length line) lines part
cut_after line text one = go (cut_of text)
  where
    go : ((lines : List (List ℕ)) × (part : List ℕ) × IsCut text lines part) → (lines : List (List ℕ)) × (part : List ℕ) × IsCut (line ++ text) lines part × FirstHas (length line) lines part
    go ([], part, h) = ([], line ++ part, record { whole = ap (λ t. line ++ t) h.whole; plain = h.plain; one = All-append (λ b. b ≢ 10) line part one h.one }, omega (arith, length-append line part))
    go (first ∷ lines, part, h) = (
      (line ++ first) ∷ lines,
      part,
      record {
        whole = ap (λ t. line ++ t) h.whole ∙ simp append_assoc;
        plain = All-cons IsOneLine (line ++ first) lines (All-append (λ b. b ≢ 10) line first one (All-head IsOneLine first lines h.plain)) (All-tail IsOneLine first lines h.plain);
        one = h.one;
      },
      omega (arith, length-append line first),
    )
