-- Bytes that are put into a block piece by piece.
use Rattle.std.proofs.Common.{arith, set, ◌≡◌, ◌<◌, ◌≤◌, ℕ, ◌+◌, ◌-◌, List, [], ◌∷◌, ◌++◌, length, take, drop, get_or, sym, ap, ◌∙◌}
use Rattle.std.proofs.lemmas.List.{append_assoc, take_more, take_at, drop_at, drop_more, drop-drop, length-take-le, set-append_right}

-- one byte more of a piece
pub put_step : (old block piece : List ℕ) (at i : ℕ) → at + length piece ≤ length old → i < length piece
    → block ≡ take at old ++ (take i piece ++ drop (at + i) old)
    → set block (at + i) (get_or piece i 0) ≡ take at old ++ (take (i + 1) piece ++ drop (at + (i + 1)) old)
put_step old block piece at i fits within so_far =
    let y = get_or piece i 0 in
    let rest = drop (at + i) old in
    let after = drop (at + (i + 1)) old in
    let here : at + i - at ≡ i = omega arith in
    let none : i - i ≡ 0 = omega arith in
    let next : at + i + 1 ≡ at + (i + 1) = omega arith in
    let front = set-append_right (take at old) (take i piece ++ rest) at (at + i) y (length-take-le at old (omega arith)) (omega arith) in
    let middle = set-append_right (take i piece) rest i i y (length-take-le i piece (omega arith)) (omega arith) in
    let last : set rest 0 y ≡ y ∷ after = ap (λ l. set l 0 y) (drop_more old (at + i) 0 (omega arith)) ∙ ap (λ k. y ∷ drop k old) next in
    ap (λ b. set b (at + i) y) so_far ∙ front ∙ ap (λ k. take at old ++ set (take i piece ++ rest) k y) here
    ∙ ap (λ l. take at old ++ l) (middle ∙ ap (λ k. take i piece ++ set rest k y) none ∙ ap (λ l. take i piece ++ l) last
    ∙ sym (append_assoc (take i piece) (y ∷ []) after) ∙ ap (λ l. l ++ after) (sym (take_more piece i 0 within)))

-- a piece put behind what is done
pub put_next : (old new before left piece : List ℕ) (at : ℕ) → old ≡ before ++ left → length before ≡ at
    → new ≡ take at old ++ (piece ++ drop (at + length piece) old) → new ≡ (before ++ piece) ++ drop (length piece) left
put_next old new before left piece at is size put =
    let front : take at old ≡ before = ap (take at) is ∙ take_at before left at size in
    let back : drop at old ≡ left = ap (drop at) is ∙ drop_at before left at size in
    let rest : drop (at + length piece) old ≡ drop (length piece) left = sym (drop-drop (length piece) at old) ∙ ap (drop (length piece)) back in
    put ∙ ap (λ l. l ++ (piece ++ drop (at + length piece) old)) front ∙ ap (λ l. before ++ (piece ++ l)) rest
    ∙ sym (append_assoc before piece (drop (length piece) left))
