-- What stands at new places, and that places rise.
use Rattle.std.proofs.Common.{◌≡◌, ℕ, zero, suc, ◌+◌, ◌-◌, ◌<◌, ◌≤◌, List, [], ◌∷◌, ◌++◌, length, map, slice_get, Option, Some, All, arith, refl, sym, ap, ◌∙◌, subst}
use Rattle.std.specs.List.{range_with_len}
use Rattle.std.proofs.lemmas.List.{length-append, append_assoc}
use Rattle.std.proofs.lemmas.List.Elements.{All-nil, All-cons, All-append, All-head, All-tail}
use mathlib.Core.List.{IsPrefix}
use Rattle.turn_lock.specs.Seats.{new_places}
use Rattle.turn_laws.specs.Places.{RiseBelow}

module _ {E : Type 0} where
  next_is : (old : List E) (x : E) (more : List E) → slice_get (old ++ x ∷ more) (length old) ≡ Some x
  next_is [] x more = refl
  next_is (y ∷ old) x more = next_is old x more

  stand_there : (old added : List E) → map (slice_get (old ++ added)) (range_with_len (length old) (length added)) ≡ map Some added
  stand_there old [] = refl
  stand_there old (x ∷ added) =
      let longer : length (old ++ x ∷ []) ≡ length old + 1 = length-append old (x ∷ []) in
      let whole : (old ++ x ∷ []) ++ added ≡ old ++ x ∷ added = append_assoc old (x ∷ []) added in
      let behind : map (slice_get (old ++ x ∷ added)) (range_with_len (length old + 1) (length added)) ≡ map Some added =
      subst (λ (n : ℕ). map (slice_get (old ++ x ∷ added)) (range_with_len n (length added)) ≡ map Some added) longer
      (subst (λ (l : List E). map (slice_get l) (range_with_len (length (old ++ x ∷ [])) (length added)) ≡ map Some added) whole (stand_there (old ++ x ∷ []) added)) in
      ap (λ (o : Option E). o ∷ map (slice_get (old ++ x ∷ added)) (range_with_len (length old + 1) (length added))) (next_is old x added)
      ∙ ap (λ (l : List (Option E)). Some x ∷ l) behind

  pub added_stand : (taken added : List E) → map (slice_get (taken ++ added)) (new_places taken (taken ++ added)) ≡ map Some added
  added_stand taken added =
      let many : length (taken ++ added) - length taken ≡ length added = (let a = length-append taken added in omega arith) in
      subst (λ (n : ℕ). map (slice_get (taken ++ added)) (range_with_len (length taken) n) ≡ map Some added) (sym many) (stand_there taken added)

-- a row of numbers rises
above : (p a n : ℕ) → p < a → All (λ q. p < q) (range_with_len a n)
above p a zero less = All-nil (λ q. p < q)
above p a (suc n) less = All-cons (λ q. p < q) a (range_with_len (a + 1) n) less (above p (a + 1) n (omega arith))

row_rises : (a n m : ℕ) → a + n ≤ m → RiseBelow m (range_with_len a n)
row_rises a zero m within = tt
row_rises a (suc n) m within = (omega arith, above a (a + 1) n (omega arith), row_rises (a + 1) n m (omega arith))

-- places that rise, and a row behind them
rise_on : (own : List ℕ) (b a n m : ℕ) → RiseBelow b own → b ≤ a → a + n ≤ m → RiseBelow m (own ++ range_with_len a n)
rise_on [] b a n m rises order within = row_rises a n m within
rise_on (p ∷ own) b a n m rises order within =
    let low = rises.0 in (
      omega arith,
      All-append (λ q. p < q) own (range_with_len a n) rises.1 (above p a n (omega arith)),
      rise_on own b a n m rises.2 order within,
    )

prefix_length : {E : Type 0} (xs ys : List E) → IsPrefix xs ys → length xs ≤ length ys
prefix_length {E = E} xs ys begins = let a = length-append xs begins.0 in let b : length (xs ++ begins.0) ≡ length ys = ap (λ (l : List E). length l) begins.1 in omega arith

pub rise_hold : {E : Type 0} (own : List ℕ) (seen taken given : List E) → RiseBelow (length seen) own → IsPrefix seen taken → IsPrefix taken given
    → RiseBelow (length given) (own ++ new_places taken given)
rise_hold own seen taken given rises begun grown =
    let a = prefix_length seen taken begun in
    let b = prefix_length taken given grown in
    rise_on own (length seen) (length taken) (length given - length taken) (length given) rises a (omega arith)

-- places that rise, taken apart
pub stand_within : (n : ℕ) (before behind : List ℕ) (p : ℕ) → RiseBelow n (before ++ p ∷ behind) → p < n
stand_within n [] behind p rises = rises.0
stand_within n (b ∷ before) behind p rises = stand_within n before behind p rises.2

All-at : (P : ℕ → Type 0) (between behind : List ℕ) (q : ℕ) → All P (between ++ q ∷ behind) → P q
All-at P [] behind q all = All-head P q behind all
All-at P (b ∷ between) behind q all = All-at P between behind q (All-tail P b (between ++ q ∷ behind) all)

pub stand_in_order : (n : ℕ) (before between behind : List ℕ) (p q : ℕ) → RiseBelow n (before ++ p ∷ (between ++ q ∷ behind)) → p < q
stand_in_order n [] between behind p q rises = All-at (λ m. p < m) between behind q rises.1
stand_in_order n (b ∷ before) between behind p q rises = stand_in_order n before between behind p q rises.2
