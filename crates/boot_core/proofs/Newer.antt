-- One read after the other.
use Rattle.std.proofs.Common.{◌≡◌, ℕ, ◌+◌, ◌<◌, ◌≤◌, Bool, true, false, cond, List, [], ◌∷◌, ◌++◌, length, map, drop, get_or, Option, Some, None, refl, sym, ap, ◌∙◌, add-one, nat_lt}
use Rattle.std.proofs.Math.Seq.{drop-cons}
use Rattle.std.proofs.lemmas.List.{drop_all}
use Rattle.journal_model.specs.declared.conflict.Conflict.{Conflict}
use Rattle.journal_model.specs.declared.entry.Entry.{Entry}
use Rattle.journal_model.specs.declared.entry.ReadMark.{ReadMark}
use Rattle.journal_model.specs.Conflicts.{conflict_at, conflict_in}
use Rattle.journal_model.specs.Snapshots.{newest}

-- the read at an index and those after it
newer_turn : {X : Type 0} (es : List Entry) (at : ℕ) (f : X → ReadMark) (xs : List X) (i : ℕ) (d : X) → i < length xs → conflict_in es at (map f (drop i xs)) ≡ cond (nat_lt at (newest es (f (get_or xs i d)))) (Some (conflict_at es at (f (get_or xs i d)))) (conflict_in es at (map f (drop (i + 1) xs)))
newer_turn es at f xs i d within = rw (add-one) (ap (λ ys. conflict_in es at (map f ys)) (drop-cons xs i d within))

one_here : (b : Bool) (c : Conflict) (rest : Option Conflict) (found : Conflict) → cond b (Some c) None ≡ Some found → cond b (Some c) rest ≡ Some found
one_here true c rest found is = is
one_here false c rest found is = absurd (cc)

one_past : (b : Bool) (c : Conflict) (rest : Option Conflict) → cond b (Some c) None ≡ None → cond b (Some c) rest ≡ rest
one_past true c rest is = absurd (cc)
one_past false c rest is = refl

pub newer_here : {X : Type 0} (es : List Entry) (at : ℕ) (f : X → ReadMark) (xs : List X) (i : ℕ) (x : X) (c : Conflict) → i < length xs → x ≡ get_or xs i x → conflict_in es at (f x ∷ []) ≡ Some c → conflict_in es at (map f (drop i xs)) ≡ Some c
newer_here es at f xs i x c within is found =
    newer_turn es at f xs i x within ∙ ap (λ y. cond (nat_lt at (newest es (f y))) (Some (conflict_at es at (f y))) (conflict_in es at (map f (drop (i + 1) xs)))) (sym is)
    ∙ one_here (nat_lt at (newest es (f x))) (conflict_at es at (f x)) (conflict_in es at (map f (drop (i + 1) xs))) c found

pub newer_past : {X : Type 0} (es : List Entry) (at : ℕ) (f : X → ReadMark) (xs : List X) (i : ℕ) (x : X) → i < length xs → x ≡ get_or xs i x → conflict_in es at (f x ∷ []) ≡ None → conflict_in es at (map f (drop i xs)) ≡ conflict_in es at (map f (drop (i + 1) xs))
newer_past es at f xs i x within is found =
    newer_turn es at f xs i x within ∙ ap (λ y. cond (nat_lt at (newest es (f y))) (Some (conflict_at es at (f y))) (conflict_in es at (map f (drop (i + 1) xs)))) (sym is)
    ∙ one_past (nat_lt at (newest es (f x))) (conflict_at es at (f x)) (conflict_in es at (map f (drop (i + 1) xs))) found

pub newer_none_left : {X : Type 0} (es : List Entry) (at : ℕ) (f : X → ReadMark) (xs : List X) (i : ℕ) → length xs ≤ i → conflict_in es at (map f (drop i xs)) ≡ None
newer_none_left es at f xs i past = ap (λ ys. conflict_in es at (map f ys)) (drop_all i xs past)

-- what is first of two lists is first of the first, or where that has none of the second

pub newer_first : (es : List Entry) (at : ℕ) (xs ys : List ReadMark) (c : Conflict) → conflict_in es at xs ≡ Some c → conflict_in es at (xs ++ ys) ≡ Some c
newer_first es at [] ys c is = absurd (cc)
newer_first es at (x ∷ xs) ys c is = go (newer_first es at xs ys c) (nat_lt at (newest es x)) is
  where
    go : (conflict_in es at xs ≡ Some c → conflict_in es at (xs ++ ys) ≡ Some c) → (b : Bool) → cond b (Some (conflict_at es at x)) (conflict_in es at xs) ≡ Some c → cond b (Some (conflict_at es at x)) (conflict_in es at (xs ++ ys)) ≡ Some c
    go later true is = is
    go later false is = later is

pub newer_second : (es : List Entry) (at : ℕ) (xs ys : List ReadMark) → conflict_in es at xs ≡ None → conflict_in es at (xs ++ ys) ≡ conflict_in es at ys
newer_second es at [] ys is = refl
newer_second es at (x ∷ xs) ys is = go (newer_second es at xs ys) (nat_lt at (newest es x)) is
  where
    go : (conflict_in es at xs ≡ None → conflict_in es at (xs ++ ys) ≡ conflict_in es at ys) → (b : Bool) → cond b (Some (conflict_at es at x)) (conflict_in es at xs) ≡ None → cond b (Some (conflict_at es at x)) (conflict_in es at (xs ++ ys)) ≡ conflict_in es at ys
    go later true is = absurd (cc)
    go later false is = later is
