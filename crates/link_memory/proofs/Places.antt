-- The first of a list that passes a test, and what stands before and behind it.
use Rattle.std.proofs.Common.{◌≡◌, ◌∙◌, ap, sym, refl, ◌⊎◌, inl, inr, ℕ, suc, Bool, true, false, if◌then◌else◌, All, List, [], ◌∷◌, ◌++◌, length, Option, Some, None, option_map, position, slice_get, slice_set}
use Rattle.std.proofs.lemmas.List.Elements.{All-nil, All-cons, All-head, All-tail}
use Rattle.crash_base.proofs.Positions.{position-cons}

-- none of these passes
abbrev pub NonePass : {X : Type 0} → (X → Bool) → List X → Type 0
NonePass p xs = All (λ x. p x ≡ false) xs

-- A list in parts, where the first that passes stands at a place.
pub record Placed {X : Type 0} (p : X → Bool) (xs : List X) (at : ℕ) : Type 0 where
  pub before : List X
  pub item : X
  pub behind : List X
  pub parts : xs ≡ before ++ item ∷ behind
  pub long : at ≡ length before
  pub none : NonePass p before
  pub passes : p item ≡ true

found_parts : (here : Bool) (rest : Option ℕ) (at : ℕ) → (if here then Some 0 else option_map suc rest) ≡ Some at → ((here ≡ true) × (at ≡ 0)) ⊎ ((later : ℕ) × (here ≡ false) × (rest ≡ Some later) × (at ≡ suc later))
found_parts true rest at h = inl (refl, cc)
found_parts false (Some later) at h = inr (later, refl, refl, cc)
found_parts false None at h = absurd cc

pub placed : {X : Type 0} (p : X → Bool) (xs : List X) (at : ℕ) → position p xs ≡ Some at → Placed p xs at
placed p [] at h = absurd cc
placed p (x ∷ xs) at h = elim (found_parts (p x) (position p xs) at (sym (position-cons p x xs) ∙ h)) [
  | inl (here, first) ↦ record { before = []; item = x; behind = xs; parts = refl; long = first; none = All-nil (λ y. p y ≡ false); passes = here }
  | inr (later, not_here, found, next) ↦
      let rest = placed p xs later found in
      record {
        before = x ∷ rest.before;
        item = rest.item;
        behind = rest.behind;
        parts = ap (λ ys. x ∷ ys) rest.parts;
        long = next ∙ ap suc rest.long;
        none = All-cons (λ y. p y ≡ false) x rest.before not_here rest.none;
        passes = rest.passes;
      }
]

none_parts : (here : Bool) (rest : Option ℕ) → (if here then Some 0 else option_map suc rest) ≡ None → (here ≡ false) × (rest ≡ None)
none_parts true rest h = absurd cc
none_parts false (Some at) h = absurd cc
none_parts false None h = (refl, refl)

pub none_placed : {X : Type 0} (p : X → Bool) (xs : List X) → position p xs ≡ None → NonePass p xs
none_placed p [] h = All-nil (λ y. p y ≡ false)
none_placed p (x ∷ xs) h =
    let parts = none_parts (p x) (position p xs) (sym (position-cons p x xs) ∙ h) in
    All-cons (λ y. p y ≡ false) x xs parts.0 (none_placed p xs parts.1)

pub no_place : {X : Type 0} (p : X → Bool) (xs : List X) → NonePass p xs → position p xs ≡ None
no_place p [] all = refl
no_place p (x ∷ xs) all =
    position-cons p x xs ∙ (ap (λ b. if b then Some 0 else option_map suc (position p xs)) (All-head (λ y. p y ≡ false) x xs all)
    ∙ ap (option_map suc) (no_place p xs (All-tail (λ y. p y ≡ false) x xs all)))

pub get_there : {X : Type 0} (before : List X) (item : X) (behind : List X) → slice_get (before ++ item ∷ behind) (length before) ≡ Some item
get_there [] item behind = refl
get_there (x ∷ before) item behind = get_there before item behind

pub set_there : {X : Type 0} (before : List X) (item new : X) (behind : List X) → slice_set (before ++ item ∷ behind) (length before) new ≡ before ++ new ∷ behind
set_there [] item new behind = refl
set_there (x ∷ before) item new behind = ap (λ ys. x ∷ ys) (set_there before item new behind)

-- a property of all in parts
pub of_parts : {X : Type 0} (P : X → Type 0) (before : List X) (item new : X) (behind : List X) → All P (before ++ item ∷ behind) → P new → All P (before ++ new ∷ behind)
of_parts P [] item new behind all h = All-cons P new behind h (All-tail P item behind all)
of_parts P (x ∷ before) item new behind all h = All-cons P x (before ++ new ∷ behind) (All-head P x (before ++ item ∷ behind) all) (of_parts P before item new behind (All-tail P x (before ++ item ∷ behind) all) h)

pub of_front : {X : Type 0} (P : X → Type 0) (before behind : List X) → All P (before ++ behind) → All P before
of_front P [] behind all = All-nil P
of_front P (x ∷ before) behind all = All-cons P x before (All-head P x (before ++ behind) all) (of_front P before behind (All-tail P x (before ++ behind) all))

pub of_both : {X : Type 0} (P Q R : X → Type 0) → ((x : X) → P x → Q x → R x) → (xs : List X) → All P xs → All Q xs → All R xs
of_both P Q R both [] all more = All-nil R
of_both P Q R both (x ∷ xs) all more = All-cons R x xs (both x (All-head P x xs all) (All-head Q x xs more)) (of_both P Q R both xs (All-tail P x xs all) (All-tail Q x xs more))
