-- What a search for the first place tells, and when it is nobody's turn.
use Rattle.std.proofs.Common.{◌≡◌, ◌∙◌, ap, sym, refl, subst, inl, inr, ◌⊎◌, ℕ, zero, suc, Bool, true, false, if◌then◌else◌, List, [], ◌∷◌, Option, Some, None, slice_get}
use Rattle.std.specs.Prelude.{option_map, position}
use Rattle.std.specs.Option.{option_or, option_and_then}
use Rattle.crash_base.proofs.Positions.{position-cons}
use Rattle.ssm_stub.specs.declared.ear.Stage.TheVariants.{Unasked, Asked}
use Rattle.ssm_stub.specs.declared.ear.Ear.{Ear}
use Rattle.ssm_stub.specs.declared.ear.Ear.TheVariants.{Open, Heard}
use Rattle.ssm_stub.specs.declared.ask.Ask.{Ask}
use Rattle.ssm_stub.specs.declared.ask.Turn.{Turn}
use Rattle.ssm_stub.specs.Turns.{is_unasked, is_asked, is_open, turn_with, turn_at, turn_after_asks, turn_in_order}

none_parts : (here : Bool) (rest : Option ℕ) → (if here then Some 0 else option_map suc rest) ≡ None → (here ≡ false) × (rest ≡ None)
none_parts true rest h = absurd cc
none_parts false (Some i) h = absurd cc
none_parts false None h = (refl, refl)

-- where no place was found, nothing passes
pub no_position : {X : Type 0} (p : X → Bool) (xs : List X) → position p xs ≡ None → (i : ℕ) (x : X) → slice_get xs i ≡ Some x → p x ≡ false
no_position p [] h zero x here = absurd cc
no_position p [] h (suc i) x here = absurd cc
no_position p (y ∷ ys) h zero x here =
    let same : y ≡ x = cc in
    ap p (sym same) ∙ (none_parts (p y) (position p ys) (sym (position-cons p y ys) ∙ h)).0
no_position p (y ∷ ys) h (suc i) x here =
    no_position p ys (none_parts (p y) (position p ys) (sym (position-cons p y ys) ∙ h)).1 i x here

-- What stands at a place that was found.
pub record At {X : Type 0} (p : X → Bool) (xs : List X) (i : ℕ) : Type 0 where
  pub item : X
  pub here : slice_get xs i ≡ Some item
  pub passes : p item ≡ true

some_parts : (here : Bool) (rest : Option ℕ) (i : ℕ) → (if here then Some 0 else option_map suc rest) ≡ Some i → ((here ≡ true) × (i ≡ 0)) ⊎ ((j : ℕ) × (rest ≡ Some j) × (i ≡ suc j))
some_parts true rest i h = inl (refl, cc)
some_parts false (Some j) i h = inr (j, refl, cc)
some_parts false None i h = absurd cc

pub some_position : {X : Type 0} (p : X → Bool) (xs : List X) (i : ℕ) → position p xs ≡ Some i → At p xs i
some_position p [] i h = absurd cc
some_position {X} p (y ∷ ys) i h = elim (some_parts (p y) (position p ys) i (sym (position-cons p y ys) ∙ h)) [
  | inl (passes, first) ↦ (let P : ℕ → Type 0 = λ k. At p (y ∷ ys) k in subst P (sym first) (record { item = y; here = refl; passes = passes }))
  | inr (j, later, next) ↦
      let at = some_position p ys j later in
      (let P : ℕ → Type 0 = λ k. At p (y ∷ ys) k in subst P (sym next) (record { item = at.item; here = at.here; passes = at.passes }))
]

open_turns : {W A : Type 0} (at : ℕ) (who : W) (ear : Ear A) → is_open (record { who = who; ear = ear }) ≡ true → turn_with at (record { who = who; ear = ear }) ear ≡ None → ⊥
open_turns at who (Open stage) still h = cc
open_turns at who (Heard outcome) still h = cc

open_at : {W A : Type 0} (asks : List (Ask W A)) (at : ℕ) (ask : Ask W A) → slice_get asks at ≡ Some ask → is_open ask ≡ true → turn_at asks at ≡ None → ⊥
open_at {W} {A} asks at ask here still h =
    let turn : Ask W A → Option (Turn W) = λ a. turn_with at a a.ear in
    open_turns at ask.who ask.ear still (sym (ap (option_and_then turn) here) ∙ h)

unasked_open : {A : Type 0} (W : Type 0) (who : W) (ear : Ear A) → is_unasked (record { who = who; ear = ear }) ≡ true → is_open (record { who = who; ear = ear }) ≡ true
unasked_open W who (Open stage) h = refl
unasked_open W who (Heard outcome) h = cc

asked_open : {A : Type 0} (W : Type 0) (who : W) (ear : Ear A) → is_asked (record { who = who; ear = ear }) ≡ true → is_open (record { who = who; ear = ear }) ≡ true
asked_open W who (Open stage) h = refl
asked_open W who (Heard outcome) h = cc

neither_open : {A : Type 0} (W : Type 0) (who : W) (ear : Ear A) → is_unasked (record { who = who; ear = ear }) ≡ false → is_asked (record { who = who; ear = ear }) ≡ false → is_open (record { who = who; ear = ear }) ≡ false
neither_open W who (Open Unasked) h k = cc
neither_open W who (Open (Asked strays)) h k = cc
neither_open W who (Heard outcome) h k = refl

first_none : {W A : Type 0} (asks : List (Ask W A)) (unasked asked : Option ℕ) → position is_unasked asks ≡ unasked → position is_asked asks ≡ asked → option_and_then (turn_at asks) (option_or unasked asked) ≡ None → (unasked ≡ None) × (asked ≡ None)
first_none {W} asks (Some i) asked found later h =
    let at = some_position is_unasked asks i found in
    absurd (open_at asks i at.item at.here (unasked_open W at.item.who at.item.ear at.passes) h)
first_none {W} asks None (Some i) found later h =
    let at = some_position is_asked asks i later in
    absurd (open_at asks i at.item at.here (asked_open W at.item.who at.item.ear at.passes) h)
first_none asks None None found later h = (refl, refl)

-- where it is nobody's turn in a write, each has its outcome
pub all_heard : {W A : Type 0} (asks : List (Ask W A)) → turn_after_asks asks ≡ None → (i : ℕ) (ask : Ask W A) → slice_get asks i ≡ Some ask → is_open ask ≡ false
all_heard {W} asks h i ask here =
    let none = first_none asks (position is_unasked asks) (position is_asked asks) refl refl h in
    neither_open W ask.who ask.ear (no_position is_unasked asks none.0 i ask here) (no_position is_asked asks none.1 i ask here)

none_open : {W A : Type 0} (asks : List (Ask W A)) (found : Option ℕ) → position is_open asks ≡ found → option_and_then (turn_at asks) found ≡ None → found ≡ None
none_open asks (Some i) found h = (let at = some_position is_open asks i found in absurd (open_at asks i at.item at.here at.passes h))
none_open asks None found h = refl

-- and so in a read
pub all_heard_in_order : {W A : Type 0} (asks : List (Ask W A)) → turn_in_order asks ≡ None → (i : ℕ) (ask : Ask W A) → slice_get asks i ≡ Some ask → is_open ask ≡ false
all_heard_in_order asks h i ask here = no_position is_open asks (none_open asks (position is_open asks) refl h) i ask here
