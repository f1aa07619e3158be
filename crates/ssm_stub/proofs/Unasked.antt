-- Bricks that were not asked yet, in order, and what an event makes of them.
use Rattle.std.proofs.Common.{◌≡◌, ◌∙◌, ap, sym, refl, inl, inr, ◌⊎◌, ℕ, zero, suc, Bool, true, false, if◌then◌else◌, List, [], ◌∷◌, map, filter_map, Option, Some, None, slice_get, slice_set, position}
use Rattle.std.specs.Prelude.{option_map}
use Rattle.std.specs.List.{cons_option}
use Rattle.std.specs.Option.{option_or, option_and_then}
use Rattle.std.proofs.lemmas.Option.{option_and_then_some}
use Rattle.crash_base.proofs.Positions.{position-cons}
use Rattle.crash_base.specs.declared.numbers.BrickNo.{BrickNo}
use Rattle.ssm_stub.specs.declared.ear.Stage.{Stage}
use Rattle.ssm_stub.specs.declared.ear.Stage.TheVariants.{Unasked, Asked}
use Rattle.ssm_stub.specs.declared.ear.Ear.{Ear}
use Rattle.ssm_stub.specs.declared.ear.Ear.TheVariants.{Open, Heard}
use Rattle.ssm_stub.specs.declared.ask.Ask.{Ask}
use Rattle.ssm_stub.specs.declared.ask.Turn.{Turn}
use Rattle.ssm_stub.specs.Turns.{none_asked, is_unasked, is_asked, is_open, turn_with, turn_at, turn_after_asks, turn_in_order}
use Rattle.ssm_stub.proofs.Searching.{no_position, some_position}

-- the brick, where it was not asked
abbrev pub unasked_by : {A : Type 0} → BrickNo → Ear A → Option BrickNo
unasked_by brick (Open Unasked) = Some brick
unasked_by brick (Open (Asked strays)) = None
unasked_by brick (Heard outcome) = None

-- the bricks that were not asked, in order
abbrev pub unasked_in : {W A : Type 0} → (W → BrickNo) → List (Ask W A) → List BrickNo
unasked_in {W} {A} brick_of asks = filter_map (λ (a : Ask W A). unasked_by (brick_of a.who) a.ear) asks

pub some_parts : (here : Bool) (rest : Option ℕ) (i : ℕ) → (if here then Some 0 else option_map suc rest) ≡ Some i → (i ≡ 0) ⊎ ((here ≡ false) × (j : ℕ) × (rest ≡ Some j) × (i ≡ suc j))
some_parts true rest i h = inl cc
some_parts false (Some j) i h = inr (refl, j, refl, cc)
some_parts false None i h = absurd cc

-- what has an image is put out at its place, and nothing before it has one
pub first_goes : {X Y : Type 0} (p : X → Bool) (h : X → Option Y) → ((x : X) → p x ≡ false → h x ≡ None) → (xs : List X) (i : ℕ) (x y : X) → position p xs ≡ Some i → slice_get xs i ≡ Some x → h y ≡ None → filter_map h xs ≡ cons_option (h x) (filter_map h (slice_set xs i y))
first_goes p h passed [] zero x y found here none = absurd cc
first_goes p h passed [] (suc i) x y found here none = absurd cc
first_goes p h passed (z ∷ zs) zero x y found here none =
    let same : z ≡ x = cc in
    ap (λ o. cons_option o (filter_map h zs)) (ap h same) ∙ ap (λ o. cons_option (h x) (cons_option o (filter_map h zs))) (sym none)
first_goes p h passed (z ∷ zs) (suc i) x y found here none = elim (some_parts (p z) (position p zs) (suc i) (sym (position-cons p z zs) ∙ found)) [
  | inl first ↦ absurd cc
  | inr (apart, j, later, next) ↦
      let is : position p zs ≡ Some i = later ∙ (let e : j ≡ i = cc in ap (λ k. Some k) e) in
      let nothing = passed z apart in
      ap (λ o. cons_option o (filter_map h zs)) nothing
      ∙ (first_goes p h passed zs i x y is here none
      ∙ ap (λ o. cons_option (h x) (cons_option o (filter_map h (slice_set zs i y)))) (sym nothing))
]

-- what has no image is put in place of what has none
pub none_goes : {X Y : Type 0} (h : X → Option Y) (xs : List X) (i : ℕ) (x y : X) → slice_get xs i ≡ Some x → h x ≡ None → h y ≡ None → filter_map h (slice_set xs i y) ≡ filter_map h xs
none_goes h [] zero x y here had has = absurd cc
none_goes h [] (suc i) x y here had has = absurd cc
none_goes h (z ∷ zs) zero x y here had has =
    let same : z ≡ x = cc in
    ap (λ o. cons_option o (filter_map h zs)) (has ∙ sym (ap h same ∙ had))
none_goes h (z ∷ zs) (suc i) x y here had has = ap (cons_option (h z)) (none_goes h zs i x y here had has)

-- where nothing has an image there are none
pub none_have : {X Y : Type 0} (h : X → Option Y) (xs : List X) → ((i : ℕ) (x : X) → slice_get xs i ≡ Some x → h x ≡ None) → filter_map h xs ≡ []
none_have h [] none = refl
none_have h (x ∷ xs) none = ap (λ o. cons_option o (filter_map h xs)) (none zero x refl) ∙ none_have h xs (λ i y here. none (suc i) y here)

-- a place that a turn was found at is the turn's
turn_place_by : {W A : Type 0} (at : ℕ) (ask : Ask W A) (ear : Ear A) (t : Turn W) → turn_with at ask ear ≡ Some t → (t.at ≡ at) × (ear ≡ Open t.stage)
turn_place_by {W} {A} at ask (Open stage) t h =
    let same : record { at = at; who = ask.who; stage = stage } ≡ t = cc in
    (sym (ap (λ (u : Turn W). u.at) same), (let ear_of : Turn W → Ear A = λ u. Open u.stage in ap ear_of same))
turn_place_by at ask (Heard outcome) t h = absurd cc

pub turn_place : {W A : Type 0} (asks : List (Ask W A)) (at : ℕ) (t : Turn W) → turn_at asks at ≡ Some t → t.at ≡ at
turn_place asks at t h = option_and_then_some (λ ask. turn_with at ask ask.ear) (slice_get asks at) t h (λ ask here is. (turn_place_by at ask ask.ear t is).0)

-- the stage of a turn is that of the one at its place
turn_stage : {W A : Type 0} (asks : List (Ask W A)) (at : ℕ) (ask : Ask W A) (t : Turn W) → slice_get asks at ≡ Some ask → turn_at asks at ≡ Some t → ask.ear ≡ Open t.stage
turn_stage {W} {A} asks at ask t here h =
    option_and_then_some (λ (a : Ask W A). turn_with at a a.ear) (slice_get asks at) t h (λ a there is.
    let same : a ≡ ask = (let e : Some a ≡ Some ask = sym there ∙ here in cc) in
    sym (ap (λ (x : Ask W A). x.ear) same) ∙ (turn_place_by at a a.ear t is).1)

asked_stage : {W A : Type 0} (who : W) (ear : Ear A) (stage : Stage) → ear ≡ Open stage → is_asked (record { who = who; ear = ear }) ≡ true → stage ≡ Unasked → ⊥
asked_stage who (Open Unasked) stage is passes h = absurd cc
asked_stage who (Open (Asked n)) stage is passes h = (let e : Open (Asked n) ≡ Open Unasked = is ∙ ap (λ s. Open s) h in absurd cc)
asked_stage who (Heard outcome) stage is passes h = absurd cc

unasked_stage : {W A : Type 0} (who : W) (ear : Ear A) (stage : Stage) (n : ℕ) → ear ≡ Open stage → is_unasked (record { who = who; ear = ear }) ≡ true → stage ≡ Asked n → ⊥
unasked_stage who (Open Unasked) stage n is passes h = (let e : Open Unasked ≡ Open (Asked n) = is ∙ ap (λ s. Open s) h in absurd cc)
unasked_stage who (Open (Asked k)) stage n is passes h = absurd cc
unasked_stage who (Heard outcome) stage n is passes h = absurd cc

first_place : {W A : Type 0} (asks : List (Ask W A)) (t : Turn W) (unasked asked : Option ℕ) → position is_unasked asks ≡ unasked → position is_asked asks ≡ asked → option_and_then (turn_at asks) (option_or unasked asked) ≡ Some t → t.stage ≡ Unasked → position is_unasked asks ≡ Some t.at
first_place asks t (Some i) asked found later h fresh = found ∙ ap (λ k. Some k) (sym (turn_place asks i t h))
first_place asks t None (Some i) found later h fresh =
    let at = some_position is_asked asks i later in
    absurd (asked_stage at.item.who at.item.ear t.stage (turn_stage asks i at.item t at.here h) at.passes fresh)
first_place asks t None None found later h fresh = absurd cc

-- in a write an unasked one has its turn where it is the first such
pub first_unasked : {W A : Type 0} (asks : List (Ask W A)) (t : Turn W) → turn_after_asks asks ≡ Some t → t.stage ≡ Unasked → position is_unasked asks ≡ Some t.at
first_unasked asks t h fresh = first_place asks t (position is_unasked asks) (position is_asked asks) refl refl h fresh

pub asked_place : {W A : Type 0} (asks : List (Ask W A)) (t : Turn W) (n : ℕ) (unasked asked : Option ℕ) → position is_unasked asks ≡ unasked → option_and_then (turn_at asks) (option_or unasked asked) ≡ Some t → t.stage ≡ Asked n → unasked ≡ None
asked_place asks t n None asked found h begun = refl
asked_place asks t n (Some i) asked found h begun =
    let at = some_position is_unasked asks i found in
    absurd (unasked_stage at.item.who at.item.ear t.stage n (turn_stage asks i at.item t at.here h) at.passes begun)

-- in a read the turn is that of the first without an outcome
pub first_open : {W A : Type 0} (asks : List (Ask W A)) (t : Turn W) → turn_in_order asks ≡ Some t → position is_open asks ≡ Some t.at
first_open {W} {A} asks t h = option_and_then_some (turn_at asks) (position is_open asks) t h (λ at found is. found ∙ ap (λ k. Some k) (sym (turn_place asks at t is)))

-- one that does not pass has no brick to ask
pub asked_none : {W A : Type 0} (brick : BrickNo) (who : W) (ear : Ear A) → is_unasked (record { who = who; ear = ear }) ≡ false → unasked_by brick ear ≡ None
asked_none brick who (Open Unasked) h = absurd cc
asked_none brick who (Open (Asked n)) h = refl
asked_none brick who (Heard outcome) h = refl

pub heard_none : {W A : Type 0} (brick : BrickNo) (who : W) (ear : Ear A) → is_open (record { who = who; ear = ear }) ≡ false → unasked_by brick ear ≡ None
heard_none brick who (Open stage) h = absurd cc
heard_none brick who (Heard outcome) h = refl

-- in a write one that was asked has its turn only where all were asked
pub all_asked : {W A : Type 0} (brick_of : W → BrickNo) (asks : List (Ask W A)) (t : Turn W) (n : ℕ) → turn_after_asks asks ≡ Some t → t.stage ≡ Asked n → unasked_in brick_of asks ≡ []
all_asked {W} {A} brick_of asks t n h begun =
    let none = asked_place asks t n (position is_unasked asks) (position is_asked asks) refl h begun in
    none_have (λ (a : Ask W A). unasked_by (brick_of a.who) a.ear) asks (λ i a here. asked_none (brick_of a.who) a.who a.ear (no_position is_unasked asks none i a here))

-- at first all are unasked
pub all_unasked : {W : Type 0} (A : Type 0) (brick_of : W → BrickNo) (whos : List W) → unasked_in {W = W} {A = A} brick_of (none_asked whos) ≡ map brick_of whos
all_unasked A brick_of [] = refl
all_unasked A brick_of (who ∷ whos) = ap (λ rest. brick_of who ∷ rest) (all_unasked A brick_of whos)
