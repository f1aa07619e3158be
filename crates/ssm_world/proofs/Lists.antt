-- Lists that grow at their end, or change at one place.
use Rattle.std.proofs.Common.{◌≡◌, ◌⊎◌, inl, inr, ℕ, zero, suc, Bool, true, false, not, ◌||◌, List, [], ◌∷◌, ◌++◌, length, Some, refl, sym, ap, ◌∙◌}
use Rattle.std.specs.Prelude.{slice_get, slice_set}
use Rattle.std.specs.List.{list_any}
use Rattle.brick_store.specs.declared.event.BrickEvent.{BrickEvent}
use Rattle.ssm_world.specs.Worlds.{history_at, with_history_at}

-- what stands in a list with one item more at its end
pub get_last : {A : Type 0} (xs : List A) (y : A) (i : ℕ) (x : A) → slice_get (xs ++ y ∷ []) i ≡ Some x → (slice_get xs i ≡ Some x) ⊎ ((i ≡ length xs) × (y ≡ x))
get_last [] y zero x is = inr (refl, cc)
get_last [] y (suc i) x is = absurd (cc)
get_last (z ∷ xs) y zero x is = inl is
get_last (z ∷ xs) y (suc i) x is = elim (get_last xs y i x is) [ inl a ↦ inl a | inr b ↦ inr (ap suc b.0, b.1) ]

-- a list that grows at its end keeps its items
pub get_front : {A : Type 0} (xs ys : List A) (i : ℕ) (x : A) → slice_get xs i ≡ Some x → slice_get (xs ++ ys) i ≡ Some x
get_front [] ys i x is = absurd (cc)
get_front (z ∷ xs) ys zero x is = is
get_front (z ∷ xs) ys (suc i) x is = get_front xs ys i x is

pub get_new : {A : Type 0} (xs : List A) (y : A) → slice_get (xs ++ y ∷ []) (length xs) ≡ Some y
get_new [] y = refl
get_new (z ∷ xs) y = get_new xs y

-- what stands in a list that was changed at one place
pub get_set : {A : Type 0} (xs : List A) (k : ℕ) (y : A) (i : ℕ) (x : A) → slice_get (slice_set xs k y) i ≡ Some x → (slice_get xs i ≡ Some x) ⊎ ((i ≡ k) × (y ≡ x))
get_set [] k y i x is = absurd (cc)
get_set (z ∷ xs) zero y zero x is = inr (refl, cc)
get_set (z ∷ xs) zero y (suc i) x is = inl is
get_set (z ∷ xs) (suc k) y zero x is = inl is
get_set (z ∷ xs) (suc k) y (suc i) x is = elim (get_set xs k y i x is) [ inl a ↦ inl a | inr b ↦ inr (ap suc b.0, b.1) ]

-- what becomes of an item where a list is changed at one place
pub set_keeps : {A : Type 0} (xs : List A) (k : ℕ) (y : A) (i : ℕ) (x : A) → slice_get xs i ≡ Some x → (slice_get (slice_set xs k y) i ≡ Some x) ⊎ ((i ≡ k) × (slice_get (slice_set xs k y) i ≡ Some y))
set_keeps [] k y i x is = absurd (cc)
set_keeps (z ∷ xs) zero y zero x is = inr (refl, refl)
set_keeps (z ∷ xs) zero y (suc i) x is = inl is
set_keeps (z ∷ xs) (suc k) y zero x is = inl is
set_keeps (z ∷ xs) (suc k) y (suc i) x is = elim (set_keeps xs k y i x is) [ inl a ↦ inl a | inr b ↦ inr (ap suc b.0, b.1) ]

pub get_set_same : {A : Type 0} (xs : List A) (k : ℕ) (y x : A) → slice_get xs k ≡ Some x → slice_get (slice_set xs k y) k ≡ Some y
get_set_same [] k y x is = absurd (cc)
get_set_same (z ∷ xs) zero y x is = refl
get_set_same (z ∷ xs) (suc k) y x is = get_set_same xs k y x is

-- the same of histories by the numbers of their bricks
pub history_set : (hs : List (List BrickEvent)) (k : ℕ) (g : List BrickEvent) (i : ℕ) (h : List BrickEvent) → history_at (with_history_at hs k g) i ≡ Some h → (history_at hs i ≡ Some h) ⊎ ((i ≡ k) × (g ≡ h))
history_set hs zero g i h is = inl is
history_set hs (suc k) g zero h is = inl is
history_set hs (suc k) g (suc i) h is = elim (get_set hs k g i h is) [ inl a ↦ inl a | inr b ↦ inr (ap suc b.0, b.1) ]

pub history_keeps : (hs : List (List BrickEvent)) (k : ℕ) (g : List BrickEvent) (i : ℕ) (h : List BrickEvent) → history_at hs i ≡ Some h → (history_at (with_history_at hs k g) i ≡ Some h) ⊎ ((i ≡ k) × (history_at (with_history_at hs k g) i ≡ Some g))
history_keeps hs zero g i h is = inl is
history_keeps hs (suc k) g zero h is = inl is
history_keeps hs (suc k) g (suc i) h is = elim (set_keeps hs k g i h is) [ inl a ↦ inl a | inr b ↦ inr (ap suc b.0, b.1) ]

pub history_set_same : (hs : List (List BrickEvent)) (k : ℕ) (g h : List BrickEvent) → history_at hs k ≡ Some h → history_at (with_history_at hs k g) k ≡ Some g
history_set_same hs zero g h is = absurd (cc)
history_set_same hs (suc k) g h is = get_set_same hs k g h is

neither : (a b : Bool) → not (a || b) ≡ true → (a ≡ false) × (not b ≡ true)
neither true b h = absurd (cc)
neither false b h = (refl, h)

-- nothing passes a test that none passes
pub none_passes : {A : Type 0} (test : A → Bool) (xs : List A) (k : ℕ) (x : A) → not (list_any test xs) ≡ true → slice_get xs k ≡ Some x → test x ≡ false
none_passes test [] k x none is = absurd (cc)
none_passes test (z ∷ xs) zero x none is = let same : z ≡ x = cc in ap test (sym same) ∙ (neither (test z) (list_any test xs) none).0
none_passes test (z ∷ xs) (suc k) x none is = none_passes test xs k x (neither (test z) (list_any test xs) none).1 is
