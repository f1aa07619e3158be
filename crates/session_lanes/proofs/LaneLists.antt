-- Lanes and histories by the numbers of their bricks.
use Rattle.std.proofs.Common.{◌≡◌, ◌⊎◌, inl, inr, ℕ, zero, suc, ◌<◌, List, [], ◌∷◌, length, Some, refl, ap, arith}
use Rattle.std.specs.Prelude.{slice_get, slice_set}
use Rattle.std.proofs.lemmas.List.{length-set}
use Rattle.std.proofs.lemmas.Option.{slice_get_within, slice_get-get_or}
use Rattle.brick_store.specs.declared.event.BrickEvent.{BrickEvent}
use Rattle.ssm_world.specs.Worlds.{history_at, with_history_at}
use Rattle.ssm_world.proofs.Lists.{get_set, get_set_same}
use Rattle.session_lanes.specs.Lane.{LaneState, lane_at, with_lane_at}

-- a list stays at each other place
pub get_set_other : {A : Type 0} (xs : List A) (k : ℕ) (y : A) (i : ℕ) → (i ≡ k → ⊥) → slice_get (slice_set xs k y) i ≡ slice_get xs i
get_set_other [] k y i apart = refl
get_set_other (z ∷ xs) zero y zero apart = absurd (apart refl)
get_set_other (z ∷ xs) zero y (suc i) apart = refl
get_set_other (z ∷ xs) (suc k) y zero apart = refl
get_set_other (z ∷ xs) (suc k) y (suc i) apart = get_set_other xs k y i (λ e. apart (ap suc e))

pub lane_set : (lanes : List LaneState) (k : ℕ) (new : LaneState) (i : ℕ) (lane : LaneState) → lane_at (with_lane_at lanes k new) i ≡ Some lane → (lane_at lanes i ≡ Some lane) ⊎ ((i ≡ k) × (new ≡ lane))
lane_set lanes zero new i lane is = inl is
lane_set lanes (suc k) new zero lane is = inl is
lane_set lanes (suc k) new (suc i) lane is = elim (get_set lanes k new i lane is) [ inl a ↦ inl a | inr b ↦ inr (ap suc b.0, b.1) ]

pub lane_set_same : (lanes : List LaneState) (k : ℕ) (new lane : LaneState) → lane_at lanes k ≡ Some lane → lane_at (with_lane_at lanes k new) k ≡ Some new
lane_set_same lanes zero new lane is = absurd (cc)
lane_set_same lanes (suc k) new lane is = get_set_same lanes k new lane is

pub lane_set_other : (lanes : List LaneState) (k : ℕ) (new : LaneState) (i : ℕ) → (i ≡ k → ⊥) → lane_at (with_lane_at lanes k new) i ≡ lane_at lanes i
lane_set_other lanes zero new i apart = refl
lane_set_other lanes (suc k) new zero apart = refl
lane_set_other lanes (suc k) new (suc i) apart = get_set_other lanes k new i (λ e. apart (ap suc e))

pub lanes_as_many : (lanes : List LaneState) (k : ℕ) (new : LaneState) → length (with_lane_at lanes k new) ≡ length lanes
lanes_as_many lanes zero new = refl
lanes_as_many lanes (suc k) new = length-set lanes k new

pub history_set_other : (hs : List (List BrickEvent)) (k : ℕ) (g : List BrickEvent) (i : ℕ) → (i ≡ k → ⊥) → history_at (with_history_at hs k g) i ≡ history_at hs i
history_set_other hs zero g i apart = refl
history_set_other hs (suc k) g zero apart = refl
history_set_other hs (suc k) g (suc i) apart = get_set_other hs k g i (λ e. apart (ap suc e))

pub histories_as_many : (hs : List (List BrickEvent)) (k : ℕ) (g : List BrickEvent) → length (with_history_at hs k g) ≡ length hs
histories_as_many hs zero g = refl
histories_as_many hs (suc k) g = length-set hs k g

-- a brick with a lane has a history
pub lane_history : (lanes : List LaneState) (hs : List (List BrickEvent)) (k : ℕ) (lane : LaneState) → length lanes ≡ length hs → lane_at lanes k ≡ Some lane → (h : List BrickEvent) × (history_at hs k ≡ Some h)
lane_history lanes hs zero lane same is = absurd (cc)
lane_history lanes hs (suc place) lane same is =
    let within : place < length lanes = slice_get_within lanes place lane is in
    (_, slice_get-get_or hs place [] (omega arith))
