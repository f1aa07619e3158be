-- A nonce with which no call begins stays new.
use Rattle.std.proofs.Common.{◌≡◌, ℕ, ◌-◌, ◌+◌, Bool, true, false, nat_lt, if◌then◌else◌, ◌||◌, List, [], ◌∷◌, length, Option, Some, None, refl, sym, ap, subst, ◌∙◌}
use Rattle.std.specs.List.{list_any}
use Rattle.std.proofs.lemmas.Bool.{or_parts}
use Rattle.crash_base.specs.declared.numbers.Version.{Version}
use Rattle.ssm_stub.specs.declared.event.StubNext.{StubNext}
use Rattle.ssm_stub.specs.declared.event.StubNext.TheVariants as next
use Rattle.ssm_world.specs.declared.event.WorldEvent.{WorldEvent}
use Rattle.ssm_world.specs.declared.event.WorldEvent.TheVariants as event
use Rattle.ssm_world.specs.Facts.{begins}
use Rattle.ssm_world.specs.Worlds.{WorldValue, next_of, is_new, after}
use Rattle.session_lanes.specs.Lane.{LaneState, lane_at, with_reply}
use Rattle.session_lanes.specs.Lanes.{LanesState, after_event, with_lane, asks, hears, listens, turn_to}
use Rattle.session_lanes.specs.Steps.{LanesStep, after_step, after_steps, begins_with}
use Rattle.session_lanes.proofs.StepCases.{step_cases}

-- the law of worlds that a nonce stays new
abbrev pub StaysLaw : Type 0
StaysLaw = (w : WorldValue) (events : List WorldEvent) (nonce : Version) → is_new w nonce ≡ true → list_any (begins nonce) events ≡ false → is_new (after w events) nonce ≡ true

-- events that begin no call with a nonce made the one world of the other
abbrev Without : Version → WorldValue → WorldValue → Type 0
Without nonce w v = (events : List WorldEvent) × (v ≡ after w events) × (list_any (begins nonce) events ≡ false)

module _ (st : LanesState) (nonce : Version) where
  -- what is shown of each call of lanes
  abbrev Goes : LanesState → Type 0
  Goes later = Without nonce st.world later.world

  none_goes : Goes st
  none_goes = ([], refl, refl)

  turn_goes : (n : ℕ) (x : StubNext) → Goes (turn_to st n x)
  turn_goes n (next.Send brick) = sends (lane_at st.lanes brick.0) where
    sends : (o : Option LaneState) → Goes (asks st n brick o)
    sends None = (event.Send n true false ∷ [], refl, refl)
    sends (Some lane) = go (nat_lt 0 lane.to_drop) where
      go : (b : Bool) → Goes (if b then with_lane (after_event st (event.Send n false true)) brick.0 (record lane { to_drop = lane.to_drop - 1 })
          else with_lane (after_event (after_event st (event.Send n false true)) (event.Deliver (length st.world.packets))) brick.0 (with_reply (length st.world.packets + 1) lane))
      go true = (event.Send n false true ∷ [], refl, refl)
      go false = (event.Send n false true ∷ event.Deliver (length st.world.packets) ∷ [], refl, refl)
  turn_goes n (next.Receive brick) = receives (lane_at st.lanes brick.0) where
    heard : (lane : LaneState) (queue : List ℕ) → Goes (hears st n brick lane queue)
    heard lane [] = (event.Hush n ∷ [], refl, refl)
    heard lane (packet ∷ rest) = (event.Hear n packet ∷ [], refl, refl)

    receives : (o : Option LaneState) → Goes (listens st n brick o)
    receives None = (event.Hush n ∷ [], refl, refl)
    receives (Some lane) = heard lane lane.queue
  turn_goes n next.Ended = none_goes

  step_goes : (s : LanesStep) → begins_with nonce s ≡ false → Goes (after_step st s)
  step_goes s other = step_cases Goes st s (record {
    same = none_goes;
    windowed = λ windows. none_goes;
    happens = λ e untold begun. (e ∷ [], refl, ap (λ b. b || false) (begun nonce ∙ other));
    turned = λ n c is there. turn_goes n (next_of c);
    changed = λ windows brick lane new at names. none_goes;
  })

pub stays_new : StaysLaw → (st : LanesState) (steps : List LanesStep) (nonce : Version) → is_new st.world nonce ≡ true → list_any (begins_with nonce) steps ≡ false → is_new (after_steps st steps).world nonce ≡ true
stays_new law st [] nonce new none = new
stays_new law st (s ∷ steps) nonce new none =
    let parts : (begins_with nonce s ≡ false) × (list_any (begins_with nonce) steps ≡ false) = or_parts (begins_with nonce s) (list_any (begins_with nonce) steps) none in
    let goes : Without nonce st.world (after_step st s).world = step_goes st nonce s parts.0 in
    let later : is_new (after_step st s).world nonce ≡ true = subst (λ (w : WorldValue). is_new w nonce ≡ true) (sym goes.1) (law st.world goes.0 nonce new goes.2) in
    stays_new law (after_step st s) steps nonce later parts.1
