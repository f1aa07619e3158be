-- What a call of lanes can come to.
use Rattle.std.proofs.Common.{◌≡◌, ◌⊎◌, inl, inr, ℕ, ◌-◌, Bool, true, false, nat_lt, [], ◌∷◌, ◌++◌, map, Option, Some, None, refl}
use Rattle.std.specs.Prelude.{slice_get}
use Rattle.std.specs.Option.{option_map, option_and_then}
use Rattle.crash_base.specs.declared.numbers.Version.{Version}
use Rattle.send_windows.specs.Passes.{unheard, with_mark, hushed}
use Rattle.send_windows.specs.Windows.{WindowsValue, pass_tried, after_try, after_pass, after_spend}
use Rattle.send_windows.specs.declared.pass.Pass.{Pass}
use Rattle.ssm_world.specs.declared.call.Call.{Call}
use Rattle.ssm_world.specs.declared.event.WorldEvent.{WorldEvent}
use Rattle.ssm_world.specs.declared.event.WorldEvent.TheVariants as event
use Rattle.ssm_world.specs.Facts.{begins}
use Rattle.ssm_world.specs.Worlds.{next_of, may_happen}
use Rattle.session_lanes.specs.Calls.{left_if, held_by, pass_held}
use Rattle.session_lanes.specs.Lane.{LaneState, brick_no, raised, losing, dropping, waiting, reply_made, lane_at}
use Rattle.session_lanes.specs.Lanes.{LanesState, after_event, with_lane, heard_by, turn_to, turn_of}
use Rattle.session_lanes.specs.Steps.{LanesStep, Takes, BeginsWrite, BeginsRead, TakesTurn, Settles, Loses, DropsAsks, Repeats, Crashes, Sweeps, Holds, Frees, or_same, after_take, after_step, begins_with}

-- A lane names no packet that another does not name: the same wait, or one more that the other made.
pub record NamesNoMore (lane new : LaneState) : Type 0 where
  pub made : new.made ≡ lane.made
  pub queue : (new.queue ≡ lane.queue) ⊎ ((number packet : ℕ) × (reply_made lane number ≡ Some packet) × (new.queue ≡ lane.queue ++ packet ∷ []))

-- an event by which a call begins, or which happens to a brick
abbrev pub TellsNoCall : WorldEvent → Type 0
TellsNoCall (event.Write nonce key value expiry bricks least) = Unit {0}
TellsNoCall (event.Read nonce now cookie) = Unit {0}
TellsNoCall (event.Send call silent is_sent) = ⊥
TellsNoCall (event.Deliver packet) = ⊥
TellsNoCall (event.Hear call packet) = ⊥
TellsNoCall (event.Hush call) = ⊥
TellsNoCall (event.Crash brick) = Unit {0}
TellsNoCall (event.Sweep brick moment) = Unit {0}

-- What is shown of each store that a call of lanes can come to.
pub record StepCases (P : LanesState → Type 0) (st : LanesState) (s : LanesStep) : Type 0 where
  pub same : P st
  pub windowed : (windows : WindowsValue) → P (record st { windows = windows })
  pub happens : (e : WorldEvent) → TellsNoCall e → ((nonce : Version) → begins nonce e ≡ begins_with nonce s) → P (after_event st e)
  pub turned : (n : ℕ) (c : Call) → s ≡ TakesTurn n → slice_get st.world.calls n ≡ Some c → P (turn_to st n (next_of c))
  pub changed : (windows : WindowsValue) (brick : ℕ) (lane new : LaneState) → lane_at st.lanes brick ≡ Some lane → NamesNoMore lane new → P (with_lane (record st { windows = windows }) brick new)

-- a call of lanes comes to one of these
module _ (P : LanesState → Type 0) (st : LanesState) (s : LanesStep) (cases : StepCases P st s) where
  changes : (brick : ℕ) (change : LaneState → LaneState) → ((lane : LaneState) → NamesNoMore lane (change lane)) → P (or_same st (option_map (λ (lane : LaneState). with_lane st brick (change lane)) (lane_at st.lanes brick)))
  changes brick change names = go (lane_at st.lanes brick) refl where
    go : (o : Option LaneState) → lane_at st.lanes brick ≡ o → P (or_same st (option_map (λ (lane : LaneState). with_lane st brick (change lane)) o))
    go None at = cases.same
    go (Some lane) at = cases.changed st.windows brick lane (change lane) at (names lane)

  if_left : (b : Bool) (later : LanesState) → P later → P (or_same st (left_if b later))
  if_left true later holds = holds
  if_left false later holds = cases.same

  repeats : (brick number : ℕ) → P (or_same st (option_and_then (λ (lane : LaneState). option_map (λ (packet : ℕ). with_lane st brick (waiting packet lane)) (reply_made lane number)) (lane_at st.lanes brick)))
  repeats brick number = go (lane_at st.lanes brick) refl where
    waits : (lane : LaneState) → lane_at st.lanes brick ≡ Some lane → (o : Option ℕ) → reply_made lane number ≡ o → P (or_same st (option_map (λ (packet : ℕ). with_lane st brick (waiting packet lane)) o))
    waits lane at None is = cases.same
    waits lane at (Some packet) is = cases.changed st.windows brick lane (waiting packet lane) at (record { made = refl; queue = inr (number, packet, is, refl) })

    go : (o : Option LaneState) → lane_at st.lanes brick ≡ o → P (or_same st (option_and_then (λ (lane : LaneState). option_map (λ (packet : ℕ). with_lane st brick (waiting packet lane)) (reply_made lane number)) o))
    go None at = cases.same
    go (Some lane) at = waits lane at (reply_made lane number) refl

  crashes : (brick : ℕ) → P (after_event st (event.Crash (brick_no brick))) → P (or_same st (option_and_then (λ (lane : LaneState). left_if (may_happen st.world (event.Crash (brick_no brick))) (after_event st (event.Crash (brick_no brick)))) (lane_at st.lanes brick)))
  crashes brick holds = go (lane_at st.lanes brick) where
    go : (o : Option LaneState) → P (or_same st (option_and_then (λ (lane : LaneState). left_if (may_happen st.world (event.Crash (brick_no brick))) (after_event st (event.Crash (brick_no brick)))) o))
    go None = cases.same
    go (Some lane) = if_left (may_happen st.world (event.Crash (brick_no brick))) (after_event st (event.Crash (brick_no brick))) holds

  if_there : {A : Type 0} (o : Option A) (later : LanesState) → P later → P (or_same st (option_map (λ (x : A). later) o))
  if_there None later holds = cases.same
  if_there (Some x) later holds = holds

  holds_pass : (brick : ℕ) (o : Option LaneState) → lane_at st.lanes brick ≡ o → P (pass_held st brick o)
  holds_pass brick None at = cases.same
  holds_pass brick (Some lane) at = go (pass_tried st.windows (brick_no brick)) where
    go : (o : Option Pass) → P (held_by st brick lane o)
    go None = cases.same
    go (Some pass) = cases.changed (after_try st.windows (brick_no brick)) brick lane (record lane { held = raised lane.held 1 }) at (record { made = refl; queue = inl refl })

  frees : (brick : ℕ) (windows : WindowsValue) → P (or_same st (option_and_then (λ (lane : LaneState). left_if (nat_lt 0 lane.held) (with_lane (record st { windows = windows }) brick (record lane { held = lane.held - 1 }))) (lane_at st.lanes brick)))
  frees brick windows = go (lane_at st.lanes brick) refl where
    go : (o : Option LaneState) → lane_at st.lanes brick ≡ o → P (or_same st (option_and_then (λ (lane : LaneState). left_if (nat_lt 0 lane.held) (with_lane (record st { windows = windows }) brick (record lane { held = lane.held - 1 }))) o))
    go None at = cases.same
    go (Some lane) at = if_left (nat_lt 0 lane.held) (with_lane (record st { windows = windows }) brick (record lane { held = lane.held - 1 }))
        (cases.changed windows brick lane (record lane { held = lane.held - 1 }) at (record { made = refl; queue = inl refl }))

  turns_call : (n : ℕ) → s ≡ TakesTurn n → (o : Option Call) → slice_get st.world.calls n ≡ o → P (turn_of st n o)
  turns_call n is None there = cases.same
  turns_call n is (Some c) there = cases.turned n c is there

-- what is shown of each case is so of the call
pub step_cases : (P : LanesState → Type 0) (st : LanesState) (s : LanesStep) → StepCases P st s → P (after_step st s)
step_cases P st (Takes first) cases = cases.windowed (after_take st.windows first)
step_cases P st (BeginsWrite n key value expiry passes) cases = cases.happens (event.Write n key value expiry (map (λ (pass : Pass). pass.brick) passes) st.windows.wq) tt (λ nonce. refl)
step_cases P st (BeginsRead n now cookie) cases = cases.happens (event.Read n now cookie) tt (λ nonce. refl)
step_cases P st (TakesTurn n) cases = turns_call P st (TakesTurn n) cases n refl (slice_get st.world.calls n) refl
step_cases P st (Settles n passes) cases = cases.windowed (after_spend st.windows (heard_by (slice_get st.world.calls n) passes))
step_cases P st (Loses brick more) cases = changes P st (Loses brick more) cases brick (losing more) (λ lane. record { made = refl; queue = inl refl })
step_cases P st (DropsAsks brick more) cases = changes P st (DropsAsks brick more) cases brick (dropping more) (λ lane. record { made = refl; queue = inl refl })
step_cases P st (Repeats brick number) cases = repeats P st (Repeats brick number) cases brick number
step_cases P st (Crashes brick) cases = crashes P st (Crashes brick) cases brick (cases.happens (event.Crash (brick_no brick)) tt (λ nonce. refl))
step_cases P st (Sweeps brick moment) cases = if_there P st (Sweeps brick moment) cases (lane_at st.lanes brick) (after_event st (event.Sweep (brick_no brick) moment)) (cases.happens (event.Sweep (brick_no brick) moment) tt (λ nonce. refl))
step_cases P st (Holds brick) cases = holds_pass P st (Holds brick) cases brick (lane_at st.lanes brick) refl
step_cases P st (Frees brick mark) cases = frees P st (Frees brick mark) cases brick (after_pass st.windows (hushed (with_mark (unheard (brick_no brick)) mark)))
