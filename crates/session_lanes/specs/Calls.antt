-- What the calls about one brick do. Each leaves other lanes, or None where it is refused.
use Rattle.std.specs.Prelude.{ℕ, ◌-◌, Bool, true, false, nat_lt, List, length, Option, Some, None}
use Rattle.std.specs.Option.{option_map, option_and_then}
use Rattle.brick_store.specs.History.{all_held}
use Rattle.brick_store.specs.declared.event.BrickEvent.{BrickEvent}
use Rattle.crash_base.specs.declared.numbers.BrickNo.{BrickNo}
use Rattle.crash_base.specs.declared.numbers.Moment.{Moment}
use Rattle.send_windows.specs.Passes.{unheard, with_mark, hushed}
use Rattle.send_windows.specs.Windows.{WindowsValue, pass_tried, after_try, after_pass, window_in, in_flight_in}
use Rattle.send_windows.specs.declared.pass.Pass.{Pass}
use Rattle.send_windows.specs.declared.pass.PassMark.{PassMark}
use Rattle.ssm_world.specs.declared.event.WorldEvent.TheVariants.{Crash, Sweep}
use Rattle.ssm_world.specs.Worlds.{history, may_happen}
use Rattle.session_lanes.specs.Lane.{LaneState, brick_no, raised, losing, dropping, waiting, reply_made, lane_at}
use Rattle.session_lanes.specs.declared.lanes.HoldAnswer.{HoldAnswer}
use Rattle.session_lanes.specs.declared.lanes.HoldAnswer.TheVariants.{Held, Full}
use Rattle.session_lanes.specs.Lanes.{LanesState, after_event, with_lane}

-- what a call left that answers whether it was done; None where it was not
abbrev pub left_if : Bool → LanesState → Option LanesState
left_if true st = Some st
left_if false st = None

-- the lanes after a change of the lane of the brick of a number, if there is one
abbrev pub on_lane : LanesState → ℕ → (LaneState → LaneState) → Option LanesState
on_lane st brick change = option_map (λ (lane : LaneState). with_lane st brick (change lane)) (lane_at st.lanes brick)

-- more of a brick's next replies are to be lost
abbrev pub more_lost : LanesState → ℕ → ℕ → Option LanesState
more_lost st brick more = on_lane st brick (losing more)

-- more of the next asks to a brick are to be dropped
abbrev pub more_dropped : LanesState → ℕ → ℕ → Option LanesState
more_dropped st brick more = on_lane st brick (dropping more)

-- a reply that a brick made waits once more, behind the others
abbrev pub repeated : LanesState → ℕ → ℕ → Option LanesState
repeated st brick number =
    option_and_then
    (λ (lane : LaneState). option_map (λ (packet : ℕ). with_lane st brick (waiting packet lane)) (reply_made lane number))
    (lane_at st.lanes brick)

-- a brick crashes, where its incarnation is not the last
abbrev pub brick_crashed : LanesState → ℕ → Option LanesState
brick_crashed st brick =
    option_and_then
    (λ (lane : LaneState). left_if (may_happen st.world (Crash (brick_no brick))) (after_event st (Crash (brick_no brick))))
    (lane_at st.lanes brick)

-- a brick is swept at a moment
abbrev pub brick_swept : LanesState → ℕ → Moment → Option LanesState
brick_swept st brick moment =
    option_map (λ (lane : LaneState). after_event st (Sweep (brick_no brick) moment)) (lane_at st.lanes brick)

-- how many values a brick keeps
abbrev pub values_of : LanesState → ℕ → Option ℕ
values_of st brick =
    option_and_then
    (λ (lane : LaneState). option_map (λ (h : List BrickEvent). length (all_held h)) (history st.world (brick_no brick)))
    (lane_at st.lanes brick)

-- how many of these there are, or 0
abbrev pub count_or_0 : Option ℕ → ℕ
count_or_0 None = 0
count_or_0 (Some n) = n

-- What is answered where a pass to a brick is to be held, by the pass that was given: how many are in flight by then,
-- or that its window is full.
abbrev pub answer_by : WindowsValue → BrickNo → Option Pass → HoldAnswer
answer_by windows brick None = Full (count_or_0 (window_in windows brick)) (count_or_0 (in_flight_in windows brick))
answer_by windows brick (Some pass) = Held (count_or_0 (in_flight_in (after_try windows brick) brick))

-- what is answered where a pass to the brick of a number is to be held, if there is one
abbrev pub hold_answer : LanesState → ℕ → Option HoldAnswer
hold_answer st brick =
    option_map (λ (lane : LaneState). answer_by st.windows (brick_no brick) (pass_tried st.windows (brick_no brick)))
    (lane_at st.lanes brick)

-- the lanes after this pass to a brick, if it was given, is held
abbrev pub held_by : LanesState → ℕ → LaneState → Option Pass → LanesState
held_by st brick lane None = st
held_by st brick lane (Some pass) =
    with_lane (record st { windows = after_try st.windows (brick_no brick) }) brick
    (record lane { held = raised lane.held 1 })

-- a pass to a brick is held, where its window is open
abbrev pub pass_held : LanesState → ℕ → Option LaneState → LanesState
pass_held st brick None = st
pass_held st brick (Some lane) = held_by st brick lane (pass_tried st.windows (brick_no brick))

-- The last pass that is held of a brick is spent with a mark, where one is held. Unheard counts as silent.
abbrev pub pass_freed : LanesState → ℕ → PassMark → Option LanesState
pass_freed st brick mark =
    option_and_then
    (λ (lane : LaneState). left_if (nat_lt 0 lane.held)
    (with_lane (record st { windows = after_pass st.windows (hushed (with_mark (unheard (brick_no brick)) mark)) }) brick
    (record lane { held = lane.held - 1 })))
    (lane_at st.lanes brick)
