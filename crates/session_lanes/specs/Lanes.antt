-- Bricks with their lanes: a world, whose packets come in the order of lanes, and the windows on what is sent.
use Rattle.std.specs.Prelude.{◌≡◌, ◌≤◌, IsTrue, ℕ, zero, suc, ◌+◌, ◌*◌, ◌-◌, nat_lt, Bool, true, false, if◌then◌else◌, List, [], ◌∷◌, length, map, slice_get, Option, Some, None}
use Rattle.std.specs.Option.{option_map, option_and_then}
use lib.ListN.{replicate}
use Rattle.crash_base.specs.declared.numbers.BrickNo.{BrickNo}
use Rattle.session_cookie.specs.declared.cookie.TheConstants.{MAX_HOLDERS}
use Rattle.send_windows.specs.declared.pass.Pass.{Pass}
use Rattle.crash_base.specs.declared.numbers.Moment.{Moment}
use Rattle.crash_base.specs.declared.numbers.SessionKey.{SessionKey}
use Rattle.crash_base.specs.declared.numbers.Version.{Version}
use Rattle.session_cookie.specs.declared.cookie.Cookie.{Cookie}
use Rattle.send_windows.specs.declared.fact.TheConstants.{MAX_BRICKS}
use Rattle.send_windows.specs.Passes.{hushed}
use Rattle.send_windows.specs.Windows.{WindowsValue, new_windows, after_spend}
use Rattle.ssm_stub.specs.declared.event.StubNext.{StubNext}
use Rattle.ssm_stub.specs.declared.event.StubNext.TheVariants as next
use Rattle.ssm_stub.specs.Writes.{heard_passes}
use Rattle.ssm_world.specs.declared.call.Call.{Call}
use Rattle.ssm_world.specs.declared.call.Call.TheVariants as call
use Rattle.ssm_world.specs.declared.event.WorldEvent.{WorldEvent}
use Rattle.ssm_world.specs.declared.event.WorldEvent.TheVariants.{Write, Read, Send, Deliver, Hear, Hush}
use Rattle.ssm_world.specs.Worlds.{WorldValue, new_world, next_of, step}
use Rattle.session_lanes.specs.Counts.{CountsState, new_counts, silent_by, frame_got}
use Rattle.session_lanes.specs.Lane.{LaneState, new_lane, with_reply, lane_at, with_lane_at}
use Rattle.session_lanes.specs.declared.lanes.TheConstants.{TURNS_PER_BRICK}

-- The bricks by their world, the windows on what is sent to each, the lane of each, in order of number, and what is
-- counted of all calls.
pub record LanesState : Type 0 where
  pub world : WorldValue
  pub windows : WindowsValue
  pub lanes : List LaneState
  pub counts : CountsState

-- Each of at most 16 bricks has a lane, and passes to it may be held.
pub record HasLanes (st : LanesState) : Type 0 where
  pub each : length st.lanes ≡ length st.windows.facts
  pub few : length st.lanes ≤ MAX_BRICKS
  pub holds : IsTrue st.windows.holds

-- so many new bricks, of which a write asks at most and needs at least so many
abbrev pub new_lanes : ℕ → ℕ → ℕ → LanesState
new_lanes bricks most least =
    record {
      world = new_world bricks;
      windows = new_windows bricks most least true;
      lanes = replicate bricks new_lane;
      counts = new_counts bricks;
    }

-- the lanes after an event of its world
abbrev pub after_event : LanesState → WorldEvent → LanesState
after_event st event = record st { world = step st.world event }

-- the lanes with this one of the brick of a number
abbrev pub with_lane : LanesState → ℕ → LaneState → LanesState
with_lane st brick lane = record st { lanes = with_lane_at st.lanes brick lane }

-- the number of the packet with the first reply that waits for the brick of a number to be heard, if one does
abbrev pub first_waiting : LanesState → ℕ → Option ℕ
first_waiting st brick = option_and_then (λ (lane : LaneState). slice_get lane.queue 0) (lane_at st.lanes brick)

-- the lanes with these counts
abbrev pub with_counts : LanesState → CountsState → LanesState
with_counts st counts = record st { counts = counts }

-- the lanes after the brick of a number was silent once more
abbrev pub silent_once : LanesState → ℕ → LanesState
silent_once st brick = with_counts st (silent_by brick st.counts)

-- the lanes after an event in which the brick of a number was silent
abbrev pub in_silence : LanesState → ℕ → WorldEvent → LanesState
in_silence st brick event = with_counts (after_event st event) (silent_by brick st.counts)

-- the lanes after a call heard a packet
abbrev pub gets : LanesState → ℕ → ℕ → LanesState
gets st call packet = with_counts (after_event st (Hear call packet)) (frame_got st.counts)

-- A call sends its ask to a brick, whose lane this is. To a number without a brick the link is silent. The ask is
-- dropped where one is still to be dropped. Else the brick replies at once: the ask is the next packet, and its reply
-- the one after.
abbrev pub asks : LanesState → ℕ → BrickNo → Option LaneState → LanesState
asks st call brick None = in_silence st brick.0 (Send call true false)
asks st call brick (Some lane) =
    if nat_lt 0 lane.to_drop
    then with_lane (after_event st (Send call false true)) brick.0 (record lane { to_drop = lane.to_drop - 1 })
    else with_lane
    (after_event (after_event st (Send call false true)) (Deliver (length st.world.packets)))
    brick.0 (with_reply (length st.world.packets + 1) lane)

-- A call hears a brick, on whose lane these replies wait: the first comes, or the link is silent.
abbrev pub hears : LanesState → ℕ → BrickNo → LaneState → List ℕ → LanesState
hears st call brick lane [] = in_silence st brick.0 (Hush call)
hears st call brick lane (packet ∷ rest) =
    with_lane (gets st call packet) brick.0 (record lane { queue = rest })

-- a call hears a brick, whose lane this is, if there is one
abbrev pub listens : LanesState → ℕ → BrickNo → Option LaneState → LanesState
listens st call brick None = in_silence st brick.0 (Hush call)
listens st call brick (Some lane) = hears st call brick lane lane.queue

-- a call does what it wants next
abbrev pub turn_to : LanesState → ℕ → StubNext → LanesState
turn_to st call (next.Send brick) = asks st call brick (lane_at st.lanes brick.0)
turn_to st call (next.Receive brick) = listens st call brick (lane_at st.lanes brick.0)
turn_to st call next.Ended = st

-- the call of a number does what it wants next, if there is one
abbrev pub turn_of : LanesState → ℕ → Option Call → LanesState
turn_of st call None = st
turn_of st call (Some c) = turn_to st call (next_of c)

-- whether a call that wants this next, if there is one, wants more: to send, or to hear
abbrev pub is_more : Option StubNext → Bool
is_more None = false
is_more (Some (next.Send brick)) = true
is_more (Some (next.Receive brick)) = true
is_more (Some next.Ended) = false

-- whether the call of a number, if there is one, wants more
abbrev pub wants_more : LanesState → ℕ → Bool
wants_more st call = is_more (option_map next_of (slice_get st.world.calls call))

-- the call of a number goes on for so many turns
abbrev pub turns : ℕ → LanesState → ℕ → LanesState
turns zero st call = st
turns (suc n) st call = turns n (turn_of st call (slice_get st.world.calls call)) call

-- The call of a number goes on until it wants nothing more: of each brick, of which it asks 16 at most, it is told
-- that its ask was sent, and then 64 replies at most or that the link is silent.
unfoldable pub gone_on : LanesState → ℕ → LanesState
gone_on st call = turns (TURNS_PER_BRICK * MAX_HOLDERS) st call

-- Passes by what a call heard of their bricks, where it is a write. What was not heard counts as silent.
abbrev pub heard_by : Option Call → List Pass → List Pass
heard_by None passes = map hushed passes
heard_by (Some (call.Write write)) passes = map hushed (heard_passes write passes)
heard_by (Some (call.Read read)) passes = map hushed passes

-- the lanes after passes were spent
abbrev pub spent_as : LanesState → List Pass → LanesState
spent_as st passes = record st { windows = after_spend st.windows passes }

-- the lanes after a write has begun, where it may, at the bricks of these passes
abbrev pub begun_write : LanesState → Version → SessionKey → List ℕ → Moment → List Pass → LanesState
begun_write st nonce key value expiry passes =
    after_event st (Write nonce key value expiry (map (λ (pass : Pass). pass.brick) passes) st.windows.wq)

-- the lanes after a read of a cookie has begun, where it may, at a moment
abbrev pub begun_read : LanesState → Version → Moment → Cookie → LanesState
begun_read st nonce now cookie = after_event st (Read nonce now cookie)

-- The lanes after a write with this nonce, of a value under a session key until a moment, has begun at the bricks of
-- these passes, and has gone on to its end.
abbrev pub written_out : LanesState → Version → SessionKey → List ℕ → Moment → List Pass → LanesState
written_out st nonce key value expiry passes =
    gone_on (begun_write st nonce key value expiry passes) (length st.world.calls)

-- the lanes after a read with this nonce of a cookie has begun at a moment, and has gone on to its answer
abbrev pub read_out : LanesState → Version → Moment → Cookie → LanesState
read_out st nonce now cookie = gone_on (begun_read st nonce now cookie) (length st.world.calls)
