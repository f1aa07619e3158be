-- How the twin of what a connection does with its session begins, stays and goes.
use Rattle.std.specs.Prelude.{ℕ, List, [], length, Option, Some, None}
use Rattle.auction_calls.specs.declared.action.ActionCall.{ActionCall}
use Rattle.lane_link.specs.Twins.{call_held}
use Rattle.session_lanes.specs.Lanes.{LanesState, begun_read, begun_write}
use Rattle.session_way.specs.Reading.{cookie_asked}
use Rattle.session_way.specs.Writing.{WritingState}
use Rattle.session_way.specs.declared.way.SessionWay.{SessionWay}
use Rattle.session_way.specs.declared.way.SessionWay.TheVariants as way
use Rattle.shepherd.specs.declared.shepherd.Stage.{Stage}
use Rattle.shepherd.specs.declared.shepherd.Stage.TheVariants.{Resting, Serving, Refusing, Over}
use Rattle.ssm_frames.specs.declared.frame.Frame.{Frame}
use Rattle.ssm_frames.specs.declared.frame.Frame.TheVariants.{Put, Get, Sweep, Stored, Found, Absent, BrickFull, Swept}
use Rattle.ssm_world.specs.declared.call.Call.{Call}

-- what is done with the session of the request that is open, if one is: nothing, where none is
abbrev pub way_in : Stage ActionCall → SessionWay
way_in Resting = way.Resting
way_in (Serving v call) = v.way
way_in (Refusing why bytes) = way.Resting
way_in (Over end) = way.Resting

-- the value that a frame asks to put, if it asks for that
abbrev pub value_put : Frame → List ℕ
value_put (Put nonce key version expiry value) = value
value_put (Get nonce key version) = []
value_put (Sweep nonce moment) = []
value_put (Stored nonce key version brick incarnation) = []
value_put (Found nonce key version brick incarnation expiry value) = []
value_put (Absent nonce key version brick incarnation swept) = []
value_put (BrickFull nonce key version brick incarnation entries bytes) = []
value_put (Swept nonce brick incarnation moment) = []

-- the lanes after a write has begun in their world as this one began
abbrev pub write_there : LanesState → WritingState → LanesState
write_there st w = begun_write st w.write.nonce w.write.key (value_put w.write.ask) w.write.expiry w.passes

-- the lanes after the read or the write that a way holds, if one, has begun in their world as it began
abbrev pub begun_there : LanesState → SessionWay → LanesState
begun_there st way.Resting = st
begun_there st (way.Reading r) = begun_read st r.nonce r.moment (cookie_asked r)
begun_there st (way.Ordered order) = st
begun_there st (way.Writing w) = write_there st w
begun_there st (way.Settling w) = write_there st w
begun_there st (way.Holding passes) = st

-- the number of the twin of what a way holds, if it holds something; and the lanes
pub record Twinned : Type 0 where
  pub twin : Option ℕ
  pub store : LanesState

-- the same, by what is held, and by the twin so far
abbrev pub twinned_by : Option Call → Option ℕ → SessionWay → LanesState → Twinned
twinned_by None twin to st = record { twin = None; store = st }
twinned_by (Some held) None to st = record { twin = Some (length st.world.calls); store = begun_there st to }
twinned_by (Some held) (Some number) to st = record { twin = Some number; store = st }

-- What a way holds has a twin from now on: where it has none yet, that begins, as the last call of the world. Where
-- nothing is held any more, there is none.
abbrev pub twinned : SessionWay → Option ℕ → LanesState → Twinned
twinned to twin st = twinned_by (call_held to) twin to st
