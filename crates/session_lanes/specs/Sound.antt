-- What holds of lanes between two calls of them.
use Rattle.std.specs.Prelude.{◌≡◌, ℕ, false, length, All, slice_get, Some}
use Rattle.ssm_frames.specs.Requests.{is_request}
use Rattle.ssm_world.specs.declared.event.Packet.{Packet}
use Rattle.ssm_world.specs.Worlds.{WorldValue, IsMade}
use Rattle.session_lanes.specs.Lane.{LaneState, lane_at}
use Rattle.session_lanes.specs.Lanes.{LanesState}

-- this number is that of a packet with a reply of a brick
pub record IsReplyOf (w : WorldValue) (brick number : ℕ) : Type 0 where
  pub packet : Packet
  pub there : slice_get w.packets number ≡ Some packet
  pub brick_is : packet.brick.0 ≡ brick
  pub replies : is_request packet.frame ≡ false

-- Each brick has its lane, and the packets that a lane names are replies of its brick.
pub record LanesAreOf (st : LanesState) : Type 0 where
  pub as_many : length st.lanes ≡ length st.world.histories
  pub queue : (brick : ℕ) (lane : LaneState) → lane_at st.lanes brick ≡ Some lane → All (IsReplyOf st.world brick) lane.queue
  pub made : (brick : ℕ) (lane : LaneState) → lane_at st.lanes brick ≡ Some lane → All (IsReplyOf st.world brick) lane.made

-- What holds of lanes between two calls: events made their world, and each packet that a lane names is a reply of its
-- brick.
pub record LanesAreSound (st : LanesState) : Type 0 where
  pub made : IsMade st.world
  pub lanes : LanesAreOf st
