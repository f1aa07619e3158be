-- What the link of a seat answers, as functions of its state.
use Rattle.std.specs.Prelude.{◌≡◌, ℕ, List, [], Option, Some, None, slice_get}
use Rattle.std.specs.Option.{option_map}
use Rattle.crash_base.specs.declared.numbers.BrickNo.{BrickNo}
use Rattle.lane_link.specs.Links.{SpellsPacket, after_receive, after_send, heard_next, takes_send}
use Rattle.lane_link.specs.Twins.{call_held}
use Rattle.lane_link.specs.declared.link.LaneLink.{LaneLink}
use Rattle.session_lanes.specs.Lanes.{LanesState}
use Rattle.session_way.specs.declared.way.SessionWay.{SessionWay}
use Rattle.shepherd.specs.Shepherds.{turn}
use Rattle.shepherd.specs.declared.shepherd.ShepherdTurn.TheVariants as turns
use Rattle.shepherd_steps.specs.Outside.{Replies}
use Rattle.ssm_frames.specs.Spelling.{encode_of}
use Rattle.ssm_stub.specs.declared.event.StubNext.TheVariants as next
use Rattle.ssm_world.specs.Worlds.{next_of}
use Rattle.ssm_world.specs.declared.event.Packet.{Packet}
use Rattle.seat_steps.specs.Twinned.{way_in}
use Rattle.seat_steps.specs.declared.seat.Seat.{Seat}

-- the bytes that spell the frame of a packet; none where there is no such packet
abbrev pub packet_bytes : Option Packet → List ℕ
packet_bytes None = []
packet_bytes (Some packet) = encode_of packet.frame

-- the frame that a link gives where the packet of this number comes, if one does
abbrev pub frame_heard : LaneLink → Option ℕ → Option (List ℕ)
frame_heard link None = None
frame_heard link (Some packet) = Some (packet_bytes (slice_get link.lanes.world.packets packet))

-- What the link answers: it takes a frame and gives one only by a turn of its active call.
unfoldable pub lane_replies : Replies LaneLink
lane_replies = record {
  sends = λ link to frame. (takes_send link to frame, after_send link to frame);
  receives = λ link from. (frame_heard link (heard_next link from), after_receive link from);
}

-- the bytes of the packet of this number, if one comes, spell its frame
abbrev pub IsSpelled : LanesState → Option ℕ → Type 0
IsSpelled st None = Unit {0}
IsSpelled st (Some number) =
    SpellsPacket (packet_bytes (slice_get st.world.packets number)) (slice_get st.world.packets number)

-- What a way would hear over a link, where it wants to hear a brick, is spelled by its bytes, as each frame of the code
-- is.
abbrev pub HearsSpelled : SessionWay → LaneLink → Type 0
HearsSpelled to link =
    (from : BrickNo) → option_map next_of (call_held to) ≡ Some (next.Receive from) → IsSpelled link.lanes (heard_next link from)

-- what a seat would hear over bricks is spelled by its bytes, where its turn is to call the link
abbrev pub SeatHears : Seat → LanesState → Type 0
SeatHears seat st =
    turn seat.connection ≡ turns.Outside → HearsSpelled (way_in seat.connection.stage) (record { lanes = st; active = seat.twin })
