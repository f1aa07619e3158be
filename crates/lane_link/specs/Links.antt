-- Lanes as a link: what its calls answer, and what they leave.
use Rattle.std.specs.Prelude.{◌≡◌, ℕ, ◌-◌, ◌^◌, ◌&&◌, min, Bool, true, false, bytes_eq, if◌then◌else◌, List, [], Option, Some, None, is_some, slice_get}
use Rattle.std.specs.Option.{option_map, option_map_or, option_and_then}
use Rattle.crash_base.specs.declared.numbers.BrickNo.{BrickNo}
use Rattle.outside.specs.declared.link.LinkEvent.{LinkEvent}
use Rattle.outside.specs.declared.link.LinkEvent.TheVariants.{Sends, SendsInSilence, Gets, HearsSilence, WantsToSend, WantsToReceive}
use Rattle.outside.specs.Link.{Tally}
use Rattle.send_windows.specs.Windows.{WindowsValue}
use Rattle.ssm_frames.specs.Reading.{decode_of}
use Rattle.ssm_frames.specs.Spelling.{encode_of}
use Rattle.ssm_stub.specs.declared.event.StubNext.{StubNext}
use Rattle.ssm_stub.specs.declared.event.StubNext.TheVariants as next
use Rattle.ssm_world.specs.declared.call.Call.{Call}
use Rattle.ssm_world.specs.declared.event.Packet.{Packet}
use Rattle.ssm_world.specs.Worlds.{ask_of, next_of, same_brick}
use Rattle.session_lanes.specs.Counts.{silences_of}
use Rattle.session_lanes.specs.Lane.{lane_at}
use Rattle.session_lanes.specs.Lanes.{LanesState, first_waiting, silent_once, turn_of}
use Rattle.lane_link.specs.declared.link.LaneLink.{LaneLink}

-- the active call, if there is one
abbrev pub active_call : LaneLink → Option Call
active_call link = option_and_then (λ (call : ℕ). slice_get link.lanes.world.calls call) link.active

-- what the active call wants next, if there is one
abbrev pub next_wanted : LaneLink → Option StubNext
next_wanted link = option_map next_of (active_call link)

-- whether what is wanted is to send to this brick
abbrev pub sends_to : BrickNo → Option StubNext → Bool
sends_to to None = false
sends_to to (Some (next.Send brick)) = same_brick brick to
sends_to to (Some (next.Receive brick)) = false
sends_to to (Some next.Ended) = false

-- whether what is wanted is to hear this brick
abbrev pub hears_from : BrickNo → Option StubNext → Bool
hears_from from None = false
hears_from from (Some (next.Send brick)) = false
hears_from from (Some (next.Receive brick)) = same_brick brick from
hears_from from (Some next.Ended) = false

-- whether these bytes spell the ask of a call, if there is one
abbrev pub is_ask : List ℕ → Option Call → Bool
is_ask bytes call = option_map_or (λ (c : Call). bytes_eq (encode_of (ask_of c)) bytes) call false

-- whether the active call wants to send just these bytes to this brick
abbrev pub wants_to_send : LaneLink → BrickNo → List ℕ → Bool
wants_to_send link to bytes = sends_to to (next_wanted link) && is_ask bytes (active_call link)

-- whether the active call wants to hear this brick
abbrev pub wants_to_hear : LaneLink → BrickNo → Bool
wants_to_hear link from = hears_from from (next_wanted link)

-- the lanes after the call of a number took a turn, if there is one
abbrev pub turned_by : LanesState → Option ℕ → LanesState
turned_by st None = st
turned_by st (Some call) = turn_of st call (slice_get st.world.calls call)

-- a link after its active call took a turn
abbrev pub turned : LaneLink → LaneLink
turned link = record link { lanes = turned_by link.lanes link.active }

-- a link after a call of it that nobody wanted: the brick was silent, and nothing happened in the world
abbrev pub unwanted : LaneLink → BrickNo → LaneLink
unwanted link brick = record link { lanes = silent_once link.lanes brick.0 }

-- a link after these bytes were sent to a brick: by a turn of the active call where it wants that
abbrev pub after_send : LaneLink → BrickNo → List ℕ → LaneLink
after_send link to bytes = if wants_to_send link to bytes then turned link else unwanted link to

-- a link with these windows on its bricks
abbrev pub on_windows : LaneLink → WindowsValue → LaneLink
on_windows link windows = record link { lanes = record (link.lanes) { windows = windows } }

-- whether these bytes are taken to a brick: there is such a brick, and the active call wants that
abbrev pub takes_send : LaneLink → BrickNo → List ℕ → Bool
takes_send link to bytes = wants_to_send link to bytes && is_some (lane_at link.lanes.lanes to.0)

-- a link after a brick was heard: by a turn of the active call where it wants that
abbrev pub after_receive : LaneLink → BrickNo → LaneLink
after_receive link from = if wants_to_hear link from then turned link else unwanted link from

-- the number of the packet that the active call hears where a brick is heard, if it wants that and one waits
abbrev pub heard_next : LaneLink → BrickNo → Option ℕ
heard_next link from = if wants_to_hear link from then first_waiting link.lanes from.0 else None

-- These bytes spell the frame of a packet. There are none where there is no such packet, which is in no sound lanes.
abbrev pub SpellsPacket : List ℕ → Option Packet → Type 0
SpellsPacket bytes None = bytes ≡ []
SpellsPacket bytes (Some packet) = (bytes ≡ encode_of packet.frame) × (decode_of bytes ≡ Some packet.frame)

-- the same call is active, and nothing was counted
pub record CountsStay (old new : LaneLink) : Type 0 where
  pub active : new.active ≡ old.active
  pub counts : new.lanes.counts ≡ old.lanes.counts

-- What an event makes of the link: the new link is a function of the old one and the event, which comes only where this
-- says. Want of memory counts nothing.
abbrev pub LaneLinkMakes : LaneLink → LinkEvent → LaneLink → Type 0
LaneLinkMakes old (Sends to bytes) new = (takes_send old to bytes ≡ true) × (new ≡ after_send old to bytes)
LaneLinkMakes old (SendsInSilence to bytes) new = (takes_send old to bytes ≡ false) × (new ≡ after_send old to bytes)
LaneLinkMakes old (Gets from bytes) new =
    (packet : ℕ) × (heard_next old from ≡ Some packet) × SpellsPacket bytes (slice_get old.lanes.world.packets packet)
    × (new ≡ after_receive old from)
LaneLinkMakes old (HearsSilence from) new = (heard_next old from ≡ None) × (new ≡ after_receive old from)
LaneLinkMakes old (WantsToSend to bytes) new = CountsStay old new
LaneLinkMakes old (WantsToReceive from) new = CountsStay old new

-- a count, at most its last value
abbrev pub capped : ℕ → ℕ
capped n = min n (2 ^ 64 - 1)

-- what a link has counted: what its lanes have
abbrev pub lane_link_tally : LaneLink → Tally
lane_link_tally link =
    record {
      silences = λ brick. capped (silences_of link.lanes.counts brick);
      hushed = capped link.lanes.counts.hushed;
      got = capped link.lanes.counts.got;
    }
