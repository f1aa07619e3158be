-- A link to a house: what its calls make of it, and what it counts.
use Rattle.std.specs.Prelude.{◌≡◌, ℕ, ◌^◌, ◌<◌, List, [], ◌∷◌, ◌++◌, drop, length, replicate, Option, Some, None, IsSome}
use Rattle.std.specs.Option.{option_and_then}
use Rattle.crash_base.specs.declared.numbers.BrickNo.{BrickNo}
use Rattle.ssm_frames.specs.declared.frame.Frame.{Frame}
use Rattle.ssm_frames.specs.Reading.{decode_of}
use Rattle.outside.specs.declared.link.LinkEvent.{LinkEvent}
use Rattle.outside.specs.declared.link.LinkEvent.TheVariants.{Sends, SendsInSilence, Gets, HearsSilence, WantsToSend, WantsToReceive}
use Rattle.outside.specs.declared.link.Received.{Received}
use Rattle.outside.specs.declared.link.Received.TheVariants.{Got, Silent, OutOfMemory}
use Rattle.outside.specs.Faults.{counted}
use Rattle.outside.specs.Link.{Tally}
use Rattle.brick_store.specs.Bricks.{BrickValue, reply}
use Rattle.link_lanes.specs.Lanes.{LanesValue, lane_of, on_lane, silences_by, tally_by, hushed_with, given_with, SilencesFit, IsFirst}
use Rattle.brick_house.specs.Houses.{HouseValue, HouseSeatsValue, IsBrickOf, IsReplyOf}

-- What a link has of a brick: the replies that wait to be received, and how often the brick was silent.
pub record LaneValue : Type 0 where
  pub queue : List Frame
  pub silences : ℕ

-- A link: its seats, and what it has of its bricks.
pub record HouseLinkValue : Type 0 where
  pub seats : HouseSeatsValue
  pub bricks : LanesValue LaneValue

-- a lane at first
abbrev pub empty_lane : LaneValue
empty_lane = record { queue = []; silences = 0 }

-- a link that was made of seats
abbrev pub new_link : HouseSeatsValue → HouseLinkValue
new_link seats =
    record {
      seats = seats;
      bricks = record { lanes = replicate (length seats.house.locks) empty_lane; unknown = 0; hushed = 0; got = 0 };
    }

-- a lane where this reply waits behind the others, or none does
abbrev pub with_reply : Option Frame → LaneValue → LaneValue
with_reply None lane = lane
with_reply (Some answer) lane = record lane { queue = lane.queue ++ answer ∷ [] }

-- A lane after bytes came to its brick, which was this one then: its reply waits, where they spell a request.
abbrev pub asked : BrickValue → List ℕ → LaneValue → LaneValue
asked b bytes lane = with_reply (option_and_then (reply b) (decode_of bytes)) lane

-- A lane after bytes came to the brick of this number of a house, whatever it kept then.
abbrev pub IsAsked : HouseValue → BrickNo → List ℕ → LaneValue → LaneValue → Type 0
IsAsked house to bytes old new = (b : BrickValue) × IsBrickOf house to b × (new ≡ asked b bytes old)

-- A lane after its brick answered a request.
abbrev pub IsAnswered : HouseValue → BrickNo → Frame → LaneValue → LaneValue → Type 0
IsAnswered house to request old new =
    (answer : Frame) × IsReplyOf house to request answer × (new ≡ with_reply (Some answer) old)

-- a lane after the first reply that waits was received
abbrev pub given : LaneValue → LaneValue
given lane = record lane { queue = drop 1 lane.queue }

-- a lane after its brick was silent once more
abbrev pub silent : LaneValue → LaneValue
silent lane = record lane { silences = counted lane.silences }

-- What a receive from the lane with this answer gives, and leaves.
abbrev pub Receives : Received → List ℕ → LaneValue → LaneValue → Type 0
Receives Got bytes old new = IsFirst bytes old.queue × (new ≡ given old)
Receives Silent bytes old new =
    (old.queue ≡ []) × (old.silences < 2 ^ 64) × (new ≡ silent old)
Receives OutOfMemory bytes old new = new ≡ old

-- how often the brick of a number was silent: all numbers without a brick are counted together
abbrev pub silences_of : HouseLinkValue → ℕ → ℕ
silences_of link brick = silences_by (λ lane. lane.silences) link.bricks brick

-- what the link counted
abbrev pub house_tally : HouseLinkValue → Tally
house_tally link = tally_by (λ lane. lane.silences) link.bricks

-- the link after what it has of its bricks became this
abbrev pub with_bricks : HouseLinkValue → LanesValue LaneValue → HouseLinkValue
with_bricks link bricks = record link { bricks = bricks }

-- no reply waits in the lane, or there is none of this number
abbrev pub IsQuiet : Option LaneValue → Type 0
IsQuiet None = Unit {0}
IsQuiet (Some lane) = lane.queue ≡ []

-- there is a lane, and these bytes are its first waiting reply
abbrev pub Gives : List ℕ → Option LaneValue → Type 0
Gives bytes None = ⊥
Gives bytes (Some lane) = IsFirst bytes lane.queue

-- What an event makes of the link, which comes only where this says. A send to a brick is taken, and the reply that
-- some brick of this number and of the house's incarnation gives to it waits. A send to a number without a brick meets
-- silence. A receive gives the first reply that waits, and meets silence where none does. Want of memory changes
-- nothing.
abbrev pub HouseMakes : HouseLinkValue → LinkEvent → HouseLinkValue → Type 0
HouseMakes old (Sends to frame) new =
    IsSome (lane_of old.bricks to.0)
    × ((b : BrickValue) × IsBrickOf old.seats.house to b × (new ≡ with_bricks old (on_lane to (asked b frame) old.bricks)))
HouseMakes old (SendsInSilence to frame) new =
    (lane_of old.bricks to.0 ≡ None)
    × SilencesFit (house_tally old) to
    × (new ≡ with_bricks old (hushed_with silent to old.bricks))
HouseMakes old (Gets from frame) new =
    Gives frame (lane_of old.bricks from.0)
    × (old.bricks.got < 2 ^ 64)
    × (new ≡ with_bricks old (given_with given from old.bricks))
HouseMakes old (HearsSilence from) new =
    IsQuiet (lane_of old.bricks from.0)
    × SilencesFit (house_tally old) from
    × (new ≡ with_bricks old (hushed_with silent from old.bricks))
HouseMakes old (WantsToSend brick frame) new = new ≡ old
HouseMakes old (WantsToReceive brick) new = new ≡ old
