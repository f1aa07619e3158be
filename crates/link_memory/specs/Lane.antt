-- A lane of the link: a brick, and what was replied.
use Rattle.std.specs.Prelude.{◌≡◌, ℕ, zero, suc, ◌-◌, ◌^◌, ◌<◌, nat_lt, if◌then◌else◌, List, [], ◌∷◌, ◌++◌, drop, filter_map, slice_get, Option, Some, None}
use Rattle.crash_base.specs.declared.numbers.Moment.{Moment}
use Rattle.ssm_frames.specs.declared.frame.Frame.{Frame}
use Rattle.ssm_frames.specs.Reading.{decode_of}
use Rattle.brick_store.specs.Bricks.{BrickValue, new_brick, swept_at, crashed, answered, reply}
use Rattle.outside.specs.declared.link.Received.{Received}
use Rattle.outside.specs.declared.link.Received.TheVariants.{Got, Silent, OutOfMemory}
use Rattle.outside.specs.Faults.{counted}
use Rattle.link_lanes.specs.Lanes.{IsFirst, raised}

-- A brick with what was sent to it and what it replied: how many asks are still to be dropped and
-- replies still to be lost, all replies that it ever made, those that wait to be received, and how
-- often it was silent.
pub record LaneValue : Type 0 where
  pub brick : BrickValue
  pub to_drop : ℕ
  pub to_lose : ℕ
  pub made : List Frame
  pub queue : List Frame
  pub silences : ℕ

-- a lane of a new brick of incarnation 1
abbrev pub new_lane : ℕ → LaneValue
new_lane number =
    record {
      brick = new_brick (record { 0 = number }) 1;
      to_drop = 0;
      to_lose = 0;
      made = [];
      queue = [];
      silences = 0;
    }

-- a count after one more was counted, so many times
abbrev pub counted_times : ℕ → ℕ → ℕ
counted_times zero n = n
counted_times (suc more) n = counted_times more (counted n)

-- A lane after a reply was made: it is lost where one is still to be lost, and else waits behind the
-- others.
abbrev pub with_reply : Frame → LaneValue → LaneValue
with_reply reply lane =
    if nat_lt 0 lane.to_lose
    then record lane { to_lose = lane.to_lose - 1; made = lane.made ++ reply ∷ [] }
    else record lane { made = lane.made ++ reply ∷ []; queue = lane.queue ++ reply ∷ [] }

-- a lane after this reply was made, or none
abbrev pub with_reply_if : Option Frame → LaneValue → LaneValue
with_reply_if None lane = lane
with_reply_if (Some reply) lane = with_reply reply lane

-- A lane after a frame came to its brick, which does what a request asks, and replies. A frame that is
-- a reply does nothing.
abbrev pub served : Frame → LaneValue → LaneValue
served frame lane =
    with_reply_if (reply lane.brick frame) (record lane { brick = answered lane.brick frame })

-- a lane after bytes came to its brick that spell this frame, or none
abbrev pub reached : Option Frame → LaneValue → LaneValue
reached None lane = lane
reached (Some frame) lane = served frame lane

-- A lane after bytes were sent: they are dropped where an ask is still to be dropped, and else reach the
-- brick.
abbrev pub asked : List ℕ → LaneValue → LaneValue
asked bytes lane =
    if nat_lt 0 lane.to_drop
    then record lane { to_drop = lane.to_drop - 1 }
    else reached (decode_of bytes) lane

-- a lane after the first reply that waits was received
abbrev pub given : LaneValue → LaneValue
given lane = record lane { queue = drop 1 lane.queue }

-- a lane after its brick was silent once more
abbrev pub silent : LaneValue → LaneValue
silent lane = record lane { silences = counted lane.silences }

-- A lane where this reply waits once more, behind the others, or none does.
abbrev pub with_repeat : Option Frame → LaneValue → LaneValue
with_repeat None lane = lane
with_repeat (Some reply) lane = record lane { queue = lane.queue ++ reply ∷ [] }

-- a lane where the reply of this number, counted from 1 over all that were made, waits once more
abbrev pub repeated : ℕ → LaneValue → LaneValue
repeated number lane = with_repeat (slice_get lane.made (number - 1)) lane

-- a lane after its brick crashed: the queue stays
abbrev pub crashed_lane : LaneValue → LaneValue
crashed_lane lane = record lane { brick = crashed lane.brick }

-- a lane after its brick was swept at a moment
abbrev pub swept_lane : Moment → LaneValue → LaneValue
swept_lane moment lane = record lane { brick = swept_at lane.brick moment }

-- a lane of which so many more replies are to be lost
abbrev pub losing : ℕ → LaneValue → LaneValue
losing more lane = record lane { to_lose = raised lane.to_lose more }

-- a lane of which so many more asks are to be dropped
abbrev pub dropping : ℕ → LaneValue → LaneValue
dropping more lane = record lane { to_drop = raised lane.to_drop more }

-- What a receive from the lane with this answer gives, and leaves.
abbrev pub Receives : Received → List ℕ → LaneValue → LaneValue → Type 0
Receives Got bytes old new = IsFirst bytes old.queue × (new ≡ given old)
Receives Silent bytes old new =
    (old.queue ≡ []) × (old.silences < 2 ^ 64) × (new ≡ silent old)
Receives OutOfMemory bytes old new = new ≡ old

-- the replies at these places among all that were made
abbrev pub replies_at : List Frame → List ℕ → List Frame
replies_at made places = filter_map (slice_get made) places
