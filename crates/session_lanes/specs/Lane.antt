-- The lane of a brick: what is still to happen on the way to it and from it.
use Rattle.std.specs.Prelude.{ℕ, zero, suc, ◌+◌, ◌-◌, ◌^◌, min, nat_lt, if◌then◌else◌, List, [], ◌∷◌, ◌++◌, slice_get, slice_set, Option, None}
use Rattle.crash_base.specs.declared.numbers.BrickNo.{BrickNo}

-- How many asks to a brick are still to be dropped and replies of it still to be lost; the numbers of all packets with
-- replies that it ever made, and of those replies that wait to be heard, the first first; and how many passes to it are
-- held.
pub record LaneState : Type 0 where
  pub to_drop : ℕ
  pub to_lose : ℕ
  pub made : List ℕ
  pub queue : List ℕ
  pub held : ℕ

-- a lane on which nothing happened
abbrev pub new_lane : LaneState
new_lane = record { to_drop = 0; to_lose = 0; made = []; queue = []; held = 0 }

-- so many more, up to the last value of a count
abbrev pub raised : ℕ → ℕ → ℕ
raised n more = min (n + more) (2 ^ 64 - 1)

-- a lane of which so many more replies are to be lost
abbrev pub losing : ℕ → LaneState → LaneState
losing more lane = record lane { to_lose = raised lane.to_lose more }

-- a lane of which so many more asks are to be dropped
abbrev pub dropping : ℕ → LaneState → LaneState
dropping more lane = record lane { to_drop = raised lane.to_drop more }

-- a lane where the reply of a packet waits behind the others
abbrev pub waiting : ℕ → LaneState → LaneState
waiting packet lane = record lane { queue = lane.queue ++ packet ∷ [] }

-- A lane after the reply of a packet was made: it is lost where one is still to be lost, and else waits behind the
-- others.
abbrev pub with_reply : ℕ → LaneState → LaneState
with_reply packet lane =
    if nat_lt 0 lane.to_lose
    then record lane { to_lose = lane.to_lose - 1; made = lane.made ++ packet ∷ [] }
    else record lane { made = lane.made ++ packet ∷ []; queue = lane.queue ++ packet ∷ [] }

-- the reply of this number among all that a brick ever made, counted from 1
abbrev pub reply_made : LaneState → ℕ → Option ℕ
reply_made lane zero = None
reply_made lane (suc place) = slice_get lane.made place

-- the brick of a number
abbrev pub brick_no : ℕ → BrickNo
brick_no brick = record { 0 = brick }

-- the lane of the brick of a number, counted from 1, if there is one
abbrev pub lane_at : List LaneState → ℕ → Option LaneState
lane_at lanes zero = None
lane_at lanes (suc place) = slice_get lanes place

-- the lanes with this one of the brick of a number
abbrev pub with_lane_at : List LaneState → ℕ → LaneState → List LaneState
with_lane_at lanes zero lane = lanes
with_lane_at lanes (suc place) lane = slice_set lanes place lane
