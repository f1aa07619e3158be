-- The link: what its calls make of it, and what it counts.
use Rattle.std.specs.Prelude.{◌≡◌, ℕ, ◌^◌, ◌<◌, List, [], map, length, Option, Some, None, IsSome}
use Rattle.std.specs.List.{range_with_len}
use Rattle.std.specs.Option.{option_map_or}
use Rattle.crash_base.specs.declared.numbers.BrickNo.{BrickNo}
use Rattle.ssm_frames.specs.declared.frame.Frame.{Frame}
use Rattle.outside.specs.declared.link.LinkEvent.{LinkEvent}
use Rattle.outside.specs.declared.link.LinkEvent.TheVariants.{Sends, SendsInSilence, Gets, HearsSilence, WantsToSend, WantsToReceive}
use Rattle.outside.specs.Link.{Tally}
use Rattle.link_lanes.specs.Lanes.{LanesValue, lane_of, on_lane, tally_by, hushed_with, given_with, SilencesFit, IsFirst}
use Rattle.link_memory.specs.Lane.{LaneValue, new_lane, asked, given, silent}

-- The link: what it has of its bricks.
abbrev pub ScriptValue : Type 0
ScriptValue = LanesValue LaneValue

-- the lanes of the new bricks 1, 2 and so on
abbrev pub new_lanes : ℕ → List LaneValue
new_lanes bricks = map new_lane (range_with_len 1 bricks)

-- a link to so many new bricks
abbrev pub new_link : ℕ → ScriptValue
new_link bricks = record { lanes = new_lanes bricks; unknown = 0; hushed = 0; got = 0 }

-- all replies that the brick of a number ever made
abbrev pub made_of : ScriptValue → BrickNo → List Frame
made_of link brick = option_map_or (λ lane. lane.made) (lane_of link brick.0) []

-- the incarnation of the brick of a number
abbrev pub incarnation_of : ScriptValue → BrickNo → ℕ
incarnation_of link brick = option_map_or (λ lane. lane.brick.incarnation) (lane_of link brick.0) 0

-- how many values the brick of a number keeps
abbrev pub values_of : ScriptValue → BrickNo → ℕ
values_of link brick = option_map_or (λ lane. length lane.brick.kept) (lane_of link brick.0) 0

-- what the link counted
abbrev pub script_tally : ScriptValue → Tally
script_tally link = tally_by (λ lane. lane.silences) link

-- A link after the brick of a number was silent, or the number has no brick.
abbrev pub hushed_by : BrickNo → ScriptValue → ScriptValue
hushed_by brick link = hushed_with silent brick link

-- A link after the first reply that waits in the lane of a brick was received.
abbrev pub given_by : BrickNo → ScriptValue → ScriptValue
given_by brick link = given_with given brick link

-- no reply waits in the lane, or there is none of this number
abbrev pub IsQuiet : Option LaneValue → Type 0
IsQuiet None = Unit {0}
IsQuiet (Some lane) = lane.queue ≡ []

-- there is a lane, and these bytes are its first waiting reply
abbrev pub Gives : List ℕ → Option LaneValue → Type 0
Gives bytes None = ⊥
Gives bytes (Some lane) = IsFirst bytes lane.queue

-- What an event makes of the link: the new link is a function of the old one and the event, which comes
-- only where this says. A send to a brick is taken, and one to a number without a brick meets silence. A
-- receive gives the first reply that waits, and meets silence where none does. Want of memory changes
-- nothing.
abbrev pub ScriptMakes : ScriptValue → LinkEvent → ScriptValue → Type 0
ScriptMakes old (Sends to frame) new =
    IsSome (lane_of old to.0) × (new ≡ on_lane to (asked frame) old)
ScriptMakes old (SendsInSilence to frame) new =
    (lane_of old to.0 ≡ None) × SilencesFit (script_tally old) to × (new ≡ hushed_by to old)
ScriptMakes old (Gets from frame) new =
    Gives frame (lane_of old from.0) × (old.got < 2 ^ 64) × (new ≡ given_by from old)
ScriptMakes old (HearsSilence from) new =
    IsQuiet (lane_of old from.0) × SilencesFit (script_tally old) from × (new ≡ hushed_by from old)
ScriptMakes old (WantsToSend brick frame) new = new ≡ old
ScriptMakes old (WantsToReceive brick) new = new ≡ old
