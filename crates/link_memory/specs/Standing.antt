-- The bricks of the link stand for the histories of what happened to them.
use Rattle.std.specs.Prelude.{◌≡◌, ℕ, ◌==◌, nat_lt, if◌then◌else◌, List, Option, Some, None}
use Rattle.crash_base.specs.declared.numbers.BrickNo.{BrickNo}
use Rattle.ssm_frames.specs.declared.frame.Frame.{Frame}
use Rattle.ssm_frames.specs.Reading.{decode_of}
use Rattle.brick_store.specs.declared.event.BrickEvent.{BrickEvent}
use Rattle.brick_store.specs.Standing.{StandsFor, heard}
use Rattle.outside.specs.declared.link.LinkEvent.{LinkEvent}
use Rattle.outside.specs.declared.link.LinkEvent.TheVariants.{Sends, SendsInSilence, Gets, HearsSilence, WantsToSend, WantsToReceive}
use Rattle.link_lanes.specs.Lanes.{lane_of}
use Rattle.link_memory.specs.Lane.{LaneValue}
use Rattle.link_memory.specs.Script.{ScriptValue}

-- A lane's brick has this number, was of incarnation 1 at first, and stands for this history.
pub record StandsAs (number : ℕ) (history : List BrickEvent) (lane : LaneValue) : Type 0 where
  pub number_is : lane.brick.number.0 ≡ number
  pub stands : StandsFor 1 history lane.brick

-- Each brick of the link has the number of its lane, and stands for its history among these.
abbrev pub AllStand : (ℕ → List BrickEvent) → ScriptValue → Type 0
AllStand histories link =
    (brick : ℕ) (lane : LaneValue) → lane_of link brick ≡ Some lane → StandsAs brick (histories brick) lane

-- the histories, with this one of a brick
abbrev pub with_history : BrickNo → List BrickEvent → (ℕ → List BrickEvent) → ℕ → List BrickEvent
with_history brick history histories number =
    if brick.0 == number then history else histories number

-- the history of a brick after bytes came to it that spell this frame, or none
abbrev pub reached_in : Option Frame → List BrickEvent → List BrickEvent
reached_in None history = history
reached_in (Some frame) history = heard history frame

-- the history of the brick of a lane after bytes were sent to it: dropped ones do not reach it
abbrev pub asked_in : List ℕ → Option LaneValue → List BrickEvent → List BrickEvent
asked_in bytes None history = history
asked_in bytes (Some lane) history =
    if nat_lt 0 lane.to_drop then history else reached_in (decode_of bytes) history

-- the histories after an event of the link: a send adds to that of its brick
abbrev pub histories_after : ScriptValue → LinkEvent → (ℕ → List BrickEvent) → ℕ → List BrickEvent
histories_after link (Sends to frame) histories =
    with_history to (asked_in frame (lane_of link to.0) (histories to.0)) histories
histories_after link (SendsInSilence to frame) histories = histories
histories_after link (Gets from frame) histories = histories
histories_after link (HearsSilence from) histories = histories
histories_after link (WantsToSend brick frame) histories = histories
histories_after link (WantsToReceive brick) histories = histories
