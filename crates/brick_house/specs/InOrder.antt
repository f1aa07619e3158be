-- Which requests were sent to a brick over a link, which frames came of them, and that each bears its brick.
use Rattle.std.specs.Prelude.{◌≡◌, ℕ, ◌==◌, if◌then◌else◌, List, [], ◌∷◌, ◌++◌, All, Option, Some, None}
use Rattle.std.specs.List.{flat_map, AllZip}
use Rattle.std.specs.Option.{option_map_or}
use Rattle.crash_base.specs.declared.numbers.BrickNo.{BrickNo}
use Rattle.ssm_frames.specs.declared.frame.Frame.{Frame}
use Rattle.ssm_frames.specs.declared.frame.Frame.TheVariants.{Put, Get, Sweep, Stored, Found, Absent, BrickFull, Swept}
use Rattle.ssm_frames.specs.Reading.{decode_of}
use Rattle.ssm_frames.specs.Requests.{is_request}
use Rattle.outside.specs.declared.link.LinkEvent.{LinkEvent}
use Rattle.outside.specs.declared.link.LinkEvent.TheVariants.{Sends, SendsInSilence, Gets, HearsSilence, WantsToSend, WantsToReceive}
use Rattle.link_lanes.specs.Lanes.{lane_of}
use Rattle.brick_house.specs.Houses.{IsReplyOf}
use Rattle.brick_house.specs.HouseLinks.{HouseLinkValue, LaneValue}

-- a frame is a reply that bears this number and this incarnation
abbrev pub Bears : BrickNo → ℕ → Frame → Type 0
Bears number first (Put nonce key version expiry value) = ⊥
Bears number first (Get nonce key version) = ⊥
Bears number first (Sweep nonce moment) = ⊥
Bears number first (Stored nonce key version brick incarnation) = (brick ≡ number) × (incarnation ≡ first)
Bears number first (Found nonce key version brick incarnation expiry value) = (brick ≡ number) × (incarnation ≡ first)
Bears number first (Absent nonce key version brick incarnation swept) = (brick ≡ number) × (incarnation ≡ first)
Bears number first (BrickFull nonce key version brick incarnation entries bytes) = (brick ≡ number) × (incarnation ≡ first)
Bears number first (Swept nonce brick incarnation moment) = (brick ≡ number) × (incarnation ≡ first)

-- bytes spell a reply that bears this number and this incarnation
abbrev pub SpellsOf : BrickNo → ℕ → List ℕ → Type 0
SpellsOf number incarnation bytes =
    (answer : Frame) × (decode_of bytes ≡ Some answer) × Bears number incarnation answer

-- Where a frame came from a brick, it is a reply that bears the brick's number and this incarnation.
abbrev pub BearsBrick : ℕ → LinkEvent → Type 0
BearsBrick incarnation (Sends to frame) = Unit {0}
BearsBrick incarnation (SendsInSilence to frame) = Unit {0}
BearsBrick incarnation (Gets from frame) = SpellsOf from incarnation frame
BearsBrick incarnation (HearsSilence from) = Unit {0}
BearsBrick incarnation (WantsToSend to frame) = Unit {0}
BearsBrick incarnation (WantsToReceive from) = Unit {0}

-- the request that bytes spell, if they spell one
abbrev pub request_if : Option Frame → List Frame
request_if None = []
request_if (Some frame) = if is_request frame then frame ∷ [] else []

-- the request of an event to the brick of a number
abbrev pub request_to : ℕ → LinkEvent → List Frame
request_to brick (Sends to frame) = if to.0 == brick then request_if (decode_of frame) else []
request_to brick (SendsInSilence to frame) = []
request_to brick (Gets from frame) = []
request_to brick (HearsSilence from) = []
request_to brick (WantsToSend to frame) = []
request_to brick (WantsToReceive from) = []

-- the frame of an event from the brick of a number
abbrev pub frame_from : ℕ → LinkEvent → List (List ℕ)
frame_from brick (Sends to frame) = []
frame_from brick (SendsInSilence to frame) = []
frame_from brick (Gets from frame) = if from.0 == brick then frame ∷ [] else []
frame_from brick (HearsSilence from) = []
frame_from brick (WantsToSend to frame) = []
frame_from brick (WantsToReceive from) = []

-- the replies that wait in the lane of a brick
abbrev pub waiting : HouseLinkValue → ℕ → List Frame
waiting link brick = option_map_or (λ (lane : LaneValue). lane.queue) (lane_of link.bricks brick) []

-- a frame is decoded to this reply
abbrev pub IsDecodedTo : List ℕ → Frame → Type 0
IsDecodedTo frame answer = decode_of frame ≡ Some answer

-- Replies come in order: those that waited for a brick, and then one to each request that was sent to it, are those
-- that came, and then those that wait.
pub record ComeInOrder (old : HouseLinkValue) (brick : BrickNo) (events : List LinkEvent) (new : HouseLinkValue) : Type 0 where
  pub answers : List Frame
  pub came : List Frame
  pub are_replies : AllZip (IsReplyOf old.seats.house brick) (flat_map (request_to brick.0) events) answers
  pub are_spelled : AllZip IsDecodedTo (flat_map (frame_from brick.0) events) came
  pub in_order : waiting old brick.0 ++ answers ≡ came ++ waiting new brick.0

-- The replies that wait bear their brick's number and the house's incarnation.
abbrev pub AllBear : HouseLinkValue → Type 0
AllBear link =
    (brick : BrickNo) → All (Bears brick link.seats.house.incarnation) (waiting link brick.0)
