-- What asking bricks leaves in their lanes.
use Rattle.std.specs.Prelude.{◌≡◌, ℕ, ◌-◌, ◌<◌, List, ◌++◌, length, All, Option, Some, None, slice_get}
use Rattle.std.specs.List.{sum_by}
use Rattle.crash_base.specs.declared.numbers.BrickNo.{BrickNo}
use Rattle.ssm_frames.specs.declared.frame.Frame.{Frame}
use Rattle.outside.specs.Faults.{counted}
use Rattle.ssm_stub.specs.declared.ask.Ask.{Ask}
use Rattle.ssm_stub.specs.declared.ear.TheConstants.{MAX_STRAYS}
use Rattle.ssm_stub.specs.declared.ear.Stage.TheVariants.{Unasked, Asked}
use Rattle.ssm_stub.specs.declared.ear.Outcome.{Outcome}
use Rattle.ssm_stub.specs.declared.ear.Outcome.TheVariants.{Answered, Silent, Strayed}
use Rattle.ssm_stub.specs.declared.ear.Ear.{Ear}
use Rattle.ssm_stub.specs.declared.ear.Ear.TheVariants.{Open, Heard}
use Rattle.ssm_stub.specs.declared.event.StubEvent.{StubEvent}
use Rattle.ssm_stub.specs.declared.event.StubNext.TheVariants.{Ended}
use Rattle.ssm_stub.specs.Runs.{Machine, Ran}
use Rattle.link_lanes.specs.Lanes.{lane_of}
use Rattle.link_memory.specs.Lane.{LaneValue, asked, counted_times}
use Rattle.link_memory.specs.Rule.{Hearing, heard_from}
use Rattle.link_memory.specs.Script.{ScriptValue, ScriptMakes}

-- the silences of a lane after this was heard from it
abbrev pub silences_after : {A : Type 0} → Outcome A → ℕ → ℕ
silences_after (Answered reply) silences = silences
silences_after Silent silences = counted silences
silences_after Strayed silences = silences

-- a lane after this was heard from it
abbrev pub after_hearing : {A : Type 0} → Hearing A → LaneValue → LaneValue
after_hearing hearing lane =
    record lane { queue = hearing.left; silences = silences_after hearing.outcome lane.silences }

-- a frame is no lawful reply
abbrev pub IsUnlawful : {A : Type 0} → (Frame → Option A) → Frame → Type 0
IsUnlawful lawful frame = lawful frame ≡ None

-- So many strays, and fewer than 64, were taken from the front of a lane's queue, and nothing else.
pub record Taken {A : Type 0} (lawful : Frame → Option A) (strays : ℕ) (lane : LaneValue) (left : Option LaneValue) : Type 0 where
  pub before : List Frame
  pub rest : List Frame
  pub queue_is : lane.queue ≡ before ++ rest
  pub are_strays : All (IsUnlawful lawful) before
  pub so_many : length before ≡ strays
  pub few : strays < MAX_STRAYS
  pub leaves : left ≡ Some (record lane { queue = rest })

-- A lane was heard by the rule: the outcome is the rule's, and the queue has what the rule leaves.
pub record HeardByRule {A : Type 0} (lawful : Frame → Option A) (outcome : Outcome A) (lane : LaneValue) (left : Option LaneValue) : Type 0 where
  pub hears : outcome ≡ (heard_from lawful lane.queue).outcome
  pub leaves : left ≡ Some (after_hearing (heard_from lawful lane.queue) lane)

-- the same of a number that may have no brick, which is then silent
abbrev pub HeardAt : {A : Type 0} → (Frame → Option A) → Outcome A → Option LaneValue → Option LaneValue → Type 0
HeardAt lawful outcome None left = (outcome ≡ Silent) × (left ≡ None)
HeardAt lawful outcome (Some lane) left = HeardByRule lawful outcome lane left

-- The lane of a brick was heard by the rule, and each other lane is as it was.
pub record HeardOver {A : Type 0} (lawful : Frame → Option A) (brick : BrickNo) (outcome : Outcome A) (old new : ScriptValue) : Type 0 where
  pub of_brick : HeardAt lawful outcome (lane_of old brick.0) (lane_of new brick.0)
  pub of_others : (other : ℕ) → (brick.0 ≡ other → ⊥) → lane_of new other ≡ lane_of old other

-- What asking a brick leaves of its lane, by what was heard of the brick: nothing happened to a lane
-- that was not asked; to one that was, the ask, and then what was heard was taken from its queue.
abbrev pub LeftLane : {A : Type 0} → (Frame → Option A) → List ℕ → Ear A → LaneValue → Option LaneValue → Type 0
LeftLane lawful ask (Open Unasked) lane left = left ≡ Some lane
LeftLane lawful ask (Open (Asked strays)) lane left = Taken lawful strays (asked ask lane) left
LeftLane lawful ask (Heard outcome) lane left = HeardByRule lawful outcome (asked ask lane) left

-- the same of a number without a brick, which is silent to the ask
abbrev pub LeftNone : {A : Type 0} → Ear A → Option LaneValue → Type 0
LeftNone (Open Unasked) left = left ≡ None
LeftNone (Open (Asked strays)) left = ⊥
LeftNone (Heard outcome) left = (outcome ≡ Silent) × (left ≡ None)

-- the same of a number that may have no brick
abbrev pub Left : {A : Type 0} → (Frame → Option A) → List ℕ → Ear A → Option LaneValue → Option LaneValue → Type 0
Left lawful ask ear None left = LeftNone ear left
Left lawful ask ear (Some lane) left = LeftLane lawful ask ear lane left

-- the silences that this tells
abbrev pub silences_told : {A : Type 0} → Ear A → ℕ
silences_told (Open stage) = 0
silences_told (Heard (Answered reply)) = 0
silences_told (Heard Silent) = 1
silences_told (Heard Strayed) = 0

-- the silences that this tells of a number without a brick
abbrev pub unknown_told : {A : Type 0} → Ear A → Option LaneValue → ℕ
unknown_told ear None = silences_told ear
unknown_told ear (Some lane) = 0

-- the frames that are taken where this is heard from a lane: none before the ask, as many as strays came,
-- and in the end as many as the rule takes
abbrev pub frames_taken : {A : Type 0} → (Frame → Option A) → List ℕ → Ear A → LaneValue → ℕ
frames_taken lawful ask (Open Unasked) lane = 0
frames_taken lawful ask (Open (Asked strays)) lane = strays
frames_taken lawful ask (Heard outcome) lane =
    length (asked ask lane).queue - length (heard_from lawful (asked ask lane).queue).left

-- the same of a number that may have no brick
abbrev pub frames_given : {A : Type 0} → (Frame → Option A) → List ℕ → Ear A → Option LaneValue → ℕ
frames_given lawful ask ear None = 0
frames_given lawful ask ear (Some lane) = frames_taken lawful ask ear lane

-- What the link counted where bricks were asked: each silence, those of numbers without a brick also by
-- themselves, and each frame that was taken.
pub record Counts {W A : Type 0} (brick_of : W → BrickNo) (lawful : W → Frame → Option A) (ask : List ℕ) (asks : List (Ask W A)) (old new : ScriptValue) : Type 0 where
  pub hushed_is : new.hushed ≡ counted_times (sum_by (λ a. silences_told a.ear) asks) old.hushed
  pub unknown_is : new.unknown
      ≡ counted_times (sum_by (λ a. unknown_told a.ear (lane_of old (brick_of a.who).0)) asks) old.unknown
  pub got_is : new.got
      ≡ counted_times (sum_by (λ a. frames_given (lawful a.who) ask a.ear (lane_of old (brick_of a.who).0)) asks) old.got

-- the brick of this number is among those that are asked
abbrev pub IsAsked : {W A : Type 0} → (W → BrickNo) → List (Ask W A) → ℕ → Type 0
IsAsked {W} {A} brick_of asks brick =
    (i : ℕ) × (ask : Ask W A) × (slice_get asks i ≡ Some ask) × ((brick_of ask.who).0 ≡ brick)

-- What asking some bricks leaves of a link: of the lane of each brick that was asked, by what was heard
-- of it; each other lane is as it was; and the counts tell what was heard.
pub record Leaves {W A : Type 0} (brick_of : W → BrickNo) (lawful : W → Frame → Option A) (ask : List ℕ) (asks : List (Ask W A)) (old new : ScriptValue) : Type 0 where
  pub of_asked : (i : ℕ) (a : Ask W A) → slice_get asks i ≡ Some a
      → Left (lawful a.who) ask a.ear (lane_of old (brick_of a.who).0) (lane_of new (brick_of a.who).0)
  pub of_others : (brick : ℕ) → (IsAsked brick_of asks brick → ⊥) → lane_of new brick ≡ lane_of old brick
  pub counts : Counts brick_of lawful ask asks old new

-- Any two runs of a machine from one state over one link, each to where it wants nothing more, were told
-- the same events, and end in the same state with the same link.
abbrev pub HasOneEnd : {S : Type 0} → Machine S → Type 0
HasOneEnd {S} m =
    (ask : List ℕ) (start : S) (old : ScriptValue) (events more : List StubEvent) (end other : S) (new beside : ScriptValue)
    → Ran m ScriptMakes ask start old events end new → m.next end ≡ Ended
    → Ran m ScriptMakes ask start old more other beside → m.next other ≡ Ended
    → (events ≡ more) × (end ≡ other) × (new ≡ beside)
