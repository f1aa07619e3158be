-- What the calls of a link tell of one brick, and which events bring it to its outcome.
use Rattle.std.specs.Prelude.{◌≡◌, ◌⊎◌, ℕ, ◌==◌, ◌<◌, Bool, false, if◌then◌else◌, List, [], ◌∷◌, ◌++◌, length, map, filter_map, All, Option, Some, None, slice_get}
use Rattle.std.specs.List.{fold}
use Rattle.std.specs.Option.{option_and_then}
use Rattle.crash_base.specs.declared.numbers.BrickNo.{BrickNo}
use Rattle.outside.specs.declared.link.LinkEvent.{LinkEvent}
use Rattle.outside.specs.declared.link.LinkEvent.TheVariants.{Sends, SendsInSilence, Gets, HearsSilence, WantsToSend, WantsToReceive}
use Rattle.ssm_frames.specs.declared.frame.Frame.{Frame}
use Rattle.ssm_frames.specs.Reading.{decode_of}
use Rattle.ssm_stub.specs.declared.ear.TheConstants.{MAX_STRAYS}
use Rattle.ssm_stub.specs.declared.ear.Outcome.{Outcome}
use Rattle.ssm_stub.specs.declared.ear.Outcome.TheVariants.{Answered, Silent, Strayed}
use Rattle.ssm_stub.specs.declared.ear.Ear.{Ear}
use Rattle.ssm_stub.specs.declared.ear.Ear.TheVariants.{Open, Heard}
use Rattle.ssm_stub.specs.declared.event.Told.{Told}
use Rattle.ssm_stub.specs.declared.event.Told.TheVariants.{Sent, Came, Silent as NoneCame}
use Rattle.ssm_stub.specs.declared.event.StubNext.{StubNext}
use Rattle.ssm_stub.specs.declared.event.StubNext.TheVariants.{Send, Receive, Ended}
use Rattle.ssm_stub.specs.declared.ask.Ask.{Ask}
use Rattle.ssm_stub.specs.Ears.{heard_on}
use Rattle.ssm_stub.specs.Turns.{wanted_of}
use Rattle.ssm_stub.specs.Runs.{Machine, Fits}

-- what a call of the link tells of a brick, if it is about it
abbrev pub about : BrickNo → LinkEvent → Option Told
about brick (Sends to frame) = if to.0 == brick.0 then Some Sent else None
about brick (SendsInSilence to frame) = if to.0 == brick.0 then Some NoneCame else None
about brick (Gets from frame) = if from.0 == brick.0 then Some (Came (decode_of frame)) else None
about brick (HearsSilence from) = if from.0 == brick.0 then Some NoneCame else None
about brick (WantsToSend to frame) = None
about brick (WantsToReceive from) = None

-- what calls of the link tell of a brick, in order
abbrev pub all_about : BrickNo → List LinkEvent → List Told
all_about brick calls = filter_map (about brick) calls

-- what came was a stray: a frame that is no lawful reply, or bytes that spell no frame
abbrev pub IsStray : {A : Type 0} → (Frame → Option A) → Option Frame → Type 0
IsStray lawful frame = option_and_then lawful frame ≡ None

-- The events of a brick that came to this outcome. It answered where the ask was sent, fewer than 64
-- strays came, and then the lawful reply. It was silent where the send of the ask met silence, or where
-- the ask was sent, fewer than 64 strays came, and then silence was met. It strayed where the ask was
-- sent and 64 strays came.
abbrev pub EndsIn : {A : Type 0} → (Frame → Option A) → List Told → Outcome A → Type 0
EndsIn lawful events (Answered reply) =
    (strays : List (Option Frame)) × (last : Frame) × All (IsStray lawful) strays
    × (length strays < MAX_STRAYS) × (lawful last ≡ Some reply)
    × (events ≡ Sent ∷ (map Came strays ++ Came (Some last) ∷ []))
EndsIn lawful events Silent =
    (events ≡ NoneCame ∷ [])
    ⊎ ((strays : List (Option Frame)) × All (IsStray lawful) strays
    × (length strays < MAX_STRAYS) × (events ≡ Sent ∷ (map Came strays ++ NoneCame ∷ [])))
EndsIn lawful events Strayed =
    (strays : List (Option Frame)) × All (IsStray lawful) strays
    × (length strays ≡ MAX_STRAYS) × (events ≡ Sent ∷ map Came strays)

-- what is wanted of a brick by what was heard of it
abbrev pub ear_next : {A : Type 0} → BrickNo → Ear A → StubNext
ear_next brick (Open stage) = wanted_of brick stage
ear_next brick (Heard outcome) = Ended

-- one brick as a machine of its own
abbrev pub ear_machine : {A : Type 0} → BrickNo → (Frame → Option A) → Machine (Ear A)
ear_machine brick lawful = record { next = ear_next brick; hear = heard_on lawful }

-- no two places of a list hold the same
abbrev pub AllDiffer : List ℕ → Type 0
AllDiffer xs = (i j x : ℕ) → slice_get xs i ≡ Some x → slice_get xs j ≡ Some x → i ≡ j

-- the numbers of the bricks that are asked
abbrev pub numbers : {W A : Type 0} → (W → BrickNo) → List (Ask W A) → List ℕ
numbers brick_of asks = map (λ ask. (brick_of ask.who).0) asks

-- whether a step is wanted of this brick
abbrev pub is_of : BrickNo → StubNext → Bool
is_of brick (Send to) = to.0 == brick.0
is_of brick (Receive from) = from.0 == brick.0
is_of brick Ended = false

-- what a brick is told in a run: the events of the steps that are wanted of it
abbrev pub told_to : {S : Type 0} → Machine S → S → List Told → BrickNo → List Told
told_to m s [] brick = []
told_to m s (told ∷ more) brick =
    if is_of brick (m.next s)
    then told ∷ told_to m (m.hear s told) more brick
    else told_to m (m.hear s told) more brick

-- What is heard of a brick in the end is its own: these events, and no others, lead to it.
pub record Own {A : Type 0} (lawful : Frame → Option A) (brick : BrickNo) (ear end : Ear A) (events : List Told) : Type 0 where
  pub fitting : Fits (ear_machine brick lawful) ear events
  pub ends : end ≡ fold (heard_on lawful) ear events

-- the one that is asked at a place stands there in the end, and what was heard of it is its own
pub record OwnAt {W A : Type 0} (brick_of : W → BrickNo) (lawful : W → Frame → Option A) (ends : List (Ask W A)) (events : BrickNo → List Told) (i : ℕ) (ask : Ask W A) : Type 0 where
  pub end : Ear A
  pub here : slice_get ends i ≡ Some (record ask { ear = end })
  pub own : Own (lawful ask.who) (brick_of ask.who) ask.ear end (events (brick_of ask.who))
