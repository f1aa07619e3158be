-- Whose turn it is among several that are asked.
use Rattle.std.specs.Prelude.{ℕ, Bool, true, false, List, map, Option, Some, None, position, slice_get, slice_set}
use Rattle.std.specs.Option.{option_or, option_and_then}
use Rattle.crash_base.specs.declared.numbers.BrickNo.{BrickNo}
use Rattle.ssm_frames.specs.declared.frame.Frame.{Frame}
use Rattle.ssm_stub.specs.declared.ear.Stage.{Stage}
use Rattle.ssm_stub.specs.declared.ear.Stage.TheVariants.{Unasked, Asked}
use Rattle.ssm_stub.specs.declared.ear.Ear.{Ear}
use Rattle.ssm_stub.specs.declared.ear.Ear.TheVariants.{Open, Heard}
use Rattle.ssm_stub.specs.declared.event.Told.{Told}
use Rattle.ssm_stub.specs.declared.event.StubNext.{StubNext}
use Rattle.ssm_stub.specs.declared.event.StubNext.TheVariants.{Send, Receive, Ended}
use Rattle.ssm_stub.specs.declared.ask.Ask.{Ask}
use Rattle.ssm_stub.specs.declared.ask.Turn.{Turn}
use Rattle.ssm_stub.specs.Ears.{heard}

-- these, of which none was asked
abbrev pub none_asked : {W A : Type 0} → List W → List (Ask W A)
none_asked {W} whos = map (λ (who : W). record { who = who; ear = Open Unasked }) whos

-- whether it was not asked
abbrev pub is_unasked : {W A : Type 0} → Ask W A → Bool
is_unasked ask = elim ask.ear [
  | Open stage ↦ elim stage [ Unasked ↦ true | Asked strays ↦ false ]
  | Heard outcome ↦ false
]

-- whether it was asked and has no outcome
abbrev pub is_asked : {W A : Type 0} → Ask W A → Bool
is_asked ask = elim ask.ear [
  | Open stage ↦ elim stage [ Unasked ↦ false | Asked strays ↦ true ]
  | Heard outcome ↦ false
]

-- whether it has no outcome
abbrev pub is_open : {W A : Type 0} → Ask W A → Bool
is_open ask = elim ask.ear [ Open stage ↦ true | Heard outcome ↦ false ]

-- the turn of the one at a place, of which this was heard: None where it has its outcome
abbrev pub turn_with : {W A : Type 0} → ℕ → Ask W A → Ear A → Option (Turn W)
turn_with at ask (Open stage) = Some (record { at = at; who = ask.who; stage = stage })
turn_with at ask (Heard outcome) = None

-- the turn of the one at a place
abbrev pub turn_at : {W A : Type 0} → List (Ask W A) → ℕ → Option (Turn W)
turn_at asks at = option_and_then (λ ask. turn_with at ask ask.ear) (slice_get asks at)

-- The turn where all are asked first: of the first that was not asked, and then of the first without
-- an outcome.
abbrev pub turn_after_asks : {W A : Type 0} → List (Ask W A) → Option (Turn W)
turn_after_asks asks =
    option_and_then (turn_at asks) (option_or (position is_unasked asks) (position is_asked asks))

-- The turn where one is asked after another: of the first without an outcome.
abbrev pub turn_in_order : {W A : Type 0} → List (Ask W A) → Option (Turn W)
turn_in_order asks = option_and_then (turn_at asks) (position is_open asks)

-- the asks with this heard of the one at a place
abbrev pub with_ear_of : {W A : Type 0} → List (Ask W A) → ℕ → Ear A → Option (Ask W A) → List (Ask W A)
with_ear_of asks at ear None = asks
with_ear_of asks at ear (Some ask) = slice_set asks at (record ask { ear = ear })

-- the asks with this heard of the one at a place, where one stands there
abbrev pub with_ear : {W A : Type 0} → List (Ask W A) → ℕ → Ear A → List (Ask W A)
with_ear asks at ear = with_ear_of asks at ear (slice_get asks at)

-- the asks after an event, which the one is told whose turn it is
abbrev pub asks_after : {W A : Type 0} → (W → Frame → Option A) → Told → List (Ask W A) → Option (Turn W) → List (Ask W A)
asks_after lawful told asks None = asks
asks_after lawful told asks (Some turn) = with_ear asks turn.at (heard (lawful turn.who) turn.stage told)

-- what is wanted of a brick without outcome: that the ask is sent to it, and then a frame from it
abbrev pub wanted_of : BrickNo → Stage → StubNext
wanted_of brick Unasked = Send brick
wanted_of brick (Asked strays) = Receive brick

-- what is wanted of the one whose turn it is
abbrev pub wanted : {W : Type 0} → (W → BrickNo) → Option (Turn W) → StubNext
wanted brick_of None = Ended
wanted brick_of (Some turn) = wanted_of (brick_of turn.who) turn.stage

-- nothing is wanted once there is an answer
abbrev pub next_unless : {X : Type 0} → Option X → StubNext → StubNext
next_unless (Some answer) next = Ended
next_unless None next = next
