-- What holds of each world that events make.
use Rattle.std.specs.Prelude.{◌≡◌, ℕ, ◌≤◌, true, false, List, ◌++◌, length, map, slice_get, Option, Some}
use Rattle.crash_base.specs.declared.numbers.BrickNo.{BrickNo}
use Rattle.session_cookie.specs.declared.cookie.Holder.{Holder}
use Rattle.ssm_frames.specs.declared.frame.Frame.{Frame}
use Rattle.ssm_frames.specs.declared.frame.Frame.TheVariants.{Put}
use Rattle.ssm_frames.specs.Requests.{is_request}
use Rattle.brick_store.specs.declared.kept.Kept.{Kept}
use Rattle.brick_store.specs.declared.event.BrickEvent.{BrickEvent}
use Rattle.brick_store.specs.Bricks.{reply}
use Rattle.brick_store.specs.Standing.{heard}
use Rattle.ssm_stub.specs.declared.ear.Outcome.TheVariants.{Answered}
use Rattle.ssm_stub.specs.declared.ear.Ear.TheVariants.{Heard}
use Rattle.ssm_stub.specs.declared.ask.Ask.{Ask}
use Rattle.ssm_stub.specs.Turns.{none_asked}
use Rattle.ssm_stub.specs.Writes.{WriteState, put_lawful}
use Rattle.ssm_stub.specs.Reads.{ReadState, get_lawful}
use Rattle.ssm_world.specs.declared.call.Call.{Call}
use Rattle.ssm_world.specs.declared.call.Call.TheVariants as call
use Rattle.ssm_world.specs.declared.event.Packet.{Packet}
use Rattle.ssm_world.specs.Worlds.{WorldValue, nonce_of, ask_of, history, may_be_asked, bricks_of, brick_after}
use Rattle.ssm_world.specs.Facts.{AllStored}

-- those that are asked
abbrev pub asked_of : {W A : Type 0} → List (Ask W A) → List W
asked_of {W} {A} asks = map (λ (ask : Ask W A). ask.who) asks

-- a call as it was before it was told anything
abbrev pub untold : Call → Call
untold (call.Write s) = call.Write (record s { asks = none_asked (asked_of s.asks) })
untold (call.Read s) = call.Read (record s { asks = none_asked (asked_of s.asks) })

-- this frame was sent to this brick, or by it
abbrev pub WasSent : WorldValue → BrickNo → Frame → Type 0
WasSent w brick frame =
    (i : ℕ) × (slice_get w.packets i ≡ Some (record { brick = brick; frame = frame }))

-- The later world has all that the earlier one has: each packet; each call, which began as it did, whatever
-- it has heard; and the history of each brick, behind newer events.
pub record Grows (w v : WorldValue) : Type 0 where
  pub packets : (i : ℕ) (p : Packet) → slice_get w.packets i ≡ Some p → slice_get v.packets i ≡ Some p
  pub calls : (i : ℕ) (c : Call) → slice_get w.calls i ≡ Some c → (d : Call) × (slice_get v.calls i ≡ Some d) × (untold d ≡ untold c)
  pub histories : (brick : BrickNo) (h : List BrickEvent) → history w brick ≡ Some h → (newer : List BrickEvent) × (history v brick ≡ Some (newer ++ h))

-- A reply was made by its brick no earlier than a world: to a request that was sent to this brick, by
-- the history that the brick had then.
pub record WasMade (since w : WorldValue) (p : Packet) : Type 0 where
  pub request : Frame
  pub earlier : List BrickEvent
  pub later : List BrickEvent
  pub asks : is_request request ≡ true
  pub was_sent : WasSent w p.brick request
  pub history_is : history w p.brick ≡ Some (later ++ heard earlier request)
  pub since_then : (h : List BrickEvent) → history since p.brick ≡ Some h → (newer : List BrickEvent) × (earlier ≡ newer ++ h)
  pub reply_is : reply (brick_after p.brick earlier) request ≡ Some p.frame

-- each reply that was sent after a world was made no earlier
pub record RepliesSince (since w : WorldValue) : Type 0 where
  pub each : (i : ℕ) (p : Packet) → length since.packets ≤ i → slice_get w.packets i ≡ Some p → is_request p.frame ≡ false → WasMade since w p

-- the bricks that a call asks
abbrev pub bricks_asked : Call → List BrickNo
bricks_asked (call.Write s) = asked_of s.asks
bricks_asked (call.Read s) = bricks_of (asked_of s.asks)

-- a brick is one that a call asks
abbrev pub Asks : Call → BrickNo → Type 0
Asks c brick = (i : ℕ) × (slice_get (bricks_asked c) i ≡ Some brick)

-- this request to this brick is the ask of a call that asks this brick
abbrev pub WasAskedOf : WorldValue → BrickNo → Frame → Type 0
WasAskedOf w brick frame =
    (i : ℕ) × (c : Call) × (slice_get w.calls i ≡ Some c) × (ask_of c ≡ frame) × Asks c brick

-- a call asked this brick to keep this, under its nonce as version
abbrev pub WasWritten : WorldValue → BrickNo → Kept → Type 0
WasWritten w brick s = WasAskedOf w brick (Put s.version s.key s.version s.expiry s.value)

-- each reply that was heard of one that is asked is lawful, and its brick sent it
abbrev pub WereSent : {W A : Type 0} → WorldValue → (W → BrickNo) → (W → Frame → Option A) → List (Ask W A) → Type 0
WereSent {W} {A} w brick_of lawful asks =
    (i : ℕ) (ask : Ask W A) (reply : A) → slice_get asks i ≡ Some ask → ask.ear ≡ Heard (Answered reply)
    → (frame : Frame) × WasSent w (brick_of ask.who) frame × (lawful ask.who frame ≡ Some reply)

-- A write asks 1 to 16 distinct bricks to keep a value, of which at least one and at most all are to store
-- it, and what it heard was sent.
pub record WriteIsSound (w : WorldValue) (s : WriteState) : Type 0 where
  pub value : List ℕ
  pub ask_is : s.ask ≡ Put s.nonce s.key s.nonce s.expiry value
  pub bricks : may_be_asked (asked_of s.asks) ≡ true
  pub some : 1 ≤ s.least
  pub at_most_all : s.least ≤ length s.asks
  pub replies : WereSent w (λ brick. brick) (put_lawful s.nonce s.key) s.asks

-- a read asks 1 to 16 distinct bricks, and what it heard was sent
pub record ReadIsSound (w : WorldValue) (s : ReadState) : Type 0 where
  pub bricks : may_be_asked (bricks_of (asked_of s.asks)) ≡ true
  pub replies : WereSent w (λ (holder : Holder). holder.brick) (get_lawful s.nonce s.key s.version s.expiry) s.asks

-- what holds of a call
abbrev pub CallIsSound : WorldValue → Call → Type 0
CallIsSound w (call.Write s) = WriteIsSound w s
CallIsSound w (call.Read s) = ReadIsSound w s

-- What holds of each world: no two calls have one nonce; each request is the ask of a call, sent to a brick
-- that the call asks; each value that a brick ever stored is one that a write asked this brick to keep; and
-- what calls heard was sent.
pub record IsSound (w : WorldValue) : Type 0 where
  pub nonces : (i j : ℕ) (c d : Call) → slice_get w.calls i ≡ Some c → slice_get w.calls j ≡ Some d → nonce_of c ≡ nonce_of d → i ≡ j
  pub requests : (i : ℕ) (p : Packet) → slice_get w.packets i ≡ Some p → is_request p.frame ≡ true → WasAskedOf w p.brick p.frame
  pub stored : (brick : BrickNo) (h : List BrickEvent) → history w brick ≡ Some h → AllStored (WasWritten w brick) h
  pub calls : (i : ℕ) (c : Call) → slice_get w.calls i ≡ Some c → CallIsSound w c
