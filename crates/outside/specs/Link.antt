-- The calls of a link: one as an event, what it counts, and several in a row.
use Rattle.std.specs.Prelude.{◌≡◌, ℕ, ◌==◌, Bool, true, false, IsTrue, List, [], ◌∷◌}
use Rattle.crash_base.specs.declared.numbers.BrickNo.{BrickNo}
use Rattle.outside.specs.declared.link.LinkEvent.{LinkEvent}
use Rattle.outside.specs.declared.link.LinkEvent.TheVariants.{Sends, SendsInSilence, Gets, HearsSilence, WantsToSend, WantsToReceive}
use Rattle.outside.specs.declared.link.Sent.{Sent}
use Rattle.outside.specs.declared.link.Sent.TheVariants.{Done, Silent, OutOfMemory}
use Rattle.outside.specs.declared.link.Received.{Received}
use Rattle.outside.specs.declared.link.Received.TheVariants.{Got, Silent as NoneCame, OutOfMemory as NoRoom}
use Rattle.outside.specs.Faults.{NeverFalls, Rose}

-- a send and its answer as an event
abbrev pub send_event : BrickNo → List ℕ → Sent → LinkEvent
send_event to frame Done = Sends to frame
send_event to frame Silent = SendsInSilence to frame
send_event to frame OutOfMemory = WantsToSend to frame

-- a receive and its answer as an event
abbrev pub receive_event : BrickNo → List ℕ → Received → LinkEvent
receive_event from frame Got = Gets from frame
receive_event from frame NoneCame = HearsSilence from
receive_event from frame NoRoom = WantsToReceive from

-- whether the brick of this number was silent in an event
abbrev pub is_silence_of : ℕ → LinkEvent → Bool
is_silence_of brick (Sends to frame) = false
is_silence_of brick (SendsInSilence to frame) = to.0 == brick
is_silence_of brick (Gets from frame) = false
is_silence_of brick (HearsSilence from) = from.0 == brick
is_silence_of brick (WantsToSend to frame) = false
is_silence_of brick (WantsToReceive from) = false

-- whether a brick was silent in an event
abbrev pub is_silence : LinkEvent → Bool
is_silence (Sends to frame) = false
is_silence (SendsInSilence to frame) = true
is_silence (Gets from frame) = false
is_silence (HearsSilence from) = true
is_silence (WantsToSend to frame) = false
is_silence (WantsToReceive from) = false

-- whether a frame came in an event
abbrev pub is_frame : LinkEvent → Bool
is_frame (Sends to frame) = false
is_frame (SendsInSilence to frame) = false
is_frame (Gets from frame) = true
is_frame (HearsSilence from) = false
is_frame (WantsToSend to frame) = false
is_frame (WantsToReceive from) = false

-- What a link has counted: the silences of each brick by its number, those of all bricks, and the
-- frames that came.
pub record Tally : Type 0 where
  pub silences : ℕ → ℕ
  pub hushed : ℕ
  pub got : ℕ

-- No count falls over an event, and each that the event adds to rises.
pub record Tallied (event : LinkEvent) (old new : Tally) : Type 0 where
  pub silences_never_fall : (brick : ℕ) → NeverFalls (old.silences brick) (new.silences brick)
  pub hushed_never_falls : NeverFalls old.hushed new.hushed
  pub got_never_falls : NeverFalls old.got new.got
  pub silence_rises : (brick : ℕ) → IsTrue (is_silence_of brick event) → Rose (old.silences brick) (new.silences brick)
  pub hushed_rises : IsTrue (is_silence event) → Rose old.hushed new.hushed
  pub got_rises : IsTrue (is_frame event) → Rose old.got new.got

-- These events in a row may lead from the one state of a link to the other.
abbrev pub Made : {L : Type 0} → (L → LinkEvent → L → Type 0) → L → List LinkEvent → L → Type 0
Made makes old [] new = old ≡ new
Made {L} makes old (event ∷ events) new = (next : L) × makes old event next × Made makes next events new
