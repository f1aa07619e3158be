-- A machine that asks bricks, and its runs over a link.
use Rattle.std.specs.Prelude.{◌≡◌, ◌⊎◌, ℕ, Bool, true, false, IsTrue, List, [], ◌∷◌, ◌++◌, map}
use Rattle.std.specs.List.{fold}
use Rattle.outside.specs.declared.link.LinkEvent.{LinkEvent}
use Rattle.outside.specs.declared.link.LinkEvent.TheVariants.{Sends, SendsInSilence, Gets, HearsSilence, WantsToSend, WantsToReceive}
use Rattle.outside.specs.Link.{Made}
use Rattle.crash_base.specs.declared.numbers.BrickNo.{BrickNo}
use Rattle.ssm_frames.specs.Reading.{decode_of, takes_memory}
use Rattle.ssm_stub.specs.declared.event.StubEvent.{StubEvent}
use Rattle.ssm_stub.specs.declared.event.StubEvent.TheVariants as event
use Rattle.ssm_stub.specs.declared.event.Told.{Told}
use Rattle.ssm_stub.specs.declared.event.Told.TheVariants.{Sent, Came, Silent}
use Rattle.ssm_stub.specs.declared.event.StubNext.{StubNext}
use Rattle.ssm_stub.specs.declared.event.StubNext.TheVariants.{Send, Receive, Ended}

-- What a machine wants in a state, and its state after it was told an event.
pub record Machine (S : Type 0) : Type 0 where
  pub next : S → StubNext
  pub hear : S → Told → S

-- what a machine is told of an event: the frame that its bytes spell, if they spell one
abbrev pub told_of : StubEvent → Told
told_of event.Sent = Sent
told_of (event.Frame bytes) = Came (decode_of bytes)
told_of event.Silent = Silent

-- whether this can come of what is wanted
abbrev pub fits : StubNext → Told → Bool
fits (Send brick) Sent = true
fits (Send brick) (Came frame) = false
fits (Send brick) Silent = true
fits (Receive brick) Sent = false
fits (Receive brick) (Came frame) = true
fits (Receive brick) Silent = true
fits Ended told = false

-- each event can come of what the machine then wants
abbrev pub Fits : {S : Type 0} → Machine S → S → List Told → Type 0
Fits m s [] = Unit {0}
Fits m s (told ∷ more) = IsTrue (fits (m.next s) told) × Fits m (m.hear s told) more

-- the state after events
abbrev pub after : {S : Type 0} → Machine S → S → List Told → S
after m s events = fold m.hear s events

-- the call of the link, with this ask, by which an event came of what is wanted; none where it cannot
abbrev pub call_of : List ℕ → StubNext → StubEvent → List LinkEvent
call_of ask (Send brick) event.Sent = Sends brick ask ∷ []
call_of ask (Send brick) (event.Frame bytes) = []
call_of ask (Send brick) event.Silent = SendsInSilence brick ask ∷ []
call_of ask (Receive brick) event.Sent = []
call_of ask (Receive brick) (event.Frame bytes) = Gets brick bytes ∷ []
call_of ask (Receive brick) event.Silent = HearsSilence brick ∷ []
call_of ask Ended event = []

-- the call of the link, with this ask, that met want of memory where this was wanted
abbrev pub want_of : List ℕ → StubNext → List LinkEvent
want_of ask (Send brick) = WantsToSend brick ask ∷ []
want_of ask (Receive brick) = WantsToReceive brick ∷ []
want_of ask Ended = []

-- the calls of the link by which the events came, in order
abbrev pub calls : {S : Type 0} → Machine S → List ℕ → S → List StubEvent → List LinkEvent
calls m ask s [] = []
calls m ask s (event ∷ events) =
    call_of ask (m.next s) event ++ calls m ask (m.hear s (told_of event)) events

-- A machine went from one state to another over a link, with these events: each came of what the
-- machine then wanted, and the link made the calls for them, in order, and no other.
pub record Ran {S L : Type 0} (m : Machine S) (makes : L → LinkEvent → L → Type 0) (ask : List ℕ) (start : S) (old : L) (events : List StubEvent) (end : S) (new : L) : Type 0 where
  pub fitting : Fits m start (map told_of events)
  pub made : Made makes old (calls m ask start events) new
  pub ends : end ≡ after m start (map told_of events)

-- A machine made one step over a link: this event came of what it wanted, the link made the call for it and
-- no other, and the machine was told it.
pub record Steps {S L : Type 0} (m : Machine S) (makes : L → LinkEvent → L → Type 0) (ask : List ℕ) (start : S) (old : L) (end : S) (new : L) : Type 0 where
  pub event : StubEvent
  pub fitting : IsTrue (fits (m.next start) (told_of event))
  pub made : Made makes old (call_of ask (m.next start) event) new
  pub hears : end ≡ m.hear start (told_of event)

-- A frame was to be received from a brick, and memory was wanted: the link had none; or a frame with a
-- value came, and there was none to read it.
pub record ReceiveFails {L : Type 0} (makes : L → LinkEvent → L → Type 0) (brick : BrickNo) (old new : L) : Type 0 where
  pub call : LinkEvent
  pub wanted : (call ≡ WantsToReceive brick) ⊎ ((bytes : List ℕ) × IsTrue (takes_memory bytes) × (call ≡ Gets brick bytes))
  pub made : makes old call new

-- A step broke off, since memory was wanted: the link made no call for it; or it made the call for what
-- is wanted, and had no memory; or it made that call, and the machine had no memory for what came of it.
pub record BreaksOff {L : Type 0} (makes : L → LinkEvent → L → Type 0) (ask : List ℕ) (next : StubNext) (old new : L) : Type 0 where
  pub last : List LinkEvent
  pub at_most_one : (last ≡ []) ⊎ ((last ≡ want_of ask next) ⊎ ((event : StubEvent) × IsTrue (fits next (told_of event)) × (last ≡ call_of ask next event)))
  pub made : Made makes old last new

-- A machine went from one state to another over a link, and then memory was wanted: a step broke off, of
-- which the machine was told nothing.
pub record Stopped {S L : Type 0} (m : Machine S) (makes : L → LinkEvent → L → Type 0) (ask : List ℕ) (start : S) (old : L) (end : S) (new : L) : Type 0 where
  pub events : List StubEvent
  pub reached : L
  pub ran : Ran m makes ask start old events end reached
  pub breaks_off : BreaksOff makes ask (m.next end) reached new
