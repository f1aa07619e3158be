-- A step of a request outside, over a link whose answers are fixed by its state.
use Rattle.std.specs.Prelude.{◌≡◌, ℕ, Bool, true, false, List, Option, Some, None}
use Rattle.crash_base.specs.declared.numbers.BrickNo.{BrickNo}
use Rattle.outside.specs.Link.{Tally}
use Rattle.outside.specs.declared.link.LinkEvent.{LinkEvent}
use Rattle.outside.specs.declared.link.LinkEvent.TheVariants.{Sends, SendsInSilence, Gets, HearsSilence}
use Rattle.request_visit.specs.Stepping.{counted}
use Rattle.request_visit.specs.declared.visit.Visit.{Visit}
use Rattle.session_way.specs.declared.way.SessionWay.{SessionWay}
use Rattle.session_way.specs.declared.way.SessionWay.TheVariants as way
use Rattle.ssm_frames.specs.Spelling.{encode_of}
use Rattle.ssm_stub.specs.Reads.{read_ask, read_machine}
use Rattle.ssm_stub.specs.Runs.{Machine, told_of}
use Rattle.ssm_stub.specs.Writes.{write_machine}
use Rattle.ssm_stub.specs.declared.event.StubEvent.{StubEvent}
use Rattle.ssm_stub.specs.declared.event.StubEvent.TheVariants as event
use Rattle.ssm_stub.specs.declared.event.StubNext.{StubNext}
use Rattle.ssm_stub.specs.declared.event.StubNext.TheVariants.{Send, Receive, Ended}

-- What a link answers in each state, with its state after: whether it takes a frame for a brick, and the frame that it
-- gives from a brick, if one comes.
pub record Replies (L : Type 0) : Type 0 where
  pub sends : L → BrickNo → List ℕ → Bool × L
  pub receives : L → BrickNo → Option (List ℕ) × L

-- Each call of a link for which memory did not run out is answered so.
pub record AnswersBy {L : Type 0} (makes : L → LinkEvent → L → Type 0) (replies : Replies L) : Type 0 where
  pub taken : (old new : L) (to : BrickNo) (frame : List ℕ) → makes old (Sends to frame) new → replies.sends old to frame ≡ (true, new)
  pub silent : (old new : L) (to : BrickNo) (frame : List ℕ) → makes old (SendsInSilence to frame) new → replies.sends old to frame ≡ (false, new)
  pub came : (old new : L) (from : BrickNo) (frame : List ℕ) → makes old (Gets from frame) new → replies.receives old from ≡ (Some frame, new)
  pub none_came : (old new : L) (from : BrickNo) → makes old (HearsSilence from) new → replies.receives old from ≡ (None, new)

-- what comes of a send that the link takes or does not
abbrev pub event_of_send : Bool → StubEvent
event_of_send true = event.Sent
event_of_send false = event.Silent

-- what comes of a receive that gives this frame, or none
abbrev pub event_of_receive : Option (List ℕ) → StubEvent
event_of_receive (Some frame) = event.Frame frame
event_of_receive None = event.Silent

-- what comes of what is wanted, where this is the ask, and the link after it
abbrev pub heard_over : {L : Type 0} → Replies L → List ℕ → StubNext → L → StubEvent × L
heard_over replies ask (Send brick) link =
    (event_of_send (replies.sends link brick ask).0, (replies.sends link brick ask).1)
heard_over replies ask (Receive brick) link =
    (event_of_receive (replies.receives link brick).0, (replies.receives link brick).1)
heard_over replies ask Ended link = (event.Silent, link)

-- a machine after one step over a link, and the link
abbrev pub machine_after : {S L : Type 0} → Machine S → Replies L → List ℕ → S → L → S × L
machine_after m replies ask s link =
    let heard = heard_over replies ask (m.next s) link in (m.hear s (told_of heard.0), heard.1)

-- the way of a request after one step outside, and the link
abbrev pub way_outside : {L : Type 0} → Replies L → SessionWay → L → SessionWay × L
way_outside replies way.Resting link = (way.Resting, link)
way_outside replies (way.Reading r) link =
    let after = machine_after read_machine replies (encode_of (read_ask r)) r link in (way.Reading after.0, after.1)
way_outside replies (way.Ordered order) link = (way.Ordered order, link)
way_outside replies (way.Writing w) link =
    let after = machine_after write_machine replies (encode_of w.write.ask) w.write link in
    (way.Writing (record w { write = after.0 }), after.1)
way_outside replies (way.Settling w) link =
    let after = machine_after write_machine replies (encode_of w.write.ask) w.write link in
    (way.Settling (record w { write = after.0 }), after.1)
way_outside replies (way.Holding passes) link = (way.Holding passes, link)

-- The step of a request outside, over a link that answers so; it sees what the link has counted then.
unfoldable pub outside : {P L : Type 0} → Replies L → (L → Tally) → Visit P → L → Visit P × L
outside replies tally v link =
    let after = way_outside replies v.way link in
    (record v { way = after.0; counts = counted (tally after.1) }, after.1)
