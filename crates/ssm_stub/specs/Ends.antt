-- How writes, reads and settling end over a link.
use Rattle.std.specs.Prelude.{◌≡◌, ◌⊎◌, ℕ, List, [], ◌∷◌, map, Option, Some, Result}
use Rattle.crash_base.specs.declared.numbers.BrickNo.{BrickNo}
use Rattle.outside.specs.declared.link.LinkEvent.{LinkEvent}
use Rattle.session_cookie.specs.declared.cookie.Cookie.{Cookie}
use Rattle.ssm_frames.specs.declared.frame.Frame.{Frame}
use Rattle.ssm_frames.specs.Spelling.{encode_of}
use Rattle.send_windows.specs.declared.pass.Pass.{Pass}
use Rattle.send_windows.specs.declared.pass.PassMark.{PassMark}
use Rattle.send_windows.specs.declared.pass.PassMark.TheVariants as pass_mark
use Rattle.send_windows.specs.Passes.{hushed}
use Rattle.ssm_stub.specs.declared.ear.Stage.TheVariants.{Asked}
use Rattle.ssm_stub.specs.declared.ear.Outcome.{Outcome}
use Rattle.ssm_stub.specs.declared.ear.Ear.TheVariants.{Open, Heard}
use Rattle.ssm_stub.specs.declared.event.StubEvent.{StubEvent}
use Rattle.ssm_stub.specs.declared.reply.WriteReply.{WriteReply}
use Rattle.ssm_stub.specs.declared.write_call.WriteRefusal.{WriteRefusal}
use Rattle.ssm_stub.specs.declared.read_call.ReadRefusal.{ReadRefusal}
use Rattle.ssm_stub.specs.Hearing.{ear_machine}
use Rattle.ssm_stub.specs.Runs.{Ran, ReceiveFails, Stopped}
use Rattle.ssm_stub.specs.Writes.{WriteState, write_answer, write_until, mark_by, pass_of}
use Rattle.ssm_stub.specs.Reads.{ReadState, read_ask, read_answer, read_machine}

-- the bricks of passes
abbrev pub bricks_of : List Pass → List BrickNo
bricks_of passes = map (λ (pass : Pass). pass.brick) passes

-- the marks of passes
abbrev pub marks_of : List Pass → List PassMark
marks_of passes = map (λ (pass : Pass). pass.mark) passes

-- A write ended with this answer: it is that of the end of a run up to the answer, and each pass is
-- marked by what was then heard of its brick.
pub record WriteEnds {L : Type 0} (makes : L → LinkEvent → L → Type 0) (start : WriteState) (old new : L) (passes : List Pass) (answer : Result Cookie WriteRefusal) : Type 0 where
  pub events : List StubEvent
  pub end : WriteState
  pub ran : Ran write_until makes (encode_of start.ask) start old events end new
  pub answers : write_answer end ≡ Some answer
  pub marks : passes ≡ map pass_of end.asks

-- A write ended without an answer, since memory was wanted: each pass is marked by what was then heard
-- of its brick, and Silent where that is no outcome.
pub record WriteStops {L : Type 0} (makes : L → LinkEvent → L → Type 0) (start : WriteState) (old new : L) (passes : List Pass) : Type 0 where
  pub end : WriteState
  pub stopped : Stopped write_until makes (encode_of start.ask) start old end new
  pub marks : passes ≡ map hushed (map pass_of end.asks)

-- A read ended with this answer: it is that of the end of a run.
pub record ReadEnds {L : Type 0} (makes : L → LinkEvent → L → Type 0) (start : ReadState) (old new : L) (answer : Result (List ℕ) ReadRefusal) : Type 0 where
  pub events : List StubEvent
  pub end : ReadState
  pub ran : Ran read_machine makes (encode_of (read_ask start)) start old events end new
  pub answers : read_answer end ≡ Some answer

-- A read ended without an answer, since memory was wanted.
pub record ReadStops {L : Type 0} (makes : L → LinkEvent → L → Type 0) (start : ReadState) (old new : L) : Type 0 where
  pub end : ReadState
  pub stopped : Stopped read_machine makes (encode_of (read_ask start)) start old end new

-- A brick that was asked was heard until memory was wanted: some strays came, and then a frame was to be
-- received, and there was no memory for it.
pub record StopsHearing {L : Type 0} (makes : L → LinkEvent → L → Type 0) (lawful : Frame → Option WriteReply) (brick : BrickNo) (old new : L) : Type 0 where
  pub events : List StubEvent
  pub strays : ℕ
  pub reached : L
  pub ran : Ran (ear_machine brick lawful) makes [] (Open (Asked 0)) old events (Open (Asked strays)) reached
  pub fails : ReceiveFails makes brick reached new

-- A brick that was asked was heard to its outcome, which gives the mark; or memory was wanted, and the
-- mark is Silent. Nothing was sent.
abbrev pub HeardOut : {L : Type 0} → (L → LinkEvent → L → Type 0) → (Frame → Option WriteReply) → BrickNo → L → L → PassMark → Type 0
HeardOut makes lawful brick old new mark =
    ((events : List StubEvent) × (outcome : Outcome WriteReply)
    × Ran (ear_machine brick lawful) makes [] (Open (Asked 0)) old events (Heard outcome) new
    × (mark ≡ mark_by (Heard outcome)))
    ⊎ (StopsHearing makes lawful brick old new
    × (mark ≡ pass_mark.Silent))

-- A pass was settled: the brick of an unheard one was heard out, and for any other nothing was done.
abbrev pub SettledAs : {L : Type 0} → (L → LinkEvent → L → Type 0) → (BrickNo → Frame → Option WriteReply) → BrickNo → PassMark → L → L → PassMark → Type 0
SettledAs makes lawful brick pass_mark.Unheard old new mark = HeardOut makes (lawful brick) brick old new mark
SettledAs makes lawful brick pass_mark.Answered old new mark = (old ≡ new) × (mark ≡ pass_mark.Answered)
SettledAs makes lawful brick pass_mark.Silent old new mark = (old ≡ new) × (mark ≡ pass_mark.Silent)

-- Passes were settled one after another, and have these marks then.
abbrev pub Settled : {L : Type 0} → (L → LinkEvent → L → Type 0) → (BrickNo → Frame → Option WriteReply) → L → List Pass → List PassMark → L → Type 0
Settled makes lawful old [] [] new = old ≡ new
Settled makes lawful old [] (mark ∷ marks) new = ⊥
Settled makes lawful old (pass ∷ passes) [] new = ⊥
Settled {L} makes lawful old (pass ∷ passes) (mark ∷ marks) new =
    (mid : L) × SettledAs makes lawful pass.brick pass.mark old mid mark
    × Settled makes lawful mid passes marks new
