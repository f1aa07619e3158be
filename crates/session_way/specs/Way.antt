-- The way of a request with its session: what a stage wants, what it holds, and what a step leaves.
use Rattle.std.specs.Prelude.{◌≡◌, ◌⊎◌, List, map, Option, Some, None, Result}
use Rattle.outside.specs.declared.link.LinkEvent.{LinkEvent}
use Rattle.send_windows.specs.declared.pass.Pass.{Pass}
use Rattle.send_windows.specs.Passes.{hushed}
use Rattle.send_windows.specs.Windows.{WindowsValue, AreTaken, RefusedAs, after_spend, chosen, taken}
use Rattle.send_windows.specs.declared.windows.TakeRefusal.{TakeRefusal}
use Rattle.send_windows.specs.declared.windows.TakeRefusal.TheVariants.{Overload, OutOfMemory}
use Rattle.session_cookie.specs.declared.cookie.Cookie.{Cookie}
use Rattle.ssm_frames.specs.Spelling.{encode_of}
use Rattle.ssm_stub.specs.declared.event.StubNext.{StubNext}
use Rattle.ssm_stub.specs.declared.event.StubNext.TheVariants.{Send, Receive, Ended}
use Rattle.ssm_stub.specs.declared.write_call.WriteRefusal.{WriteRefusal}
use Rattle.ssm_stub.specs.Reads.{ReadState, read_ask, read_machine, read_next}
use Rattle.ssm_stub.specs.Runs.{BreaksOff, Steps}
use Rattle.ssm_stub.specs.Writes.{WriteState, write_answer, write_machine, write_next, write_until}
use Rattle.session_way.specs.Writing.{passes_spent, write_begun}
use Rattle.session_way.specs.declared.session_write.WriteOrder.{WriteOrder}
use Rattle.session_way.specs.declared.way.SessionWay.{SessionWay}
use Rattle.session_way.specs.declared.way.SessionWay.TheVariants.{Resting, Reading, Ordered, Writing, Settling, Holding}
use Rattle.session_way.specs.declared.way.Wants.{Wants}
use Rattle.session_way.specs.declared.way.Wants.TheVariants.{Nothing, Outside, Windows}

-- a call of the link where a machine wants one, and else this
abbrev pub outside_or : Wants → StubNext → Wants
outside_or wants (Send brick) = Outside
outside_or wants (Receive brick) = Outside
outside_or wants Ended = wants

-- Whose step is next. A read and a write want the link until they have their answer. A write that is settled wants it
-- until all its bricks were heard, and then that its passes are spent.
abbrev pub wants : SessionWay → Wants
wants Resting = Nothing
wants (Reading r) = outside_or Nothing (read_next r)
wants (Ordered order) = Windows
wants (Writing w) = outside_or Nothing (write_until.next w.write)
wants (Settling w) = outside_or Windows (write_next w.write)
wants (Holding passes) = Windows

-- The passes that are held, as they are spent where they are given back now: by what was heard of their bricks, and
-- Silent where nothing was.
abbrev pub held : SessionWay → Option (List Pass)
held Resting = None
held (Reading r) = None
held (Ordered order) = None
held (Writing w) = Some (passes_spent w)
held (Settling w) = Some (passes_spent w)
held (Holding passes) = Some (map hushed passes)

-- the answer of the write that is held, if one is and has it
abbrev pub answer_held : SessionWay → Option (Result Cookie WriteRefusal)
answer_held Resting = None
answer_held (Reading r) = None
answer_held (Ordered order) = None
answer_held (Writing w) = write_answer w.write
answer_held (Settling w) = write_answer w.write
answer_held (Holding passes) = None

-- a fact of the passes that are held, if some are
abbrev pub OnHeld : (List Pass → Type 0) → Option (List Pass) → Type 0
OnHeld P None = Unit {0}
OnHeld P (Some passes) = P passes

-- windows after passes were given back, if some were held
abbrev pub after_give_back : WindowsValue → Option (List Pass) → WindowsValue
after_give_back windows None = windows
after_give_back windows (Some passes) = after_spend windows passes

-- A way made one step outside: that of the read or the write that it holds. It stays in its stage.
abbrev pub StepsOutside : {L : Type 0} → (L → LinkEvent → L → Type 0) → SessionWay → L → SessionWay → L → Type 0
StepsOutside makes Resting old new link = ⊥
StepsOutside makes (Reading r) old new link =
    (after : ReadState) × (new ≡ Reading after) × Steps read_machine makes (encode_of (read_ask r)) r old after link
StepsOutside makes (Ordered order) old new link = ⊥
StepsOutside makes (Writing w) old new link =
    (after : WriteState) × (new ≡ Writing (record w { write = after })) × Steps write_machine makes (encode_of w.write.ask) w.write old after link
StepsOutside makes (Settling w) old new link =
    (after : WriteState) × (new ≡ Settling (record w { write = after })) × Steps write_machine makes (encode_of w.write.ask) w.write old after link
StepsOutside makes (Holding passes) old new link = ⊥

-- A step outside broke off, since memory was wanted: of the read or the write that is held.
abbrev pub BreaksOffOutside : {L : Type 0} → (L → LinkEvent → L → Type 0) → SessionWay → L → L → Type 0
BreaksOffOutside makes Resting old new = ⊥
BreaksOffOutside makes (Reading r) old new = BreaksOff makes (encode_of (read_ask r)) (read_next r) old new
BreaksOffOutside makes (Ordered order) old new = ⊥
BreaksOffOutside makes (Writing w) old new = BreaksOff makes (encode_of w.write.ask) (write_next w.write) old new
BreaksOffOutside makes (Settling w) old new = BreaksOff makes (encode_of w.write.ask) (write_next w.write) old new
BreaksOffOutside makes (Holding passes) old new = ⊥

-- the passes that a write of this order is given: from the serial of its nonce on
abbrev pub passes_for : WriteOrder → WindowsValue → List Pass
passes_for order windows = chosen windows order.nonce.serial

-- Passes were taken, and the write has begun: it asks the bricks of these passes, and as many are to store its value as
-- the windows give at least.
pub record IsTaken (order : WriteOrder) (old : WindowsValue) (way : SessionWay) (new : WindowsValue) : Type 0 where
  pub writes : way ≡ Writing (write_begun order old.wq (passes_for order old))
  pub after : new ≡ taken old (passes_for order old)
  pub lawful : AreTaken old.wq old.w (passes_for order old)

-- A way made one step of the windows: passes were taken for a write; or those that were held were spent, and nothing is
-- held any more.
abbrev pub StepsWindows : SessionWay → WindowsValue → SessionWay → WindowsValue → Type 0
StepsWindows Resting old way new = ⊥
StepsWindows (Reading r) old way new = ⊥
StepsWindows (Ordered order) old way new = IsTaken order old way new
StepsWindows (Writing w) old way new = ⊥
StepsWindows (Settling w) old way new = (way ≡ Resting) × (new ≡ after_spend old (passes_spent w))
StepsWindows (Holding passes) old way new = (way ≡ Resting) × (new ≡ after_spend old (map hushed passes))

-- Passes were taken, and are held, since there was no memory for the write to begin.
pub record IsHolding (order : WriteOrder) (old : WindowsValue) (way : SessionWay) (new : WindowsValue) : Type 0 where
  pub holds : way ≡ Holding (passes_for order old)
  pub after : new ≡ taken old (passes_for order old)
  pub lawful : AreTaken old.wq old.w (passes_for order old)

-- No write has begun: passes were refused, and nothing is held; or there was no memory, before the passes were taken or
-- after.
abbrev pub IsRefused : SessionWay → WindowsValue → SessionWay → WindowsValue → TakeRefusal → Type 0
IsRefused Resting old way new refusal = ⊥
IsRefused (Reading r) old way new refusal = ⊥
IsRefused (Ordered order) old way new (Overload full) = (way ≡ Resting) × RefusedAs old new (Overload full)
IsRefused (Ordered order) old way new OutOfMemory = ((way ≡ Resting) × (new ≡ old)) ⊎ IsHolding order old way new
IsRefused (Writing w) old way new refusal = ⊥
IsRefused (Settling w) old way new refusal = ⊥
IsRefused (Holding passes) old way new refusal = ⊥

-- a write is settled once its response has left
abbrev pub settled : SessionWay → SessionWay
settled Resting = Resting
settled (Reading r) = Reading r
settled (Ordered order) = Ordered order
settled (Writing w) = Settling w
settled (Settling w) = Settling w
settled (Holding passes) = Holding passes
