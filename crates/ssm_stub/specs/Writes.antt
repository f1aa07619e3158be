-- A write: what was heard so far, the answer over it, and what is wanted next.
use Rattle.std.specs.Prelude.{ℕ, ◌==◌, nat_le, if◌then◌else◌, List, [], ◌∷◌, length, map, take, filter_map, Option, Some, None, Result, Ok, Err}
use Rattle.crash_base.specs.declared.numbers.BrickNo.{BrickNo}
use Rattle.crash_base.specs.declared.numbers.Moment.{Moment}
use Rattle.crash_base.specs.declared.numbers.SessionKey.{SessionKey}
use Rattle.crash_base.specs.declared.numbers.Version.{Version}
use Rattle.session_cookie.specs.declared.cookie.Holder.{Holder}
use Rattle.session_cookie.specs.declared.cookie.Cookie.{Cookie}
use Rattle.ssm_frames.specs.declared.frame.Frame.{Frame}
use Rattle.ssm_frames.specs.declared.frame.Frame.TheVariants.{Put}
use Rattle.send_windows.specs.declared.pass.Pass.{Pass}
use Rattle.send_windows.specs.declared.pass.PassMark.{PassMark}
use Rattle.send_windows.specs.declared.pass.PassMark.TheVariants as mark
use Rattle.send_windows.specs.Passes.{with_mark}
use Rattle.ssm_stub.specs.declared.cause.Cause.{Cause}
use Rattle.ssm_stub.specs.declared.cause.Cause.TheVariants as cause
use Rattle.ssm_stub.specs.declared.cause.BrickCause.{BrickCause}
use Rattle.ssm_stub.specs.declared.ear.Outcome.TheVariants.{Answered, Silent, Strayed}
use Rattle.ssm_stub.specs.declared.ear.Ear.{Ear}
use Rattle.ssm_stub.specs.declared.ear.Ear.TheVariants.{Open, Heard}
use Rattle.ssm_stub.specs.declared.event.Told.{Told}
use Rattle.ssm_stub.specs.declared.event.StubNext.{StubNext}
use Rattle.ssm_stub.specs.declared.ask.Ask.{Ask}
use Rattle.ssm_stub.specs.declared.ask.Turn.{Turn}
use Rattle.ssm_stub.specs.declared.reply.WriteReply.{WriteReply}
use Rattle.ssm_stub.specs.declared.reply.WriteReply.TheVariants.{Stored, Full}
use Rattle.ssm_stub.specs.declared.write_call.WriteRefusal.{WriteRefusal}
use Rattle.ssm_stub.specs.declared.write_call.WriteRefusal.TheVariants.{Missed}
use Rattle.ssm_stub.specs.Replies.{refers, lawful_put}
use Rattle.ssm_stub.specs.Turns.{none_asked, turn_after_asks, asks_after, wanted, next_unless}
use Rattle.ssm_stub.specs.Runs.{Machine}

-- the lawful reply of a brick to the Put of this nonce and key, whose version is the nonce
abbrev pub put_lawful : Version → SessionKey → BrickNo → Frame → Option WriteReply
put_lawful nonce key brick frame = lawful_put (refers nonce key nonce brick) frame

-- the brick as a holder, where it stored the value
abbrev pub holder_by : BrickNo → Ear WriteReply → Option Holder
holder_by brick (Open stage) = None
holder_by brick (Heard (Answered (Stored incarnation))) =
    Some (record { brick = brick; incarnation = incarnation })
holder_by brick (Heard (Answered (Full entries bytes))) = None
holder_by brick (Heard Silent) = None
holder_by brick (Heard Strayed) = None

-- why the brick did not store the value, where that is known
abbrev pub cause_by : Ear WriteReply → Option Cause
cause_by (Open stage) = None
cause_by (Heard (Answered (Stored incarnation))) = None
cause_by (Heard (Answered (Full entries bytes))) = Some (cause.Full entries bytes)
cause_by (Heard Silent) = Some cause.Silent
cause_by (Heard Strayed) = Some cause.Strayed

-- the brick with its cause, where that is known
abbrev pub with_brick : BrickNo → Option Cause → Option BrickCause
with_brick brick None = None
with_brick brick (Some cause) = Some (record { brick = brick; cause = cause })

-- the brick that was asked as a holder, where it stored the value
abbrev pub holder_of : Ask BrickNo WriteReply → Option Holder
holder_of ask = holder_by ask.who ask.ear

-- the brick that was asked with its cause, where that is known
abbrev pub cause_of : Ask BrickNo WriteReply → Option BrickCause
cause_of ask = with_brick ask.who (cause_by ask.ear)

-- no answer while some brick is to be asked or heard, and then the refusal with these causes
abbrev pub missed_unless : Option (Turn BrickNo) → List BrickCause → Option (Result Cookie WriteRefusal)
missed_unless (Some turn) causes = None
missed_unless None causes = Some (Err (Missed causes))

-- The answer over what was heard so far: a cookie that names the first bricks that stored the value,
-- once there are enough; the refusal where all were heard and there are not; and else none.
abbrev pub answer_of : ℕ → Version → SessionKey → Moment → List (Ask BrickNo WriteReply) → Option (Result Cookie WriteRefusal)
answer_of least nonce key expiry asks =
    let holders = filter_map holder_of asks in
    if nat_le least (length holders)
    then Some (Ok (record {
      key = key;
      version = nonce;
      expiry = expiry;
      bricks = take least holders;
    }))
    else missed_unless (turn_after_asks asks) (filter_map cause_of asks)

-- A write so far: its ask, how many bricks are to store the value, its nonce, key and expiry, and what
-- was heard of each brick, in asked order.
pub record WriteState : Type 0 where
  pub ask : Frame
  pub least : ℕ
  pub nonce : Version
  pub key : SessionKey
  pub expiry : Moment
  pub asks : List (Ask BrickNo WriteReply)

-- a write of which nothing was sent
abbrev pub write_start : List BrickNo → ℕ → Version → SessionKey → List ℕ → Moment → WriteState
write_start bricks least nonce key value expiry =
    record {
      ask = Put nonce key nonce expiry value;
      least = least;
      nonce = nonce;
      key = key;
      expiry = expiry;
      asks = none_asked bricks;
    }

-- its answer so far
abbrev pub write_answer : WriteState → Option (Result Cookie WriteRefusal)
write_answer s = answer_of s.least s.nonce s.key s.expiry s.asks

-- what it wants next: its ask sent to the first brick that was not asked, and then a frame from the
-- first without an outcome
abbrev pub write_next : WriteState → StubNext
write_next s = wanted (λ brick. brick) (turn_after_asks s.asks)

-- the write after what came of that
abbrev pub hear_write : WriteState → Told → WriteState
hear_write s told =
    record s { asks = asks_after (put_lawful s.nonce s.key) told s.asks (turn_after_asks s.asks) }

-- a write that goes on after its answer, until all bricks are heard
abbrev pub write_machine : Machine WriteState
write_machine = record { next = write_next; hear = hear_write }

-- a write up to its answer
abbrev pub write_until : Machine WriteState
write_until = record { next = λ s. next_unless (write_answer s) (write_next s); hear = hear_write }

-- The mark of a pass by what was heard of its brick: Answered by a lawful reply, Silent where it was
-- silent or strayed.
abbrev pub mark_by : Ear WriteReply → PassMark
mark_by (Open stage) = mark.Unheard
mark_by (Heard (Answered reply)) = mark.Answered
mark_by (Heard Silent) = mark.Silent
mark_by (Heard Strayed) = mark.Silent

-- the pass to a brick that was asked
abbrev pub pass_of : Ask BrickNo WriteReply → Pass
pass_of ask = record { brick = ask.who; mark = mark_by ask.ear }

-- the mark of the brick of this number, Unheard where it is not asked at all
abbrev pub mark_in : List (Ask BrickNo WriteReply) → BrickNo → PassMark
mark_in [] brick = mark.Unheard
mark_in (ask ∷ asks) brick = if ask.who.0 == brick.0 then mark_by ask.ear else mark_in asks brick

-- passes by what a write heard of their bricks
abbrev pub heard_passes : WriteState → List Pass → List Pass
heard_passes write passes = map (λ (pass : Pass). with_mark pass (mark_in write.asks pass.brick)) passes
