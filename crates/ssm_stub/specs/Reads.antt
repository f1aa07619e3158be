-- A read: what was heard so far, the answer over it, and what is wanted next.
use Rattle.std.specs.Prelude.{ℕ, nat_lt, Bool, true, false, if◌then◌else◌, List, filter_map, Option, Some, None, Result, Ok, Err, position, slice_get}
use Rattle.std.specs.Option.{option_and_then}
use Rattle.crash_base.specs.declared.numbers.Moment.{Moment}
use Rattle.crash_base.specs.declared.numbers.SessionKey.{SessionKey}
use Rattle.crash_base.specs.declared.numbers.Version.{Version}
use Rattle.session_cookie.specs.declared.cookie.Holder.{Holder}
use Rattle.session_cookie.specs.declared.cookie.Cookie.{Cookie}
use Rattle.ssm_frames.specs.declared.frame.Frame.{Frame}
use Rattle.ssm_frames.specs.declared.frame.Frame.TheVariants.{Get}
use Rattle.ssm_stub.specs.declared.cause.Cause.{Cause}
use Rattle.ssm_stub.specs.declared.cause.Cause.TheVariants as cause
use Rattle.ssm_stub.specs.declared.cause.BrickCause.{BrickCause}
use Rattle.ssm_stub.specs.declared.ear.Outcome.TheVariants.{Answered, Silent, Strayed}
use Rattle.ssm_stub.specs.declared.ear.Ear.{Ear}
use Rattle.ssm_stub.specs.declared.ear.Ear.TheVariants.{Open, Heard}
use Rattle.ssm_stub.specs.declared.event.Told.{Told}
use Rattle.ssm_stub.specs.declared.event.StubNext.{StubNext}
use Rattle.ssm_stub.specs.declared.ask.Ask.{Ask}
use Rattle.ssm_stub.specs.declared.ask.Turn.{Turn}
use Rattle.ssm_stub.specs.declared.reply.ReadReply.{ReadReply}
use Rattle.ssm_stub.specs.declared.reply.ReadReply.TheVariants.{Found, Crashed, Swept}
use Rattle.ssm_stub.specs.declared.read_call.ReadRefusal.{ReadRefusal}
use Rattle.ssm_stub.specs.declared.read_call.ReadRefusal.TheVariants.{Expired, Lost}
use Rattle.ssm_stub.specs.Replies.{refers, lawful_get}
use Rattle.ssm_stub.specs.Turns.{none_asked, turn_in_order, asks_after, wanted}
use Rattle.ssm_stub.specs.Runs.{Machine}
use Rattle.ssm_stub.specs.Writes.{with_brick}

-- the lawful reply of a holder to the Get of this nonce for the value of this key, version and expiry
abbrev pub get_lawful : Version → SessionKey → Version → Moment → Holder → Frame → Option ReadReply
get_lawful nonce key version expiry holder frame =
    lawful_get (refers nonce key version holder.brick) holder expiry frame

-- the value that a brick gave, if it did
abbrev pub value_by : Ear ReadReply → Option (List ℕ)
value_by (Open stage) = None
value_by (Heard (Answered (Found value))) = Some value
value_by (Heard (Answered (Crashed incarnation))) = None
value_by (Heard (Answered (Swept moment))) = None
value_by (Heard Silent) = None
value_by (Heard Strayed) = None

-- the value that the brick that was asked gave, if it did
abbrev pub value_of : Ask Holder ReadReply → Option (List ℕ)
value_of ask = value_by ask.ear

-- whether the brick gave the value
abbrev pub is_found : Ask Holder ReadReply → Bool
is_found ask = elim (value_of ask) [ None ↦ false | Some value ↦ true ]

-- the value of the first brick that gave one
abbrev pub found_in : List (Ask Holder ReadReply) → Option (List ℕ)
found_in asks =
    option_and_then (λ at. option_and_then value_of (slice_get asks at)) (position is_found asks)

-- why the brick did not give the value, where that is known
abbrev pub loss_by : Ear ReadReply → Option Cause
loss_by (Open stage) = None
loss_by (Heard (Answered (Found value))) = None
loss_by (Heard (Answered (Crashed incarnation))) = Some (cause.Crashed incarnation)
loss_by (Heard (Answered (Swept moment))) = Some (cause.Swept moment)
loss_by (Heard Silent) = Some cause.Silent
loss_by (Heard Strayed) = Some cause.Strayed

-- the brick that was asked with its cause, where that is known
abbrev pub loss_of : Ask Holder ReadReply → Option BrickCause
loss_of ask = with_brick ask.who.brick (loss_by ask.ear)

-- no answer while some brick is to be asked or heard, and then the refusal with these causes
abbrev pub lost_unless : Option (Turn Holder) → List BrickCause → Option (Result (List ℕ) ReadRefusal)
lost_unless (Some turn) causes = None
lost_unless None causes = Some (Err (Lost causes))

-- the value, and else what follows
abbrev pub found_or : Option (List ℕ) → Option (Result (List ℕ) ReadRefusal) → Option (Result (List ℕ) ReadRefusal)
found_or (Some value) rest = Some (Ok value)
found_or None rest = rest

-- The answer over what was heard so far: Expired at a moment past the expiry; else the value, once a
-- brick gave it; Lost where all were heard and none did; and else none.
abbrev pub read_answer_of : Moment → Moment → List (Ask Holder ReadReply) → Option (Result (List ℕ) ReadRefusal)
read_answer_of now expiry asks =
    if nat_lt expiry.0 now.0
    then Some (Err (Expired now expiry))
    else found_or (found_in asks) (lost_unless (turn_in_order asks) (filter_map loss_of asks))

-- A read so far: the moment at which it was made, its nonce, the key, version and expiry of its cookie,
-- and what was heard of each holder, in the cookie's order.
pub record ReadState : Type 0 where
  pub moment : Moment
  pub nonce : Version
  pub key : SessionKey
  pub version : Version
  pub expiry : Moment
  pub asks : List (Ask Holder ReadReply)

-- a read of which nothing was sent
abbrev pub read_start : Moment → Version → Cookie → ReadState
read_start now nonce cookie =
    record {
      moment = now;
      nonce = nonce;
      key = cookie.key;
      version = cookie.version;
      expiry = cookie.expiry;
      asks = none_asked cookie.bricks;
    }

-- its ask
abbrev pub read_ask : ReadState → Frame
read_ask s = Get s.nonce s.key s.version

-- its answer so far
abbrev pub read_answer : ReadState → Option (Result (List ℕ) ReadRefusal)
read_answer s = read_answer_of s.moment s.expiry s.asks

-- no turn where there is an answer
abbrev pub turn_unless : Option (Result (List ℕ) ReadRefusal) → Option (Turn Holder) → Option (Turn Holder)
turn_unless (Some answer) turn = None
turn_unless None turn = turn

-- whose turn it is, while there is no answer
abbrev pub turn_of_read : ReadState → Option (Turn Holder)
turn_of_read s = turn_unless (read_answer s) (turn_in_order s.asks)

-- what it wants next: while there is no answer, its ask sent to the first holder without an outcome, or
-- a frame from it where that was sent
abbrev pub read_next : ReadState → StubNext
read_next s = wanted (λ holder. holder.brick) (turn_of_read s)

-- the read after what came of that
abbrev pub hear_read : ReadState → Told → ReadState
hear_read s told =
    record s {
      asks = asks_after (get_lawful s.nonce s.key s.version s.expiry) told s.asks (turn_of_read s);
    }

-- a read up to its answer
abbrev pub read_machine : Machine ReadState
read_machine = record { next = read_next; hear = hear_read }
