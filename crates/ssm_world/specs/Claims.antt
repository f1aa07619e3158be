-- What the laws of worlds speak of: acknowledged cookies, what their holders keep, what reads answer, and why
-- writes are missed.
use Rattle.std.specs.Prelude.{◌≡◌, ℕ, ◌+◌, ◌<◌, ◌≤◌, true, false, All, List, [], ◌∷◌, ◌++◌, length, take, filter_map, slice_get, Some, Result, Ok, Err}
use Rattle.crash_base.specs.declared.numbers.BrickNo.{BrickNo}
use Rattle.crash_base.specs.declared.numbers.Moment.{Moment}
use Rattle.crash_base.specs.declared.numbers.SessionKey.{SessionKey}
use Rattle.crash_base.specs.declared.numbers.Version.{Version}
use Rattle.session_cookie.specs.declared.cookie.Cookie.{Cookie}
use Rattle.session_cookie.specs.declared.cookie.Holder.{Holder}
use Rattle.ssm_frames.specs.declared.frame.Frame.TheVariants.{Put}
use Rattle.brick_store.specs.declared.kept.Kept.{Kept}
use Rattle.ssm_frames.specs.declared.frame.TheConstants.{SWEEP_GRACE}
use Rattle.brick_store.specs.declared.event.BrickEvent.{BrickEvent}
use Rattle.brick_store.specs.declared.event.BrickEvent.TheVariants as happened
use Rattle.brick_store.specs.Bricks.{put_value}
use Rattle.brick_store.specs.History.{all_held, held, incarnation_after}
use Rattle.brick_store.specs.Kept.{bytes_of, is_full}
use Rattle.ssm_stub.specs.declared.cause.Cause.{Cause}
use Rattle.ssm_stub.specs.declared.cause.Cause.TheVariants as cause
use Rattle.ssm_stub.specs.declared.cause.BrickCause.{BrickCause}
use Rattle.ssm_stub.specs.declared.ear.Outcome.{Outcome}
use Rattle.ssm_stub.specs.declared.ear.Outcome.TheVariants as outcome
use Rattle.ssm_stub.specs.declared.event.Told.{Told}
use Rattle.ssm_stub.specs.declared.read_call.ReadRefusal.{ReadRefusal}
use Rattle.ssm_stub.specs.declared.read_call.ReadRefusal.TheVariants.{Expired, Lost, OutOfMemory}
use Rattle.ssm_stub.specs.declared.reply.ReadReply.{ReadReply}
use Rattle.ssm_stub.specs.declared.reply.ReadReply.TheVariants as answer
use Rattle.ssm_stub.specs.declared.reply.WriteReply.{WriteReply}
use Rattle.ssm_stub.specs.declared.reply.WriteReply.TheVariants.{Stored, Full}
use Rattle.ssm_stub.specs.Hearing.{EndsIn, told_to}
use Rattle.ssm_stub.specs.Outcomes.{stored_of, missed_of}
use Rattle.ssm_stub.specs.Turns.{none_asked}
use Rattle.ssm_stub.specs.Writes.{WriteState, put_lawful, write_answer, write_start, write_machine}
use Rattle.ssm_stub.specs.Reads.{ReadState, get_lawful, read_start, read_machine}
use Rattle.ssm_world.specs.declared.call.Call.TheVariants as call
use Rattle.ssm_world.specs.declared.event.WorldEvent.{WorldEvent}
use Rattle.ssm_world.specs.declared.event.WorldEvent.TheVariants.{Write, Read}
use Rattle.ssm_world.specs.Worlds.{WorldValue, new_world, history, may_write, may_read, step, after}
use Rattle.ssm_world.specs.Facts.{has_late_sweep, WasStored, WasSweptAt}
use Rattle.ssm_world.specs.Traces.{all_told}

-- a write of this value answered Ok with this cookie
pub record IsAcknowledged (w : WorldValue) (cookie : Cookie) (value : List ℕ) : Type 0 where
  pub place : ℕ
  pub write : WriteState
  pub there : slice_get w.calls place ≡ Some (call.Write write)
  pub answers : write_answer write ≡ Some (Ok cookie)
  pub value_is : write.ask ≡ Put write.nonce write.key write.nonce write.expiry value

-- what the holders of a cookie were asked to keep
abbrev pub kept_for : Cookie → List ℕ → Kept
kept_for cookie value = put_value cookie.key cookie.version cookie.expiry value

-- A holder stored a value in the incarnation that the cookie names, and holds it while it has that
-- incarnation and no sweep since was late for it.
pub record Keeps (w : WorldValue) (holder : Holder) (s : Kept) : Type 0 where
  pub events : List BrickEvent
  pub history_is : history w holder.brick ≡ Some events
  pub stored : WasStored events holder.incarnation s
  pub holds : incarnation_after 1 events ≡ holder.incarnation → has_late_sweep s.expiry stored.later ≡ false → held events s.key s.version ≡ Some s

-- A holder has neither crashed nor been swept late since it stored the value: it has the incarnation that the
-- cookie names, and no sweep after a store of the value was past the lease and the grace. What was swept before
-- counts for nothing.
pub record IsIntact (w : WorldValue) (holder : Holder) (s : Kept) : Type 0 where
  pub events : List BrickEvent
  pub history_is : history w holder.brick ≡ Some events
  pub uncrashed : incarnation_after 1 events ≡ holder.incarnation
  pub unswept : (stored : WasStored events holder.incarnation s) → has_late_sweep s.expiry stored.later ≡ false

-- A holder has crashed since it stored the value, and has since had the incarnation that it told, which is
-- greater than the cookie's.
pub record HasCrashed (w : WorldValue) (holder : Holder) (s : Kept) (incarnation : ℕ) : Type 0 where
  pub events : List BrickEvent
  pub history_is : history w holder.brick ≡ Some events
  pub stored : WasStored events holder.incarnation s
  pub place : ℕ
  pub crash : slice_get stored.later place ≡ Some happened.Crash
  pub greater : holder.incarnation < incarnation
  pub reached : incarnation ≤ incarnation_after 1 events

-- A holder was swept past the lease and the grace of a value that it had stored before, in the incarnation that
-- the cookie names; and in this incarnation it was swept at the moment that it tells, which is as late or later.
pub record WasSwept (w : WorldValue) (holder : Holder) (s : Kept) (told : Moment) : Type 0 where
  pub events : List BrickEvent
  pub history_is : history w holder.brick ≡ Some events
  pub moment : Moment
  pub sweep : WasSweptAt events holder.incarnation moment
  pub stored : WasStored sweep.earlier holder.incarnation s
  pub late : s.expiry.0 + SWEEP_GRACE < moment.0
  pub told_sweep : WasSweptAt events holder.incarnation told
  pub told_late : moment.0 ≤ told.0

-- a read as it is asked for: with this nonce, at this moment, of this cookie
pub record ReadOrder : Type 0 where
  pub nonce : Version
  pub moment : Moment
  pub cookie : Cookie

-- What the read was told of a holder ends in this outcome.
abbrev pub HeardAs : ReadOrder → Holder → List Told → Outcome ReadReply → Type 0
HeardAs order holder told outcome =
    EndsIn (get_lawful order.nonce order.cookie.key order.cookie.version order.cookie.expiry holder) told outcome

-- Why a holder did not give this value to a read that was told this of it: the link was silent to the
-- read's send, or to its receiving; or 64 frames came that are no lawful reply; or the holder told that
-- it has another incarnation, and has crashed since it stored the value; or it told that it was swept
-- past the lease and the grace, and was since it stored the value.
abbrev pub IsLossCause : WorldValue → ReadOrder → Kept → Holder → List Told → Cause → Type 0
IsLossCause w order s holder told cause.Silent = HeardAs order holder told outcome.Silent
IsLossCause w order s holder told cause.Strayed = HeardAs order holder told outcome.Strayed
IsLossCause w order s holder told (cause.Full entries bytes) = ⊥
IsLossCause w order s holder told (cause.Crashed incarnation) =
    HeardAs order holder told (outcome.Answered (answer.Crashed incarnation)) × HasCrashed w holder s incarnation
IsLossCause w order s holder told (cause.Swept moment) =
    HeardAs order holder told (outcome.Answered (answer.Swept moment)) × WasSwept w holder s moment

-- each holder has its cause, in order, by what the read was told of it
abbrev pub AreLost : WorldValue → ReadOrder → Kept → (Holder → List Told) → List Holder → List BrickCause → Type 0
AreLost w order s told [] [] = Unit {0}
AreLost w order s told (holder ∷ holders) (c ∷ causes) =
    (c.brick ≡ holder.brick) × IsLossCause w order s holder (told holder) c.cause × AreLost w order s told holders causes
AreLost w order s told [] (c ∷ causes) = ⊥
AreLost w order s told (holder ∷ holders) [] = ⊥

-- A holder of the cookie gave this value to the read, in a lawful Found.
pub record WasGiven (order : ReadOrder) (told : Holder → List Told) (value : List ℕ) : Type 0 where
  pub place : ℕ
  pub holder : Holder
  pub there : slice_get order.cookie.bricks place ≡ Some holder
  pub gave : HeardAs order holder (told holder) (outcome.Answered (answer.Found value))

-- The right answer of a read of a cookie that was acknowledged with this value: the value, where the read's
-- moment is not past the expiry and a holder gave it to the read; or that the cookie has expired, where the
-- read's moment is past its expiry; or, where it is not, the cause of each holder.
abbrev pub IsRight : WorldValue → ReadOrder → List ℕ → (Holder → List Told) → Result (List ℕ) ReadRefusal → Type 0
IsRight w order value told (Ok answered) =
    (answered ≡ value) × (order.moment.0 ≤ order.cookie.expiry.0) × WasGiven order told answered
IsRight w order value told (Err (Expired moment expiry)) =
    (moment ≡ order.moment) × (expiry ≡ order.cookie.expiry) × (order.cookie.expiry.0 < order.moment.0)
IsRight w order value told (Err (Lost causes)) =
    (order.moment.0 ≤ order.cookie.expiry.0)
    × AreLost w order (kept_for order.cookie value) told order.cookie.bricks causes
IsRight w order value told (Err OutOfMemory) = ⊥

-- the world after a read began in a world
abbrev pub begun : WorldValue → ReadOrder → WorldValue
begun w order = step w (Read order.nonce order.moment order.cookie)

-- the world after a read began in a world, and these events
abbrev pub read_world : WorldValue → ReadOrder → List WorldEvent → WorldValue
read_world w order events = after (begun w order) events

-- what the events since a read began tell it of a holder, by the steps that it then wants of that holder's
-- brick
abbrev pub told_since : WorldValue → ReadOrder → List WorldEvent → Holder → List Told
told_since w order events holder =
    told_to read_machine (read_start order.moment order.nonce order.cookie)
    (all_told (begun w order) (length w.calls) events) holder.brick

-- A read of a cookie that was acknowledged with this value in the world in which the read began, as it is
-- after these events.
pub record ReadAfter (w : WorldValue) (order : ReadOrder) (value : List ℕ) (events : List WorldEvent) (read : ReadState) : Type 0 where
  pub acknowledged : IsAcknowledged w order.cookie value
  pub may_begin : may_read w order.nonce order.cookie.bricks ≡ true
  pub there : slice_get (read_world w order events).calls (length w.calls) ≡ Some (call.Read read)

-- A write as it is asked for: with this nonce, of this value under this key until this expiry, at these
-- bricks, of which at least so many are to store it.
pub record WriteOrder : Type 0 where
  pub nonce : Version
  pub key : SessionKey
  pub value : List ℕ
  pub expiry : Moment
  pub bricks : List BrickNo
  pub least : ℕ

-- the event by which a write begins
abbrev pub write_event : WriteOrder → WorldEvent
write_event order = Write order.nonce order.key order.value order.expiry order.bricks order.least

-- a write of which nothing was sent
abbrev pub write_state : WriteOrder → WriteState
write_state order = write_start order.bricks order.least order.nonce order.key order.value order.expiry

-- what the events since a write began in a world tell it, in order
abbrev pub told_to_write : WorldValue → WriteOrder → List WorldEvent → List Told
told_to_write w order events = all_told (step w (write_event order)) (length w.calls) events

-- what they tell it of a brick, by the steps that it then wants of that brick
abbrev pub told_to_write_of : WorldValue → WriteOrder → List WorldEvent → BrickNo → List Told
told_to_write_of w order events brick = told_to write_machine (write_state order) (told_to_write w order events) brick

-- How a cookie was acknowledged with a value in a world that these events made of a new one: a write of the
-- value began among them, with its key, nonce and expiry, and the cookie names the first `least` of the
-- write's bricks of which the events since told it a lawful Stored, in asked order, with the incarnations
-- that these tell. Of each holder they told one (`stored`), and no brick of which they told one is passed
-- over (`none_left`).
pub record NamesWhoStored (bricks : ℕ) (events : List WorldEvent) (cookie : Cookie) (value : List ℕ) : Type 0 where
  pub earlier : List WorldEvent
  pub order : WriteOrder
  pub later : List WorldEvent
  pub parts : events ≡ earlier ++ write_event order ∷ later
  pub may_begin : may_write (after (new_world bricks) earlier) order.nonce order.bricks order.least ≡ true
  pub value_is : value ≡ order.value
  pub key_is : cookie.key ≡ order.key
  pub version_is : cookie.version ≡ order.nonce
  pub expiry_is : cookie.expiry ≡ order.expiry
  pub enough : length cookie.bricks ≡ order.least
  pub first : cookie.bricks ≡ take order.least (filter_map (stored_of order.nonce order.key (told_to_write_of (after (new_world bricks) earlier) order later)) order.bricks)
  pub stored : All (λ (holder : Holder). EndsIn (put_lawful order.nonce order.key holder.brick) (told_to_write_of (after (new_world bricks) earlier) order later holder.brick) (outcome.Answered (Stored holder.incarnation))) cookie.bricks
  pub none_left : (brick : BrickNo) (incarnation : ℕ) → EndsIn (put_lawful order.nonce order.key brick) (told_to_write_of (after (new_world bricks) earlier) order later brick) (outcome.Answered (Stored incarnation))
      → stored_of order.nonce order.key (told_to_write_of (after (new_world bricks) earlier) order later) brick ≡ Some (record { brick = brick; incarnation = incarnation })

-- At some time no earlier than a world, a brick had no room for a value, and so many values then, of so many bytes in
-- all.
pub record HadNoRoom (since w : WorldValue) (brick : BrickNo) (s : Kept) (entries bytes : ℕ) : Type 0 where
  pub earlier : List BrickEvent
  pub later : List BrickEvent
  pub history_is : history w brick ≡ Some (later ++ earlier)
  pub since_then : (h : List BrickEvent) → history since brick ≡ Some h → (newer : List BrickEvent) × (earlier ≡ newer ++ h)
  pub full : is_full (all_held earlier) s ≡ true
  pub entries_are : length (all_held earlier) ≡ entries
  pub bytes_are : bytes_of (all_held earlier) ≡ bytes

-- what a write asks its bricks to keep
abbrev pub kept_by : WriteOrder → Kept
kept_by order = put_value order.key order.nonce order.expiry order.value

-- What the write was told of a brick ends in this outcome.
abbrev pub EndsAs : WriteOrder → BrickNo → List Told → Outcome WriteReply → Type 0
EndsAs order brick told outcome = EndsIn (put_lawful order.nonce order.key brick) told outcome

-- Why a brick did not store the value of a write that was told this of it: the link was silent to the write's
-- send, or to its receiving; or 64 frames came that are no lawful reply; or the brick told that it is full, and
-- had no room for the value, at a time no earlier than the world in which the write began.
abbrev pub IsMissCause : WorldValue → WorldValue → WriteOrder → BrickNo → List Told → Cause → Type 0
IsMissCause since w order brick told cause.Silent = EndsAs order brick told outcome.Silent
IsMissCause since w order brick told cause.Strayed = EndsAs order brick told outcome.Strayed
IsMissCause since w order brick told (cause.Full entries bytes) =
    EndsAs order brick told (outcome.Answered (Full entries bytes))
    × HadNoRoom since w brick (kept_by order) entries bytes
IsMissCause since w order brick told (cause.Crashed incarnation) = ⊥
IsMissCause since w order brick told (cause.Swept moment) = ⊥

-- Why the write at a place was missed in a world that these events made of a new one: it began among them; fewer
-- than `least` of its bricks told it a lawful Stored since; and each other brick has its cause, in asked order.
pub record WasMissed (bricks : ℕ) (events : List WorldEvent) (place : ℕ) (write : WriteState) (causes : List BrickCause) : Type 0 where
  pub earlier : List WorldEvent
  pub order : WriteOrder
  pub later : List WorldEvent
  pub parts : events ≡ earlier ++ write_event order ∷ later
  pub may_begin : may_write (after (new_world bricks) earlier) order.nonce order.bricks order.least ≡ true
  pub place_is : place ≡ length (after (new_world bricks) earlier).calls
  pub order_is : record write { asks = none_asked order.bricks } ≡ write_state order
  pub few : length (filter_map (stored_of order.nonce order.key (told_to_write_of (after (new_world bricks) earlier) order later)) order.bricks) < order.least
  pub causes_are : causes ≡ filter_map (missed_of order.nonce order.key (told_to_write_of (after (new_world bricks) earlier) order later)) order.bricks
  pub all_heard : length (filter_map (stored_of order.nonce order.key (told_to_write_of (after (new_world bricks) earlier) order later)) order.bricks) + length causes ≡ length order.bricks
  pub each : All (λ (c : BrickCause). IsMissCause (after (new_world bricks) earlier) (after (new_world bricks) events) order c.brick (told_to_write_of (after (new_world bricks) earlier) order later c.brick) c.cause) causes
