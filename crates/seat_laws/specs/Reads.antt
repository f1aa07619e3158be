-- What a seat reads of its session.
use Rattle.std.specs.Prelude.{◌≡◌, ◌⊎◌, ◌≤◌, ℕ, List, [], length, map, Option, Some, None, option_map, slice_get}
use Rattle.auction_calls.specs.declared.action.ActionCall.{ActionCall}
use Rattle.crash_base.specs.declared.numbers.Moment.{Moment}
use Rattle.http_wire.specs.Taking.{taken_of}
use Rattle.http_wire.specs.declared.taken.Head.{Head}
use Rattle.http_wire.specs.declared.taken.Taken.TheVariants.{Request}
use Rattle.lane_link.specs.Twins.{ByEvents, call_held}
use Rattle.outcome_items.specs.declared.item.Item.{Item}
use Rattle.outcome_items.specs.declared.outcome.ItemOutcome.{ItemOutcome}
use Rattle.outcome_items.specs.declared.outcome.ItemOutcome.TheVariants as item
use Rattle.outside.specs.declared.serials.TheConstants.{SERIALS_END}
use Rattle.request_decisions.specs.declared.decision.Decision.{Decision}
use Rattle.request_decisions.specs.declared.decision.Decision.TheVariants.{Ordered, Refused}
use Rattle.request_visit.specs.Advancing.{value_of}
use Rattle.request_visit.specs.declared.visit.Fate.{Fate}
use Rattle.request_visit.specs.declared.visit.Fate.TheVariants.{Known, Writing}
use Rattle.request_visit.specs.declared.visit.Visit.{Visit}
use Rattle.request_visit.specs.declared.visit.Work.{Work}
use Rattle.request_visit.specs.declared.visit.Work.TheVariants.{Reading, Opening, Serving as ServingBy, Committed, Decided, Answered, Left}
use Rattle.session_cookie.specs.declared.cookie.Cookie.{Cookie}
use Rattle.session_cookie.specs.declared.cookie.Holder.{Holder}
use Rattle.session_lanes.specs.Lanes.{LanesState}
use Rattle.session_lanes.specs.Sound.{LanesAreSound}
use Rattle.session_way.specs.Reading.{answer_of_read, cookie_asked}
use Rattle.session_way.specs.declared.lease.SessionLease.{SessionLease}
use Rattle.session_way.specs.declared.session_read.ReadOutcome.{ReadOutcome}
use Rattle.session_way.specs.declared.session_read.ReadOutcome.TheVariants as read
use Rattle.session_way.specs.declared.way.SessionWay.{SessionWay}
use Rattle.session_way.specs.declared.way.SessionWay.TheVariants as way
use Rattle.shepherd.specs.declared.shepherd.AskedCall.{AskedCall}
use Rattle.shepherd.specs.declared.shepherd.Stage.{Stage}
use Rattle.shepherd.specs.declared.shepherd.Stage.TheVariants.{Resting, Serving, Refusing, Over}
use Rattle.shepherd_steps.specs.Deciding.{accepted_by}
use Rattle.ssm_stub.specs.Reads.{ReadState}
use Rattle.ssm_stub.specs.Writes.{WriteState}
use Rattle.ssm_stub.specs.declared.cause.BrickCause.{BrickCause}
use Rattle.ssm_world.specs.Claims.{IsRight, ReadOrder, WasMissed, read_world, told_since}
use Rattle.ssm_world.specs.Worlds.{WorldValue, after, bricks_of, new_world}
use Rattle.ssm_world.specs.declared.call.Call.TheVariants as call
use Rattle.ssm_world.specs.declared.event.WorldEvent.{WorldEvent}
use Rattle.seat_steps.specs.Seats.{readings_under}
use Rattle.seat_steps.specs.Twinned.{value_put}
use Rattle.seat_steps.specs.declared.seat.Seat.{Seat}

-- the read that a way holds, if it holds one
abbrev pub read_in : SessionWay → Option ReadState
read_in way.Resting = None
read_in (way.Reading r) = Some r
read_in (way.Ordered order) = None
read_in (way.Writing w) = None
read_in (way.Settling w) = None
read_in (way.Holding passes) = None

-- the same, while the request still waits for what it reads
abbrev pub read_awaited : Work ActionCall → SessionWay → Option ReadState
read_awaited Reading to = read_in to
read_awaited Opening to = None
read_awaited (ServingBy tries program) to = None
read_awaited (Committed place again shown) to = None
read_awaited (Decided became) to = None
read_awaited (Answered fate bytes) to = None
read_awaited (Left fate) to = None

-- The read that the request that is open waits for, if one is open and waits.
abbrev pub read_under_way : Stage ActionCall → Option ReadState
read_under_way Resting = None
read_under_way (Serving v call) = read_awaited v.work v.way
read_under_way (Refusing why bytes) = None
read_under_way (Over end) = None

-- a session that was found, if one was
abbrev pub found : Option SessionLease → Option ReadOutcome
found lease = option_map (λ (l : SessionLease). read.Found l) lease

-- what a read came to, by what became of its request, and by the session that it found, if it found one
abbrev pub read_told : ItemOutcome → Option SessionLease → Option ReadOutcome
read_told (item.Refused why) lease = found lease
read_told (item.SerialsSpent seen) lease = found lease
read_told (item.Expired now expiry) lease = Some (read.Expired now expiry)
read_told (item.Lost causes) lease = Some (read.Lost causes)
read_told (item.Ended outcome) lease = found lease
read_told (item.Overload place again full) lease = found lease
read_told (item.Missed place again causes) lease = found lease

-- the same, by the fate of the request
abbrev pub read_fated : Fate → Option SessionLease → Option ReadOutcome
read_fated (Known became) lease = read_told became lease
read_fated (Writing place again) lease = found lease

-- the same, by its work
abbrev pub read_behind : Work ActionCall → Option SessionLease → Option ReadOutcome
read_behind Reading lease = None
read_behind Opening lease = found lease
read_behind (ServingBy tries program) lease = found lease
read_behind (Committed place again shown) lease = found lease
read_behind (Decided became) lease = read_told became lease
read_behind (Answered fate bytes) lease = read_fated fate lease
read_behind (Left fate) lease = read_fated fate lease

-- What the request that is open heard of its session: what its read came to, if one is open and has read it.
abbrev pub read_heard : Stage ActionCall → Option ReadOutcome
read_heard Resting = None
read_heard (Serving v call) = read_behind v.work v.lease
read_heard (Refusing why bytes) = None
read_heard (Over end) = None

-- An item tells what the request that was open had heard of its session: it has the value of the session that was
-- found, and none where none was; and what became of the request tells that the session had expired, or was lost, just
-- where this was heard.
pub record TellsWhatWasHeard (stage : Stage ActionCall) (i : Item) : Type 0 where
  pub visit : Visit ActionCall
  pub call : Option AskedCall
  pub serves : stage ≡ Serving visit call
  pub value_is : i.value ≡ option_map value_of visit.lease
  pub outcome_is : read_told i.outcome visit.lease ≡ read_heard stage

-- what became of a request by its fate, where that is known
abbrev pub known_fate : Fate → Option ItemOutcome
known_fate (Known became) = Some became
known_fate (Writing place again) = None

-- the same, by its work
abbrev pub known_work : Work ActionCall → Option ItemOutcome
known_work Reading = None
known_work Opening = None
known_work (ServingBy tries program) = None
known_work (Committed place again shown) = None
known_work (Decided became) = Some became
known_work (Answered fate bytes) = known_fate fate
known_work (Left fate) = known_fate fate

-- What became of the request that is open, if one is open and that is known.
abbrev pub known_outcome : Stage ActionCall → Option ItemOutcome
known_outcome Resting = None
known_outcome (Serving v call) = known_work v.work
known_outcome (Refusing why bytes) = None
known_outcome (Over end) = None

-- Bytes begin with a request that bears this cookie: its text is read as this under a key.
pub record BearsCookie (key bytes : List ℕ) (head : Head) (cookie : Cookie) : Type 0 where
  pub taken : taken_of bytes ≡ Request head
  pub accepted : accepted_by (readings_under key) head.cookie ≡ Some cookie

-- The request that is open waits for a read by this cookie at this moment.
pub record AwaitsRead (now : Moment) (cookie : Cookie) (stage : Stage ActionCall) : Type 0 where
  pub read : ReadState
  pub waits : read_under_way stage ≡ Some read
  pub asks : cookie_asked read ≡ cookie
  pub moment_is : read.moment ≡ now

-- The request that is open is not served: it is told that the serial numbers are spent, up to one that is past the
-- last.
pub record FindsNoSerial (stage : Stage ActionCall) : Type 0 where
  pub seen : ℕ
  pub past : SERIALS_END ≤ seen
  pub became : known_outcome stage ≡ Some (item.SerialsSpent seen)

-- What a request that bears a cookie which has not expired is taken as, by what is decided of it: it is refused so; or
-- it waits for a read by its cookie at this moment, unless no serial number is left for it.
abbrev pub IsTakenBy : Moment → Cookie → Decision → Stage ActionCall → Type 0
IsTakenBy now cookie (Refused why) stage = known_outcome stage ≡ Some (item.Refused why)
IsTakenBy now cookie (Ordered order) stage = AwaitsRead now cookie stage ⊎ FindsNoSerial stage

-- What a request that bears a cookie which has expired is taken as, by what is decided of it: it is refused so; or it
-- is told that its session has expired, unless no serial number is left for it.
abbrev pub IsTakenLate : Moment → Cookie → Decision → Stage ActionCall → Type 0
IsTakenLate now cookie (Refused why) stage = known_outcome stage ≡ Some (item.Refused why)
IsTakenLate now cookie (Ordered order) stage =
    (known_outcome stage ≡ Some (item.Expired now cookie.expiry)) ⊎ FindsNoSerial stage

-- a read as it was asked for
abbrev pub order_of : ReadState → ReadOrder
order_of r = record { nonce = r.nonce; moment = r.moment; cookie = cookie_asked r }

-- A seat waits for a read that had not begun in earlier lanes, from which events lead to these.
pub record ReadsSince (earlier : LanesState) (seat : Seat) (st : LanesState) (r : ReadState) : Type 0 where
  pub waits : read_under_way seat.connection.stage ≡ Some r
  pub sound : LanesAreSound earlier
  pub events : ByEvents earlier st
  pub begins : (number : ℕ) → seat.twin ≡ Some number → length earlier.world.calls ≤ number

-- What a read came to is right in later lanes, where its cookie was acknowledged with this value in earlier ones:
-- events led from there up to its begin, and others from there on.
pub record ReadsRightly (earlier later : LanesState) (order : ReadOrder) (value : List ℕ) (outcome : ReadOutcome) : Type 0 where
  pub before : List WorldEvent
  pub since : List WorldEvent
  pub later_is : later.world ≡ read_world (after earlier.world before) order since
  pub right : IsRight later.world order value (told_since (after earlier.world before) order since) (answer_of_read outcome)

-- A session was found with this value; or it is lost, and each brick of these holders has its cause, in their order.
abbrev pub IsFoundOrLost : List ℕ → List Holder → ReadOutcome → Type 0
IsFoundOrLost value holders (read.Found lease) = lease.value ≡ value
IsFoundOrLost value holders (read.Expired now expiry) = ⊥
IsFoundOrLost value holders (read.Lost causes) = map (λ (c : BrickCause). c.brick) causes ≡ bricks_of holders

-- the value that the write of a way asks bricks to keep, if it writes
abbrev pub value_written : SessionWay → List ℕ
value_written way.Resting = []
value_written (way.Reading r) = []
value_written (way.Ordered order) = []
value_written (way.Writing w) = value_put w.write.ask
value_written (way.Settling w) = value_put w.write.ask
value_written (way.Holding passes) = []

-- The write that a way holds was missed in a world for these causes, by the events that made the world.
pub record MissedFor (to : SessionWay) (w : WorldValue) (causes : List BrickCause) : Type 0 where
  pub write : WriteState
  pub held : call_held to ≡ Some (call.Write write)
  pub place : ℕ
  pub there : slice_get w.calls place ≡ Some (call.Write write)
  pub bricks : ℕ
  pub events : List WorldEvent
  pub made : w ≡ after (new_world bricks) events
  pub missed : WasMissed bricks events place write causes
