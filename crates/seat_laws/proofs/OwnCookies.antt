-- A read begins only where a request is taken, by the cookie that it bears, which has not expired.
use Rattle.std.proofs.Common.{◌≡◌, ◌∙◌, ◌≤◌, ℕ, Bool, true, false, nat_lt, if◌then◌else◌, List, map, Option, Some, None, Err, refl, sym, ap}
use Rattle.std.proofs.lemmas.Bool.{ltb-false}
use Rattle.std.specs.Option.{option_and_then}
use Rattle.auction_calls.specs.declared.action.ActionCall.{ActionCall}
use Rattle.auction_site.specs.Actions.{steps_of}
use Rattle.boot_core.specs.Boot.{BootValue}
use Rattle.container_core.specs.Container.{ContainerValue, events_of}
use Rattle.container_core.specs.declared.history.Event.{Event}
use Rattle.crash_base.specs.declared.numbers.Moment.{Moment}
use Rattle.crash_base.specs.declared.numbers.Place.{Place}
use Rattle.crash_base.specs.declared.numbers.Version.{Version}
use Rattle.http_wire.specs.Taking.{taken_of}
use Rattle.http_wire.specs.declared.taken.Head.{Head}
use Rattle.http_wire.specs.declared.taken.Taken.{Taken}
use Rattle.http_wire.specs.declared.taken.Taken.TheVariants as took
use Rattle.lane_link.specs.Links.{lane_link_tally}
use Rattle.lane_link.specs.declared.link.LaneLink.{LaneLink}
use Rattle.outcome_items.specs.declared.outcome.ItemOutcome.TheVariants as item
use Rattle.outside.specs.declared.link.LinkCounts.{LinkCounts}
use Rattle.request_decisions.specs.declared.decision.Decision.{Decision}
use Rattle.request_decisions.specs.declared.decision.Decision.TheVariants as decided
use Rattle.request_decisions.specs.declared.decision.Order.{Order}
use Rattle.request_visit.specs.Advancing.{after_leaving, departed}
use Rattle.request_visit.specs.Serving.{closing_of}
use Rattle.request_visit.specs.Stepping.{after_closing, counted, left_so, shown_so}
use Rattle.request_visit.specs.Visits.{after_outcome, begun, fate_missed, fate_written, or_own, overloaded, turn as visit_turn, with_fate}
use Rattle.request_visit.specs.declared.ready.Ready.{Ready}
use Rattle.request_visit.specs.declared.ready.Ready.TheVariants.{Respond, Write as WritesThen}
use Rattle.request_visit.specs.declared.serving.Closed.{Closed}
use Rattle.request_visit.specs.declared.serving.Closed.TheVariants as closes
use Rattle.request_visit.specs.declared.serving.Closing.{Closing}
use Rattle.request_visit.specs.declared.visit.Turn.{Turn}
use Rattle.request_visit.specs.declared.visit.Turn.TheVariants as visit
use Rattle.request_visit.specs.declared.visit.Visit.{Visit}
use Rattle.request_visit.specs.declared.visit.Work.{Work}
use Rattle.request_visit.specs.declared.visit.Work.TheVariants.{Reading, Opening, Serving as ServingBy, Committed, Decided, Answered, Left}
use Rattle.send_windows.specs.Facts.{full_facts, open_count}
use Rattle.send_windows.specs.Passes.{hushed}
use Rattle.send_windows.specs.Windows.{WindowsValue, after_spend, refused, taken}
use Rattle.session_cookie.specs.declared.cookie.Cookie.{Cookie}
use Rattle.session_cookie.specs.declared.cookie.Holder.{Holder}
use Rattle.session_way.specs.Reading.{cookie_asked}
use Rattle.session_way.specs.Way.{answer_held, outside_or, passes_for, settled}
use Rattle.session_way.specs.Writing.{passes_spent, write_begun}
use Rattle.session_way.specs.declared.session_read.ReadOutcome.{ReadOutcome}
use Rattle.session_way.specs.declared.session_read.ReadOutcome.TheVariants as read
use Rattle.session_way.specs.declared.session_write.WriteOutcome.{WriteOutcome}
use Rattle.session_way.specs.declared.session_write.WriteOutcome.TheVariants as outcome
use Rattle.session_way.specs.declared.way.SessionWay.{SessionWay}
use Rattle.session_way.specs.declared.way.SessionWay.TheVariants as way
use Rattle.session_way.specs.declared.way.Wants.TheVariants as wanted_by
use Rattle.shepherd.specs.Shepherds.{turn, turn_by}
use Rattle.shepherd.specs.Steps.{admitted_visit, asked_call, begun_by, facts_of}
use Rattle.shepherd.specs.declared.shepherd.AskedCall.{AskedCall}
use Rattle.shepherd.specs.declared.shepherd.Shepherd.{Shepherd}
use Rattle.shepherd.specs.declared.shepherd.ShepherdTurn.{ShepherdTurn}
use Rattle.shepherd.specs.declared.shepherd.ShepherdTurn.TheVariants as turns
use Rattle.shepherd.specs.declared.shepherd.Stage.{Stage}
use Rattle.shepherd.specs.declared.shepherd.Stage.TheVariants.{Resting, Serving, Refusing, Over}
use Rattle.shepherd_steps.specs.Alone.{Making, alone, alone_at, gone_alone}
use Rattle.shepherd_steps.specs.Deciding.{decided_by}
use Rattle.shepherd_steps.specs.Inside.{Course, Ends, Goes, Stride, after_course, inside, inside_of, stride, untold}
use Rattle.shepherd_steps.specs.Leaving.{output_of}
use Rattle.shepherd_steps.specs.Outside.{outside, way_outside}
use Rattle.shepherd_steps.specs.Own.{outcome_by, outcome_of_read, own, told_read}
use Rattle.shepherd_steps.specs.Passes.{goes, outcome_of, windows_by, windows_step}
use Rattle.shepherd_steps.specs.Stepping.{World, event_at, step}
use Rattle.shepherd_steps.specs.Taking.{arrival_by, arrives_by, take_request, takes_by}
use Rattle.ssm_stub.specs.Reads.{ReadState, read_start, turn_unless}
use Rattle.ssm_stub.specs.Turns.{none_asked, turn_in_order, wanted}
use Rattle.ssm_stub.specs.declared.read_call.ReadRefusal.TheVariants as refusal
use Rattle.ssm_stub.specs.declared.reply.ReadReply.{ReadReply}
use Rattle.ssm_world.proofs.Asks.{asked_none}
use Rattle.seat_steps.specs.Replies.{lane_replies}
use Rattle.seat_steps.specs.Seats.{SeatGivens, SeatWorld, givens_in, making_by, readings_under, seat_step, seen_by, service_in}
use Rattle.seat_steps.specs.declared.seat.Seat.{Seat}
use Rattle.seat_laws.proofs.Asking.{AskLaws, BearLaws, accepted-cookie}
use Rattle.seat_laws.proofs.AtOnce.{unasked-rest}
use Rattle.seat_laws.proofs.HearingReads.{waits}
use Rattle.seat_laws.proofs.OwnReads.{Unread, gone-asks, gone-unread}
use Rattle.seat_laws.proofs.Passing.{admitted, drawing, undrawn}
use Rattle.seat_laws.specs.Reads.{BearsCookie, known_outcome, read_awaited, read_in, read_under_way}

-- A read by a cookie that has expired is not waited for: the request is told so at once.
module _ (m : Making ActionCall) (k : Shepherd ActionCall) (v : Visit ActionCall) (call : Option AskedCall) (now : Moment) (nonce : Version) (cookie : Cookie) (late : nat_lt cookie.expiry.0 now.0 ≡ true) where
  abbrev r : ReadState
  r = read_start now nonce cookie

  -- a connection with memory
  abbrev s : Shepherd ActionCall
  s = record k { wants_memory = false }

  abbrev at : Option ReadOutcome → Shepherd ActionCall
  at x = record s { stage = Serving (told_read x (record v { work = Reading; way = way.Reading r })) call }

  comes : outcome_of_read r ≡ Some (read.Expired now cookie.expiry)
  comes = ap (λ (b : Bool). option_and_then (outcome_by r) (if b then Some (Err (refusal.Expired now cookie.expiry)) else unasked-rest cookie.bricks)) late

  goes-on : turn (waits s v call r) ≡ turns.Own
  goes-on =
      ap (λ (b : Bool). turn_by (or_own (outside_or wanted_by.Nothing (wanted (λ (holder : Holder). holder.brick) (turn_unless (if b then Some (Err (refusal.Expired now cookie.expiry)) else unasked-rest cookie.bricks) (turn_in_order (none_asked {A = ReadReply} cookie.bricks))))))) late

  once-told : (alone m (waits s v call r)).0 ≡ at (Some (read.Expired now cookie.expiry))
  unfolding alone own
  once-told = ap (λ (t : ShepherdTurn). (alone_at m t (waits s v call r)).0) goes-on ∙ ap at comes

  gone-told : (gone_alone m (waits s v call r)).0 ≡ (alone m (at (Some (read.Expired now cookie.expiry)))).0
  unfolding gone_alone
  gone-told = ap (λ (x : Shepherd ActionCall). (alone m x).0) once-told

  pub late-known : known_outcome (gone_alone m (waits s v call r)).0.stage ≡ Some (item.Expired now cookie.expiry)
  unfolding alone own
  late-known = ap (λ (x : Shepherd ActionCall). known_outcome x.stage) gone-told

  pub late-unread : Unread (gone_alone m (waits s v call r)).0.stage
  unfolding alone own
  late-unread = ap (λ (x : Shepherd ActionCall). read_under_way x.stage) gone-told

-- where no read is held, none is waited for
none-in : (w : Work ActionCall) (to : SessionWay) → read_in to ≡ None → read_awaited w to ≡ None
none-in Reading to none = none
none-in Opening to none = refl
none-in (ServingBy tries program) to none = refl
none-in (Committed place again shown) to none = refl
none-in (Decided became) to none = refl
none-in (Answered fate bytes) to none = refl
none-in (Left fate) to none = refl

-- so it stays for an open request in each event of its own

module _ (v : Visit ActionCall) (unread : read_awaited v.work v.way ≡ None) where
  abbrev U : Visit ActionCall → Type 0
  U x = read_awaited x.work x.way ≡ None

  outside-unread : (link : LaneLink) → U (outside lane_replies lane_link_tally v link).0
  unfolding outside
  outside-unread link = by v.work v.way unread where
    by : (w : Work ActionCall) (to : SessionWay) → read_awaited w to ≡ None → read_awaited w (way_outside lane_replies to link).0 ≡ None
    by Reading way.Resting is = refl
    by Reading (way.Reading r) is = absurd (let e : Some r ≡ None = is in cc)
    by Reading (way.Ordered order) is = refl
    by Reading (way.Writing x) is = refl
    by Reading (way.Settling x) is = refl
    by Reading (way.Holding passes) is = refl
    by Opening to is = refl
    by (ServingBy tries program) to is = refl
    by (Committed place again shown) to is = refl
    by (Decided became) to is = refl
    by (Answered fate bytes) to is = refl
    by (Left fate) to is = refl

  windows-unread : (windows : WindowsValue) → U (windows_step v windows).0
  unfolding windows_step
  windows-unread windows = by v.way where
    told : (o : Option WriteOutcome) (to : SessionWay) → read_in to ≡ None → U (after_outcome o (record v { way = to }))
    told None to none = none-in v.work to none
    told (Some (outcome.Written cookie)) to none = none-in (with_fate fate_written v.work) to none
    told (Some (outcome.Missed causes)) to none = none-in (with_fate (fate_missed causes) v.work) to none

    going : (to : SessionWay) (after : WindowsValue) → read_in to ≡ None → U (goes v to after).0
    going to after none = told (outcome_of (answer_held v.way)) to none

    by : (x : SessionWay) → U (windows_by v x windows).0
    by way.Resting = unread
    by (way.Reading r) = unread
    by (way.Ordered order) = takes (nat_lt (open_count windows.facts) windows.wq) where
      takes : (b : Bool) → U (if b then (record v { way = way.Resting; work = overloaded (full_facts windows.facts) v.work }, refused windows)
          else goes v (way.Writing (write_begun order windows.wq (passes_for order windows))) (taken windows (passes_for order windows))).0
      takes true = none-in (overloaded (full_facts windows.facts) v.work) way.Resting refl
      takes false = going (way.Writing (write_begun order windows.wq (passes_for order windows))) (taken windows (passes_for order windows)) refl
    by (way.Writing w) = unread
    by (way.Settling w) = going way.Resting (after_spend windows (passes_spent w)) refl
    by (way.Holding passes) = going way.Resting (after_spend windows (map hushed passes)) refl

  course-unread : (program : ActionCall) (c : ContainerValue) (course : Course) → U (after_course v program c course)
  course-unread program c (Goes tries) = refl
  course-unread program c (Ends end) = left (closing_of v.facts v.lease (events_of c) end) where
    shown : (closing : Closing) (place : Place) (again : Bool) (ready : Ready) → U (shown_so place again ready (record v { holds = closing.holds }))
    shown closing place again (Respond bytes) = refl
    shown closing place again (WritesThen order what) = refl

    by : (closing : Closing) (closed : Closed) → U (left_so closed (record v { holds = closing.holds }))
    by closing (closes.Page place again ready) = shown closing place again ready
    by closing (closes.Other became) = refl

    left : (closing : Closing) → U (after_closing closing v)
    left closing = by closing closing.closed

  inside-unread : (keeps : Bool) (boot : BootValue) (since : List Event) → U (inside steps_of keeps v boot since).visit
  unfolding inside
  inside-unread keeps boot since = by v.work refl where
    strides : (program : ActionCall) (x : Stride) → U (after_course v program x.container x.course)
    strides program x = course-unread program x.container x.course

    by : (w : Work ActionCall) → v.work ≡ w → U (inside_of steps_of keeps v w (untold boot since)).visit
    by Reading is = unread
    by Opening is = unread
    by (ServingBy tries program) is = strides program (stride (steps_of program) keeps (untold boot since) tries tries.attempt)
    by (Committed place again shown) is = unread
    by (Decided became) is = unread
    by (Answered fate bytes) is = unread
    by (Left fate) is = unread

  leaving-unread : U (after_leaving v)
  leaving-unread = by v.work v.way unread where
    by : (w : Work ActionCall) (to : SessionWay) → read_awaited w to ≡ None → read_awaited (departed w) (settled to) ≡ None
    by Reading way.Resting is = refl
    by Reading (way.Reading r) is = absurd (let e : Some r ≡ None = is in cc)
    by Reading (way.Ordered order) is = refl
    by Reading (way.Writing x) is = refl
    by Reading (way.Settling x) is = refl
    by Reading (way.Holding passes) is = refl
    by Opening to is = refl
    by (ServingBy tries program) to is = refl
    by (Committed place again shown) to is = refl
    by (Decided became) to is = refl
    by (Answered fate bytes) to is = refl
    by (Left fate) to is = refl

-- a read that begins asks by its cookie
start-asks : (now : Moment) (nonce : Version) (cookie : Cookie) → cookie_asked (read_start now nonce cookie) ≡ cookie
start-asks now nonce cookie = ap (λ (hs : List Holder). let c : Cookie = record cookie { bricks = hs } in c) (asked_none ReadReply cookie.bricks)

-- A request begins that bears this cookie, and reads by it.
pub record BeginsBy (key bytes : List ℕ) (now : Moment) (r : ReadState) : Type 0 where
  pub head : Head
  pub cookie : Cookie
  pub bears : BearsCookie key bytes head cookie
  pub asks : cookie_asked r ≡ cookie
  pub moment_is : r.moment ≡ now
  pub early : now.0 ≤ cookie.expiry.0

module _ (laws : AskLaws) (more : BearLaws) (g : SeatGivens) (seat : Seat) (w : SeatWorld) (r : ReadState) where
  abbrev m : Making ActionCall
  m = making_by g

  -- the seat at a stage, with memory or not
  abbrev k : Stage ActionCall → Bool → Shepherd ActionCall
  k stage wants = record (seat.connection) { stage = stage; wants_memory = wants }

  abbrev E : Stage ActionCall → Bool → ShepherdTurn → World ActionCall LaneLink
  E stage wants t = (event_at (givens_in g w) t (seen_by (record { connection = k stage wants; twin = seat.twin }) w)).0

  abbrev Begins : Shepherd ActionCall → Type 0
  Begins s = read_under_way (gone_alone m s).0.stage ≡ Some r → BeginsBy g.key seat.connection.received g.now r

  none-begins : (s : Shepherd ActionCall) → Unread s.stage → Begins s
  none-begins s unread is = absurd (let e : None ≡ Some r = sym (gone-unread m s unread) ∙ is in cc)

  abbrev rests : Shepherd ActionCall
  rests = k Resting false

  request-begins : (seen : LinkCounts) → Begins (take_request (service_in g w) seen g.now rests undrawn).0
  unfolding take_request
  request-begins seen = by (taken_of rests.received) refl where
    -- the connection behind a request's bytes, at this stage
    behind : Head → Stage ActionCall → Shepherd ActionCall
    behind head stage = record (takes_by (service_in g w) seen g.now (took.Request head) rests undrawn).0 { stage = stage }

    admits : (head : Head) → taken_of rests.received ≡ took.Request head → (order : Order) → decided_by (readings_under g.key) w.boot.start.boot head ≡ decided.Ordered order → (c : Option Cookie) → order.cookie ≡ c
        → Begins (behind head (admitted_visit (facts_of (admitted g w order) g.now rests.front head) seen (admitted g w order) c))
    admits head taken order is None has = none-begins (behind head (admitted_visit (facts_of (admitted g w order) g.now rests.front head) seen (admitted g w order) None)) refl
    admits head taken order is (Some cookie) has = λ waiting.
        let a = admitted g w order in
        let q : ReadState = read_start g.now a.read cookie in
        let v : Visit ActionCall = begun (facts_of a g.now rests.front head) seen (way.Reading q) Reading in
        let same : r ≡ q = gone-asks m (behind head Resting) v (Some (asked_call a)) q r waiting in
        record {
          head = head;
          cookie = cookie;
          bears = record { taken = taken; accepted = accepted-cookie laws more g.key w.boot.start.boot head order cookie is has };
          asks = ap cookie_asked same ∙ start-asks g.now a.read cookie;
          moment_is = ap (λ (x : ReadState). x.moment) same;
          early = in-time head a.read cookie v (Some (asked_call a)) (nat_lt cookie.expiry.0 g.now.0) refl waiting;
        } where
          in-time : (head : Head) (nonce : Version) (cookie : Cookie) (v : Visit ActionCall) (call : Option AskedCall) (b : Bool) → nat_lt cookie.expiry.0 g.now.0 ≡ b
              → read_under_way (gone_alone m (waits (behind head Resting) v call (read_start g.now nonce cookie))).0.stage ≡ Some r → g.now.0 ≤ cookie.expiry.0
          in-time head nonce cookie v call true late waiting = absurd (let e : None ≡ Some r = sym (late-unread m (behind head Resting) v call g.now nonce cookie late) ∙ waiting in cc)
          in-time head nonce cookie v call false early waiting = ltb-false cookie.expiry.0 g.now.0 early

    spent : (head : Head) → taken_of rests.received ≡ took.Request head → (order : Order) → decided_by (readings_under g.key) w.boot.start.boot head ≡ decided.Ordered order → (x : Option ℕ)
        → Begins (behind head (begun_by rests.front seen head g.now (arrival_by g.key (service_in g w).home order g.now (drawing g w order).drawn x)))
    spent head taken order is (Some serial) =
        none-begins (behind head (begun_by rests.front seen head g.now (arrival_by g.key (service_in g w).home order g.now (drawing g w order).drawn (Some serial)))) refl
    spent head taken order is None = admits head taken order is order.cookie refl

    decision : (head : Head) → taken_of rests.received ≡ took.Request head → (d : Decision) → decided_by (readings_under g.key) w.boot.start.boot head ≡ d
        → Begins (behind head (begun_by rests.front seen head g.now (arrives_by (service_in g w) g.now d undrawn).0))
    decision head taken (decided.Refused why) is = none-begins (behind head (begun_by rests.front seen head g.now (arrives_by (service_in g w) g.now (decided.Refused why) undrawn).0)) refl
    decision head taken (decided.Ordered order) is = spent head taken order is (drawing g w order).spent

    by : (t : Taken) → taken_of rests.received ≡ t → Begins (takes_by (service_in g w) seen g.now t rests undrawn).0
    by (took.Request head) taken = decision head taken ((service_in g w).decides head) refl
    by took.Bad taken = none-begins (takes_by (service_in g w) seen g.now took.Bad rests undrawn).0 refl
    by (took.TooLong len lines) taken = none-begins (takes_by (service_in g w) seen g.now (took.TooLong len lines) rests undrawn).0 refl
    by took.NoCoding taken = none-begins (takes_by (service_in g w) seen g.now took.NoCoding rests undrawn).0 refl
    by (took.BodyTooLong said) taken = none-begins (takes_by (service_in g w) seen g.now (took.BodyTooLong said) rests undrawn).0 refl
    by took.More taken = none-begins rests refl

  resting-begins : (t : ShepherdTurn) → Begins (E Resting false t).connection
  unfolding output_of
  resting-begins turns.Bytes = none-begins (E Resting false turns.Bytes).connection refl
  resting-begins turns.Request = request-begins (counted (lane_link_tally (record { lanes = w.store; active = seat.twin })))
  resting-begins turns.Outside = none-begins (E Resting false turns.Outside).connection refl
  resting-begins turns.Windows = none-begins (E Resting false turns.Windows).connection refl
  resting-begins turns.Inside = none-begins (E Resting false turns.Inside).connection refl
  resting-begins turns.Program = none-begins (E Resting false turns.Program).connection refl
  resting-begins turns.Own = none-begins (E Resting false turns.Own).connection refl
  resting-begins turns.Output = none-begins (E Resting false turns.Output).connection refl
  resting-begins turns.Item = none-begins (E Resting false turns.Item).connection refl
  resting-begins (turns.Ended end) = none-begins (E Resting false (turns.Ended end)).connection refl

  -- at an open request none begins
  serving-begins : (v : Visit ActionCall) (call : Option AskedCall) → read_awaited v.work v.way ≡ None → (t : Turn) → Begins (let stage : Stage ActionCall = Serving v call in (E stage false (turn_by t)).connection)
  unfolding output_of
  serving-begins v call unread = by where
    at : ShepherdTurn → Shepherd ActionCall
    at t = let stage : Stage ActionCall = Serving v call in (E stage false t).connection

    by : (t : Turn) → Begins (at (turn_by t))
    by visit.Outside = none-begins (at turns.Outside) (outside-unread v unread (record { lanes = w.store; active = seat.twin }))
    by visit.Windows = none-begins (at turns.Windows) (windows-unread v unread w.store.windows)
    by visit.Inside = none-begins (at turns.Inside) (inside-unread v unread g.keeps w.boot w.since)
    by visit.Program = none-begins (at turns.Program) unread
    by visit.Own = none-begins (at turns.Own) unread
    by visit.Output = none-begins (at turns.Output) (leaving-unread v unread)
    by visit.Over = none-begins (at turns.Item) unread

  -- at any stage, with memory or not
  stage-begins : (stage : Stage ActionCall) (wants : Bool) → Unread stage → Begins (E stage wants (turn (k stage wants))).connection
  unfolding output_of
  stage-begins stage true unread = none-begins (k stage true) unread
  stage-begins Resting false unread = resting-begins (turn rests)
  stage-begins (Serving v call) false unread = serving-begins v call unread (visit_turn v)
  stage-begins (Refusing why bytes) false unread = none-begins (let stage : Stage ActionCall = Refusing why bytes in (E stage false turns.Output).connection) refl
  stage-begins (Over end) false unread = none-begins (let stage : Stage ActionCall = Over end in (E stage false (turns.Ended end)).connection) refl

-- A read that a seat begins to wait for is by the cookie that the request bears which it took.
pub begins-so : AskLaws → BearLaws → (g : SeatGivens) (seat : Seat) (w : SeatWorld) (r : ReadState) → read_under_way seat.connection.stage ≡ None → read_under_way (seat_step g seat w).seat.connection.stage ≡ Some r
    → BeginsBy g.key seat.connection.received g.now r
unfolding seat_step step
begins-so laws more g seat w r none waits = stage-begins laws more g seat w r seat.connection.stage seat.connection.wants_memory none waits
