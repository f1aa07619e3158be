-- What is so of what a seat asks for, and of how its request is served, passes over each step outside the container.
use Rattle.std.specs.Prelude.{option_map}
use Rattle.std.proofs.Common.{◌≡◌, ℕ, Bool, true, false, nat_lt, if◌then◌else◌, List, map, Option, Some, None, refl}
use Rattle.auction_calls.specs.Texts.{call_bytes}
use Rattle.auction_calls.specs.declared.action.ActionCall.{ActionCall}
use Rattle.container_core.specs.Container.{ContainerValue, events_of}
use Rattle.crash_base.specs.declared.numbers.Place.{Place}
use Rattle.http_wire.specs.Taking.{taken_of}
use Rattle.http_wire.specs.declared.taken.Head.{Head}
use Rattle.http_wire.specs.declared.taken.Taken.{Taken}
use Rattle.http_wire.specs.declared.taken.Taken.TheVariants as took
use Rattle.lane_link.specs.Links.{lane_link_tally}
use Rattle.lane_link.specs.declared.link.LaneLink.{LaneLink}
use Rattle.outside.specs.declared.link.LinkCounts.{LinkCounts}
use Rattle.request_decisions.specs.Calls.{call_by}
use Rattle.request_decisions.specs.Draws.{drawn_for}
use Rattle.request_decisions.specs.declared.decision.Decision.{Decision}
use Rattle.request_decisions.specs.declared.decision.Decision.TheVariants as decided
use Rattle.request_decisions.specs.declared.decision.Order.{Order}
use Rattle.request_intake.specs.Intakes.{admission_of}
use Rattle.request_intake.specs.declared.intake.Admission.{Admission}
use Rattle.request_tries.specs.Serving.{TriesValue, unbegun}
use Rattle.request_visit.specs.Advancing.{departed, value_of}
use Rattle.request_visit.specs.Serving.{closing_of}
use Rattle.request_visit.specs.Stepping.{after_closing, left_so, shown_so}
use Rattle.request_visit.specs.Visits.{after_outcome, fate_missed, fate_written, overloaded, with_fate}
use Rattle.request_visit.specs.declared.ready.Ready.{Ready}
use Rattle.request_visit.specs.declared.ready.Ready.TheVariants.{Respond, Write as WritesThen}
use Rattle.request_visit.specs.declared.serving.Closed.{Closed}
use Rattle.request_visit.specs.declared.serving.Closed.TheVariants as closes
use Rattle.request_visit.specs.declared.serving.Closing.{Closing}
use Rattle.request_visit.specs.declared.visit.Fate.{Fate}
use Rattle.request_visit.specs.declared.visit.Visit.{Visit}
use Rattle.request_visit.specs.declared.visit.Work.{Work}
use Rattle.request_visit.specs.declared.visit.Work.TheVariants.{Reading, Opening, Serving as ServingBy, Committed, Decided, Answered, Left}
use Rattle.send_windows.specs.Facts.{full_facts, open_count}
use Rattle.send_windows.specs.Passes.{hushed}
use Rattle.send_windows.specs.Windows.{WindowsValue, after_spend, refused, taken}
use Rattle.session_cookie.specs.declared.cookie.Cookie.{Cookie}
use Rattle.session_way.specs.Way.{answer_held, passes_for}
use Rattle.session_way.specs.Writing.{passes_spent, write_begun}
use Rattle.session_way.specs.declared.session_read.ReadOutcome.{ReadOutcome}
use Rattle.session_way.specs.declared.session_read.ReadOutcome.TheVariants as read
use Rattle.session_way.specs.declared.session_write.WriteOutcome.{WriteOutcome}
use Rattle.session_way.specs.declared.session_write.WriteOutcome.TheVariants as outcome
use Rattle.session_way.specs.declared.way.SessionWay.{SessionWay}
use Rattle.session_way.specs.declared.way.SessionWay.TheVariants as way
use Rattle.shepherd.specs.Shepherds.{turn}
use Rattle.shepherd.specs.Steps.{admitted_visit, asked_call, begun_by, facts_of, rested}
use Rattle.shepherd.specs.declared.shepherd.AskedCall.{AskedCall}
use Rattle.shepherd.specs.declared.shepherd.Shepherd.{Shepherd}
use Rattle.shepherd.specs.declared.shepherd.ShepherdTurn.{ShepherdTurn}
use Rattle.shepherd.specs.declared.shepherd.ShepherdTurn.TheVariants as turns
use Rattle.shepherd.specs.declared.shepherd.Stage.{Stage}
use Rattle.shepherd.specs.declared.shepherd.Stage.TheVariants.{Resting, Serving, Refusing, Over}
use Rattle.shepherd_steps.specs.Alone.{alone, alone_at, gone_alone, own_stage}
use Rattle.shepherd_steps.specs.Deciding.{decided_by}
use Rattle.shepherd_steps.specs.Inside.{Course, Ends, Goes, after_course}
use Rattle.shepherd_steps.specs.Leaving.{item_by, item_taken, output_of}
use Rattle.shepherd_steps.specs.Opening.{open_stage}
use Rattle.shepherd_steps.specs.Outside.{outside}
use Rattle.shepherd_steps.specs.Own.{heard_read, outcome_of_read, own, own_by, told_read}
use Rattle.shepherd_steps.specs.Passes.{goes, outcome_of, windows_by, windows_step}
use Rattle.shepherd_steps.specs.Stepping.{steps_in}
use Rattle.shepherd_steps.specs.Taking.{Counts, Drawing, arrival_by, arrives_by, draws, take_request, takes_by}
use Rattle.seat_steps.specs.Replies.{lane_replies}
use Rattle.seat_steps.specs.Seats.{SeatGivens, SeatWorld, making_by, readings_under, service_in}
use Rattle.seat_laws.specs.Fitting.{AsksAndServes, IfServed}

-- what a step in the container comes to is served so, where it is served still
abbrev pub CourseServes : (TriesValue → ActionCall → Type 0) → ActionCall → Course → Type 0
CourseServes Serves program (Goes tries) = Serves tries program
CourseServes Serves program (Ends end) = Unit {0}

module _ (Asks : AskedCall → Type 0) (Serves : TriesValue → ActionCall → Type 0) where
  abbrev Works : Work ActionCall → Type 0
  Works work = IfServed Serves work

  abbrev Has : Stage ActionCall → Type 0
  Has stage = AsksAndServes Asks Serves stage

  -- what a connection does by itself

  own-passes : (key : List ℕ) (v : Visit ActionCall) → Works v.work → Works (own key v).work
  unfolding own
  own-passes key v has = by v.work has where
    told : (o : Option ReadOutcome) → Works v.work → Works (told_read o v).work
    told None its = its
    told (Some (read.Found lease)) its = tt
    told (Some (read.Expired now expiry)) its = tt
    told (Some (read.Lost causes)) its = tt

    heard : (to : SessionWay) → Works (heard_read to v).work
    heard way.Resting = tt
    heard (way.Reading r) = told (outcome_of_read r) has
    heard (way.Ordered order) = tt
    heard (way.Writing w) = tt
    heard (way.Settling w) = tt
    heard (way.Holding passes) = tt

    by : (w : Work ActionCall) → Works w → Works (own_by key v w).work
    by Reading its = heard v.way
    by Opening its = has
    by (ServingBy tries program) its = has
    by (Committed place again shown) its = tt
    by (Decided became) its = tt
    by (Answered fate bytes) its = has
    by (Left fate) its = has

  own-stage-passes : (key : List ℕ) (stage : Stage ActionCall) → Has stage → Has (own_stage key stage)
  own-stage-passes key Resting has = tt
  own-stage-passes key (Serving v call) has = (has.0, own-passes key v has.1)
  own-stage-passes key (Refusing why bytes) has = tt
  own-stage-passes key (Over end) has = tt

  -- whoever serves, a request is served so once the program of what it asks for is made
  abbrev pub OpensLaw : Type 0
  OpensLaw = (g : SeatGivens) (v : Visit ActionCall) (asked : AskedCall) → Asks asked
      → (let call : ActionCall = call_by asked.call (option_map value_of v.lease) in Serves (unbegun asked.request g.worker (call_bytes call)) call)

  open-passes : OpensLaw → (g : SeatGivens) (stage : Stage ActionCall) → Has stage → Has (open_stage (making_by g).made (making_by g).worker stage)
  unfolding open_stage
  open-passes opens g Resting has = tt
  open-passes opens g (Serving v None) has = (tt, has.1)
  open-passes opens g (Serving v (Some asked)) has = (tt, opens g v asked has.0)
  open-passes opens g (Refusing why bytes) has = tt
  open-passes opens g (Over end) has = tt

  rested-has : (close : Bool) → Has (rested close)
  rested-has true = tt
  rested-has false = tt

  item-passes : (s : Shepherd ActionCall) → Has s.stage → Has (item_taken s).0.stage
  unfolding item_taken
  item-passes s has = by s.stage where
    by : (stage : Stage ActionCall) → Has (item_by s stage).0.stage
    by Resting = has
    by (Serving v call) = rested-has v.facts.close
    by (Refusing why bytes) = has
    by (Over end) = has

  once-passes : OpensLaw → (g : SeatGivens) (s : Shepherd ActionCall) → Has s.stage → Has (alone (making_by g) s).0.stage
  unfolding alone
  once-passes opens g s has = by (turn s) where
    by : (t : ShepherdTurn) → Has (alone_at (making_by g) t s).0.stage
    by turns.Bytes = has
    by turns.Request = has
    by turns.Outside = has
    by turns.Windows = has
    by turns.Inside = has
    by turns.Program = open-passes opens g s.stage has
    by turns.Own = own-stage-passes (making_by g).key s.stage has
    by turns.Output = has
    by turns.Item = item-passes s has
    by (turns.Ended end) = has

  pub gone-passes : OpensLaw → (g : SeatGivens) (s : Shepherd ActionCall) → Has s.stage → Has (gone_alone (making_by g) s).0.stage
  unfolding gone_alone
  gone-passes opens g s has = once-passes opens g (alone (making_by g) s).0 (once-passes opens g s has)

  -- what is told of a write leaves the work of a request that is served

  fated-passes : (change : Fate → Fate) (w : Work ActionCall) → Works w → Works (with_fate change w)
  fated-passes change Reading has = tt
  fated-passes change Opening has = tt
  fated-passes change (ServingBy tries program) has = has
  fated-passes change (Committed place again shown) has = tt
  fated-passes change (Decided became) has = tt
  fated-passes change (Answered fate bytes) has = tt
  fated-passes change (Left fate) has = tt

  outcome-passes : (o : Option WriteOutcome) (v : Visit ActionCall) → Works v.work → Works (after_outcome o v).work
  outcome-passes None v has = has
  outcome-passes (Some (outcome.Written cookie)) v has = fated-passes fate_written v.work has
  outcome-passes (Some (outcome.Missed causes)) v has = fated-passes (fate_missed causes) v.work has

  full-passes : (windows : WindowsValue) (w : Work ActionCall) → Works w → Works (overloaded (full_facts windows.facts) w)
  full-passes windows Reading has = tt
  full-passes windows Opening has = tt
  full-passes windows (ServingBy tries program) has = has
  full-passes windows (Committed place again shown) has = tt
  full-passes windows (Decided became) has = tt
  full-passes windows (Answered fate bytes) has = tt
  full-passes windows (Left fate) has = tt

  windows-passes : (v : Visit ActionCall) (windows : WindowsValue) → Works v.work → Works (windows_step v windows).0.work
  unfolding windows_step
  windows-passes v windows has = by v.way where
    going : (to : SessionWay) (after : WindowsValue) → Works (goes v to after).0.work
    going to after = outcome-passes (outcome_of (answer_held v.way)) (record v { way = to }) has

    by : (x : SessionWay) → Works (windows_by v x windows).0.work
    by way.Resting = has
    by (way.Reading r) = has
    by (way.Ordered order) = takes (nat_lt (open_count windows.facts) windows.wq) where
      takes : (b : Bool) → Works (if b then (record v { way = way.Resting; work = overloaded (full_facts windows.facts) v.work }, refused windows)
          else goes v (way.Writing (write_begun order windows.wq (passes_for order windows))) (taken windows (passes_for order windows))).0.work
      takes true = full-passes windows v.work has
      takes false = going (way.Writing (write_begun order windows.wq (passes_for order windows))) (taken windows (passes_for order windows))
    by (way.Writing w) = has
    by (way.Settling w) = going way.Resting (after_spend windows (passes_spent w))
    by (way.Holding passes) = going way.Resting (after_spend windows (map hushed passes))

  leaving-passes : (w : Work ActionCall) → Works w → Works (departed w)
  leaving-passes Reading has = tt
  leaving-passes Opening has = tt
  leaving-passes (ServingBy tries program) has = has
  leaving-passes (Committed place again shown) has = tt
  leaving-passes (Decided became) has = tt
  leaving-passes (Answered fate bytes) has = tt
  leaving-passes (Left fate) has = tt

  -- what is left of a request by what its step in the container came to
  pub course-passes : (v : Visit ActionCall) (program : ActionCall) (c : ContainerValue) (course : Course) → CourseServes Serves program course → Works (after_course v program c course).work
  course-passes v program c (Goes tries) has = has
  course-passes v program c (Ends end) has = left (closing_of v.facts v.lease (events_of c) end) where
    shown : (closing : Closing) (place : Place) (again : Bool) (ready : Ready) → Works (shown_so place again ready (record v { holds = closing.holds })).work
    shown closing place again (Respond bytes) = tt
    shown closing place again (WritesThen order what) = tt

    by : (closing : Closing) (closed : Closed) → Works (left_so closed (record v { holds = closing.holds })).work
    by closing (closes.Page place again ready) = shown closing place again ready
    by closing (closes.Other became) = tt

    left : (closing : Closing) → Works (after_closing closing v).work
    left closing = by closing closing.closed

  -- the events of a connection that are of no container

  pub outside-passes : (stage : Stage ActionCall) (link : LaneLink) → Has stage → Has (steps_in (outside lane_replies lane_link_tally) stage link).0
  unfolding outside
  outside-passes Resting link has = tt
  outside-passes (Serving v call) link has = (has.0, has.1)
  outside-passes (Refusing why bytes) link has = tt
  outside-passes (Over end) link has = tt

  pub by-windows-passes : (stage : Stage ActionCall) (windows : WindowsValue) → Has stage → Has (steps_in windows_step stage windows).0
  by-windows-passes Resting windows has = tt
  by-windows-passes (Serving v call) windows has = (has.0, windows-passes v windows has.1)
  by-windows-passes (Refusing why bytes) windows has = tt
  by-windows-passes (Over end) windows has = tt

  pub output-passes : (stage : Stage ActionCall) → Has stage → Has (output_of stage).1
  unfolding output_of
  output-passes Resting has = tt
  output-passes (Serving v call) has = (has.0, leaving-passes v.work has.1)
  output-passes (Refusing why bytes) has = tt
  output-passes (Over end) has = tt

-- nothing was drawn yet
abbrev pub undrawn : Counts
undrawn = record { words = 0; serials = 0 }

-- what is drawn for an order in a world, and what it is served with
abbrev pub drawing : SeatGivens → SeatWorld → Order → Drawing
drawing g w o = draws (service_in g w).numbers (drawn_for o) undrawn

abbrev pub admitted : SeatGivens → SeatWorld → Order → Admission
admitted g w o = admission_of g.key (service_in g w).home o g.now (drawing g w o).drawn

module _ (Asks : AskedCall → Type 0) (Serves : TriesValue → ActionCall → Type 0) (g : SeatGivens) (w : SeatWorld) where
  abbrev Holds : Stage ActionCall → Type 0
  Holds stage = AsksAndServes Asks Serves stage

  -- each request that is ordered asks so
  abbrev pub AdmitsLaw : Type 0
  AdmitsLaw = (head : Head) (o : Order) → decided_by (readings_under g.key) w.boot.start.boot head ≡ decided.Ordered o → Asks (asked_call (admitted g w o))

  pub request-passes : AdmitsLaw → (s : Shepherd ActionCall) (seen : LinkCounts) → Holds s.stage → Holds (take_request (service_in g w) seen g.now s undrawn).0.stage
  unfolding take_request
  request-passes admits s seen has = by (taken_of s.received) where
    asked : (head : Head) (o : Order) → decided_by (readings_under g.key) w.boot.start.boot head ≡ decided.Ordered o → (cookie : Option Cookie)
        → Holds (admitted_visit (facts_of (admitted g w o) g.now s.front head) seen (admitted g w o) cookie)
    asked head o is None = (admits head o is, tt)
    asked head o is (Some cookie) = (admits head o is, tt)

    spent : (head : Head) (o : Order) → decided_by (readings_under g.key) w.boot.start.boot head ≡ decided.Ordered o → (x : Option ℕ)
        → Holds (begun_by s.front seen head g.now (arrival_by g.key (service_in g w).home o g.now (drawing g w o).drawn x))
    spent head o is (Some serial) = (tt, tt)
    spent head o is None = asked head o is o.cookie

    decision : (head : Head) (d : Decision) → decided_by (readings_under g.key) w.boot.start.boot head ≡ d → Holds (begun_by s.front seen head g.now (arrives_by (service_in g w) g.now d undrawn).0)
    decision head (decided.Refused why) is = (tt, tt)
    decision head (decided.Ordered o) is = spent head o is (drawing g w o).spent

    by : (t : Taken) → Holds (takes_by (service_in g w) seen g.now t s undrawn).0.stage
    by (took.Request head) = decision head ((service_in g w).decides head) refl
    by took.Bad = tt
    by (took.TooLong len lines) = tt
    by took.NoCoding = tt
    by (took.BodyTooLong said) = tt
    by took.More = has
