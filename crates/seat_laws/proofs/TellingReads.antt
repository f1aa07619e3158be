-- The item of a request tells what its connection had heard of the session.
use Rattle.std.specs.Prelude.{All, option_map}
use Rattle.std.proofs.Common.{[], ◌≡◌, ◌∙◌, Bool, true, false, nat_lt, if◌then◌else◌, ℕ, List, Option, Some, None, refl, ap}
use Rattle.std.proofs.lemmas.List.Elements.{All-append, All-cons, All-nil}
use Rattle.auction_calls.specs.declared.action.ActionCall.{ActionCall}
use Rattle.auction_site.specs.Actions.{steps_of}
use Rattle.boot_core.specs.Boot.{BootValue}
use Rattle.container_core.specs.Container.{ContainerValue, events_of}
use Rattle.container_core.specs.declared.history.Event.{Event}
use Rattle.crash_base.specs.declared.numbers.Place.{Place}
use Rattle.http_wire.specs.Taking.{taken_of}
use Rattle.http_wire.specs.declared.taken.Head.{Head}
use Rattle.http_wire.specs.declared.taken.Taken.{Taken}
use Rattle.http_wire.specs.declared.taken.Taken.TheVariants as took
use Rattle.lane_link.specs.Links.{lane_link_tally}
use Rattle.lane_link.specs.declared.link.LaneLink.{LaneLink}
use Rattle.outcome_items.specs.declared.item.Item.{Item}
use Rattle.outside.specs.declared.link.LinkCounts.{LinkCounts}
use Rattle.request_intake.specs.declared.intake.Admission.{Admission}
use Rattle.request_intake.specs.declared.intake.Arrival.{Arrival}
use Rattle.request_intake.specs.declared.intake.Arrival.TheVariants as arrives
use Rattle.request_tries.specs.Ends.{done_of}
use Rattle.request_tries.specs.declared.outcome.RequestOutcome.{RequestOutcome}
use Rattle.request_tries.specs.declared.outcome.RequestOutcome.TheVariants.{Page, Sentinel, Hung, Raised, Revoked, Conflict, JournalFull, KeeperFailed}
use Rattle.request_visit.specs.Advancing.{after_leaving, departed, item_of, outcome_in, value_of}
use Rattle.request_visit.specs.Ready.{ready_of}
use Rattle.request_visit.specs.Serving.{closed_with, holds_of}
use Rattle.request_visit.specs.Stepping.{counted, left_so, shown_so}
use Rattle.request_visit.specs.Visits.{after_outcome, fate_missed, fate_written, overloaded, turn as visit_turn, with_fate}
use Rattle.request_visit.specs.declared.ready.Ready.{Ready}
use Rattle.request_visit.specs.declared.ready.Ready.TheVariants.{Respond, Write as WritesThen}
use Rattle.request_visit.specs.declared.visit.Fate.{Fate}
use Rattle.request_visit.specs.declared.visit.Fate.TheVariants.{Known, Writing}
use Rattle.request_visit.specs.declared.visit.Turn.{Turn}
use Rattle.request_visit.specs.declared.visit.Turn.TheVariants as visit
use Rattle.request_visit.specs.declared.visit.Visit.{Visit}
use Rattle.request_visit.specs.declared.visit.Work.{Work}
use Rattle.request_visit.specs.declared.visit.Work.TheVariants.{Reading, Opening, Serving as ServingBy, Committed, Decided, Answered, Left}
use Rattle.send_windows.specs.Facts.{full_facts, open_count}
use Rattle.send_windows.specs.Windows.{WindowsValue, refused, taken}
use Rattle.session_cookie.specs.declared.cookie.Cookie.{Cookie}
use Rattle.session_way.specs.Way.{answer_held, passes_for}
use Rattle.session_way.specs.Writing.{write_begun}
use Rattle.session_way.specs.declared.session_read.ReadOutcome.{ReadOutcome}
use Rattle.session_way.specs.declared.session_read.ReadOutcome.TheVariants as read
use Rattle.session_way.specs.declared.session_write.WriteOutcome.{WriteOutcome}
use Rattle.session_way.specs.declared.session_write.WriteOutcome.TheVariants as outcome
use Rattle.session_way.specs.declared.way.SessionWay.{SessionWay}
use Rattle.session_way.specs.declared.way.SessionWay.TheVariants as way
use Rattle.shepherd.specs.Shepherds.{turn, turn_by}
use Rattle.shepherd.specs.Steps.{admitted_visit, begun_by, facts_of, rested}
use Rattle.shepherd.specs.declared.shepherd.AskedCall.{AskedCall}
use Rattle.shepherd.specs.declared.shepherd.Shepherd.{Shepherd}
use Rattle.shepherd.specs.declared.shepherd.ShepherdTurn.{ShepherdTurn}
use Rattle.shepherd.specs.declared.shepherd.ShepherdTurn.TheVariants as turns
use Rattle.shepherd.specs.declared.shepherd.Stage.{Stage}
use Rattle.shepherd.specs.declared.shepherd.Stage.TheVariants.{Resting, Serving, Refusing, Over}
use Rattle.shepherd_steps.specs.Alone.{Making, alone, alone_at, gone_alone, own_stage}
use Rattle.shepherd_steps.specs.Inside.{Course, Ends, Goes, Stride, after_course, inside, inside_of, stride, untold}
use Rattle.shepherd_steps.specs.Leaving.{item_by, item_taken, items_in, output_of}
use Rattle.shepherd_steps.specs.Opening.{open_stage}
use Rattle.shepherd_steps.specs.Outside.{outside}
use Rattle.shepherd_steps.specs.Own.{heard_read, outcome_of_read, own, own_by, told_read}
use Rattle.shepherd_steps.specs.Passes.{goes, outcome_of, windows_by, windows_step}
use Rattle.shepherd_steps.specs.Stepping.{World, event_at, step}
use Rattle.shepherd_steps.specs.Taking.{arrives_by, take_request, takes_by}
use Rattle.seat_steps.specs.Replies.{lane_replies}
use Rattle.seat_steps.specs.Seats.{SeatGivens, SeatWorld, givens_in, making_by, seat_step, seen_by, service_in}
use Rattle.seat_steps.specs.declared.seat.Seat.{Seat}
use Rattle.seat_laws.proofs.Holding.{missed-same, written-same}
use Rattle.seat_laws.proofs.Passing.{undrawn}
use Rattle.seat_laws.specs.Reads.{TellsWhatWasHeard, read_behind, read_fated, read_told}

-- what is so of the item of a response that has left is so of each item that a connection gives by itself

module _ (P : Item → Type 0) where
  abbrev pub BearsBy : Visit ActionCall → Work ActionCall → Type 0
  BearsBy v Reading = Unit {0}
  BearsBy v Opening = Unit {0}
  BearsBy v (ServingBy tries program) = Unit {0}
  BearsBy v (Committed place again shown) = Unit {0}
  BearsBy v (Decided became) = Unit {0}
  BearsBy v (Answered fate bytes) = Unit {0}
  BearsBy v (Left fate) = P (item_of v fate)

  abbrev pub Bears : Stage ActionCall → Type 0
  Bears Resting = Unit {0}
  Bears (Serving v call) = BearsBy v v.work
  Bears (Refusing why bytes) = Unit {0}
  Bears (Over end) = Unit {0}

  pub own-bears : (key : List ℕ) (stage : Stage ActionCall) → Bears stage → Bears (own_stage key stage)
  unfolding own
  own-bears key Resting bears = tt
  own-bears key (Serving v call) bears = by v.work bears where
    told : (o : Option ReadOutcome) → (let x : Visit ActionCall = told_read o v in BearsBy x x.work)
    told None = bears
    told (Some (read.Found lease)) = tt
    told (Some (read.Expired now expiry)) = tt
    told (Some (read.Lost causes)) = tt

    heard : (to : SessionWay) → (let x : Visit ActionCall = heard_read to v in BearsBy x x.work)
    heard way.Resting = tt
    heard (way.Reading r) = told (outcome_of_read r)
    heard (way.Ordered order) = tt
    heard (way.Writing w) = tt
    heard (way.Settling w) = tt
    heard (way.Holding passes) = tt

    by : (w : Work ActionCall) → BearsBy v w → (let x : Visit ActionCall = own_by key v w in BearsBy x x.work)
    by Reading b = heard v.way
    by Opening b = bears
    by (ServingBy tries program) b = bears
    by (Committed place again shown) b = tt
    by (Decided became) b = tt
    by (Answered fate bytes) b = bears
    by (Left fate) b = bears
  own-bears key (Refusing why bytes) bears = tt
  own-bears key (Over end) bears = tt

  pub open-bears : (m : Making ActionCall) (stage : Stage ActionCall) → Bears stage → Bears (open_stage m.made m.worker stage)
  unfolding open_stage
  open-bears m Resting bears = tt
  open-bears m (Serving v None) bears = bears
  open-bears m (Serving v (Some asked)) bears = tt
  open-bears m (Refusing why bytes) bears = tt
  open-bears m (Over end) bears = tt

  abbrev Through : Shepherd ActionCall × List Item → Type 0
  Through x = Bears x.0.stage × All P x.1

  rested-bears : (close : Bool) → Bears (rested close)
  rested-bears true = tt
  rested-bears false = tt

  pub items-bear : (v : Visit ActionCall) (w : Work ActionCall) → BearsBy v w → All P (items_in v w)
  items-bear v Reading b = All-nil P
  items-bear v Opening b = All-nil P
  items-bear v (ServingBy tries program) b = All-nil P
  items-bear v (Committed place again shown) b = All-nil P
  items-bear v (Decided became) b = All-nil P
  items-bear v (Answered fate bytes) b = All-nil P
  items-bear v (Left fate) b = All-cons P (item_of v fate) [] b (All-nil P)

  item-bears : (s : Shepherd ActionCall) → Bears s.stage → Through (item_taken s)
  unfolding item_taken
  item-bears s bears = by s.stage bears where
    by : (stage : Stage ActionCall) → Bears stage → Through (item_by s stage)
    by Resting b = (bears, All-nil P)
    by (Serving v call) b = (rested-bears v.facts.close, items-bear v v.work b)
    by (Refusing why bytes) b = (bears, All-nil P)
    by (Over end) b = (bears, All-nil P)

  once-bears : (m : Making ActionCall) (s : Shepherd ActionCall) → Bears s.stage → Through (alone m s)
  unfolding alone
  once-bears m s bears = by (turn s) where
    by : (t : ShepherdTurn) → Through (alone_at m t s)
    by turns.Bytes = (bears, All-nil P)
    by turns.Request = (bears, All-nil P)
    by turns.Outside = (bears, All-nil P)
    by turns.Windows = (bears, All-nil P)
    by turns.Inside = (bears, All-nil P)
    by turns.Program = (open-bears m s.stage bears, All-nil P)
    by turns.Own = (own-bears m.key s.stage bears, All-nil P)
    by turns.Output = (bears, All-nil P)
    by turns.Item = item-bears s bears
    by (turns.Ended end) = (bears, All-nil P)

  gone-bears : (m : Making ActionCall) (s : Shepherd ActionCall) → Bears s.stage → All P (gone_alone m s).1
  unfolding gone_alone
  gone-bears m s bears =
      let first = alone m s in
      let once : Through first = once-bears m s bears in
      let twice : Through (alone m first.0) = once-bears m first.0 once.0 in All-append P first.1 (alone m first.0).1 once.1 twice.1

  -- behind a step in the container no response has left, unless it had before
  module _ (v : Visit ActionCall) where
    abbrev B : Visit ActionCall → Type 0
    B x = BearsBy x x.work

    course-bears : (program : ActionCall) (c : ContainerValue) (course : Course) → B (after_course v program c course)
    course-bears program c (Goes tries) = tt
    course-bears program c (Ends end) = left end.outcome where
      shown : (place : Place) (again : Bool) (ready : Ready) → B (shown_so place again ready (record v { holds = holds_of end }))
      shown place again (Respond bytes) = tt
      shown place again (WritesThen order what) = tt

      follows : Bool → Ready
      follows again = ready_of v.facts v.lease (done_of (events_of c) end)

      left : (x : RequestOutcome) → B (left_so (closed_with follows x) (record v { holds = holds_of end }))
      left (Page place again) = shown place again (follows again)
      left (Sentinel group down) = tt
      left (Hung component fault path) = tt
      left (Raised component fault path) = tt
      left (Revoked tries) = tt
      left (Conflict tries) = tt
      left (JournalFull full) = tt
      left KeeperFailed = tt

    pub inside-bears : B v → (keeps : Bool) (boot : BootValue) (since : List Event) → B (inside steps_of keeps v boot since).visit
    unfolding inside
    inside-bears bears keeps boot since = by v.work where
      strides : (program : ActionCall) (x : Stride) → B (after_course v program x.container x.course)
      strides program x = course-bears program x.container x.course

      by : (w : Work ActionCall) → B (inside_of steps_of keeps v w (untold boot since)).visit
      by Reading = bears
      by Opening = bears
      by (ServingBy tries program) = strides program (stride (steps_of program) keeps (untold boot since) tries tries.attempt)
      by (Committed place again shown) = bears
      by (Decided became) = bears
      by (Answered fate bytes) = bears
      by (Left fate) = bears

-- what an item tells once the response has left, behind each event of an open request

module _ (v : Visit ActionCall) (call : Option AskedCall) where
  abbrev here : Stage ActionCall
  here = Serving v call

  abbrev Tells : Item → Type 0
  Tells = TellsWhatWasHeard here

  -- a request that bears the same session, of whatever became of it that tells the same
  abbrev H : Visit ActionCall → Type 0
  H x = BearsBy Tells x x.work

  abbrev Same : Option ReadOutcome → Type 0
  Same o = o ≡ read_behind v.work v.lease

  fated : (fate : Fate) → read_told (outcome_in fate) v.lease ≡ read_fated fate v.lease
  fated (Known became) = refl
  fated (Writing place again) = refl

  tells : (x : Visit ActionCall) (fate : Fate) → x.lease ≡ v.lease → Same (read_fated fate v.lease) → Tells (item_of x fate)
  tells x fate same is = record { visit = v; call = call; serves = refl; value_is = ap (option_map value_of) same; outcome_is = fated fate ∙ is }

  plain : (x : Visit ActionCall) → x.lease ≡ v.lease → (w : Work ActionCall) → Same (read_behind w v.lease) → BearsBy Tells x w
  plain x same Reading is = tt
  plain x same Opening is = tt
  plain x same (ServingBy tries program) is = tt
  plain x same (Committed place again shown) is = tt
  plain x same (Decided became) is = tt
  plain x same (Answered fate bytes) is = tt
  plain x same (Left fate) is = tells x fate same is

  as-it-is : H v
  as-it-is = plain v refl v.work refl

  outside-tells : (link : LaneLink) → H (outside lane_replies lane_link_tally v link).0
  unfolding outside
  outside-tells link = plain (outside lane_replies lane_link_tally v link).0 refl v.work refl

  changed : (x : Visit ActionCall) → x.lease ≡ v.lease → (change : Fate → Fate) → ((f : Fate) → read_fated (change f) v.lease ≡ read_fated f v.lease) → (w : Work ActionCall) → Same (read_behind w v.lease) → BearsBy Tells x (with_fate change w)
  changed x same change keeps Reading is = tt
  changed x same change keeps Opening is = tt
  changed x same change keeps (ServingBy tries program) is = tt
  changed x same change keeps (Committed place again shown) is = tt
  changed x same change keeps (Decided became) is = tt
  changed x same change keeps (Answered fate bytes) is = tt
  changed x same change keeps (Left fate) is = tells x (change fate) same (keeps fate ∙ is)

  windows-tells : (windows : WindowsValue) → H (windows_step v windows).0
  unfolding windows_step
  windows-tells windows = by v.way where
    told : (x : Option WriteOutcome) (to : SessionWay) → H (after_outcome x (record v { way = to }))
    told None to = plain (record v { way = to }) refl v.work refl
    told (Some (outcome.Written cookie)) to = changed (record v { way = to; cookie = Some cookie; work = with_fate fate_written v.work }) refl fate_written (written-same v.lease) v.work refl
    told (Some (outcome.Missed causes)) to = changed (record v { way = to; work = with_fate (fate_missed causes) v.work }) refl (fate_missed causes) (missed-same v.lease causes) v.work refl

    full : (x : Visit ActionCall) → x.lease ≡ v.lease → (w : Work ActionCall) → Same (read_behind w v.lease) → BearsBy Tells x (overloaded (full_facts windows.facts) w)
    full x same Reading is = tt
    full x same Opening is = tt
    full x same (ServingBy tries program) is = tt
    full x same (Committed place again shown) is = tt
    full x same (Decided became) is = tt
    full x same (Answered fate bytes) is = tt
    full x same (Left fate) is = tells x fate same is

    by : (x : SessionWay) → H (windows_by v x windows).0
    by way.Resting = as-it-is
    by (way.Reading r) = as-it-is
    by (way.Ordered order) = takes (nat_lt (open_count windows.facts) windows.wq) where
      takes : (b : Bool) → H (if b then (record v { way = way.Resting; work = overloaded (full_facts windows.facts) v.work }, refused windows)
          else goes v (way.Writing (write_begun order windows.wq (passes_for order windows))) (taken windows (passes_for order windows))).0
      takes true = full (record v { way = way.Resting; work = overloaded (full_facts windows.facts) v.work }) refl v.work refl
      takes false = told (outcome_of (answer_held v.way)) (way.Writing (write_begun order windows.wq (passes_for order windows)))
    by (way.Writing w) = as-it-is
    by (way.Settling w) = told (outcome_of (answer_held v.way)) way.Resting
    by (way.Holding passes) = told (outcome_of (answer_held v.way)) way.Resting

  leaving-tells : H (after_leaving v)
  leaving-tells = by v.work refl where
    by : (w : Work ActionCall) → Same (read_behind w v.lease) → BearsBy Tells (after_leaving v) (departed w)
    by Reading is = tt
    by Opening is = tt
    by (ServingBy tries program) is = tt
    by (Committed place again shown) is = tt
    by (Decided became) is = tt
    by (Answered fate bytes) is = tells (after_leaving v) fate refl is
    by (Left fate) is = tells (after_leaving v) fate refl is

module _ (g : SeatGivens) (seat : Seat) (w : SeatWorld) where
  -- the connection at a stage, with memory or not
  abbrev pub k : Stage ActionCall → Bool → Shepherd ActionCall
  k stage wants = record (seat.connection) { stage = stage; wants_memory = wants }

  abbrev pub E : Stage ActionCall → Bool → ShepherdTurn → World ActionCall LaneLink
  E stage wants t = (event_at (givens_in g w) t (seen_by (record { connection = k stage wants; twin = seat.twin }) w)).0

  -- the response to a request that is taken has not left
  taken-tells : (P : Item → Type 0) (counts : LinkCounts) → Bears P (take_request (service_in g w) counts g.now (k Resting false) undrawn).0.stage
  unfolding take_request
  taken-tells P counts = by (taken_of seat.connection.received) where
    admits : (head : Head) (a : Admission) (c : Option Cookie) → Bears P (admitted_visit (facts_of a g.now seat.connection.front head) counts a c)
    admits head a None = tt
    admits head a (Some cookie) = tt

    arrived : (head : Head) (a : Arrival) → Bears P (begun_by seat.connection.front counts head g.now a)
    arrived head (arrives.Refused why) = tt
    arrived head (arrives.SerialsSpent request seen) = tt
    arrived head (arrives.Admitted a) = admits head a a.cookie

    by : (t : Taken) → Bears P (takes_by (service_in g w) counts g.now t (k Resting false) undrawn).0.stage
    by (took.Request head) = arrived head (arrives_by (service_in g w) g.now ((service_in g w).decides head) undrawn).0
    by took.Bad = tt
    by (took.TooLong len lines) = tt
    by took.NoCoding = tt
    by (took.BodyTooLong said) = tt
    by took.More = tt

  pub resting-tells : (P : Item → Type 0) (t : ShepherdTurn) → Bears P (E Resting false t).connection.stage
  unfolding output_of
  resting-tells P turns.Bytes = tt
  resting-tells P turns.Request = taken-tells P (counted (lane_link_tally (record { lanes = w.store; active = seat.twin })))
  resting-tells P turns.Outside = tt
  resting-tells P turns.Windows = tt
  resting-tells P turns.Inside = tt
  resting-tells P turns.Program = tt
  resting-tells P turns.Own = tt
  resting-tells P turns.Output = tt
  resting-tells P turns.Item = tt
  resting-tells P (turns.Ended end) = tt

  serving-tells : (v : Visit ActionCall) (call : Option AskedCall) (t : Turn) → (let stage : Stage ActionCall = Serving v call in Bears (TellsWhatWasHeard stage) (E stage false (turn_by t)).connection.stage)
  unfolding output_of
  serving-tells v call visit.Outside = outside-tells v call (record { lanes = w.store; active = seat.twin })
  serving-tells v call visit.Windows = windows-tells v call w.store.windows
  serving-tells v call visit.Inside = inside-bears (TellsWhatWasHeard (here v call)) v (as-it-is v call) g.keeps w.boot w.since
  serving-tells v call visit.Program = as-it-is v call
  serving-tells v call visit.Own = as-it-is v call
  serving-tells v call visit.Output = leaving-tells v call
  serving-tells v call visit.Over = as-it-is v call

  stage-tells : (stage : Stage ActionCall) (wants : Bool) → Bears (TellsWhatWasHeard stage) (E stage wants (turn (k stage wants))).connection.stage
  unfolding output_of
  stage-tells Resting true = tt
  stage-tells (Serving v call) true = as-it-is v call
  stage-tells (Refusing why bytes) true = tt
  stage-tells (Over end) true = tt
  stage-tells Resting false = resting-tells (TellsWhatWasHeard Resting) (turn (k Resting false))
  stage-tells (Serving v call) false = serving-tells v call (visit_turn v)
  stage-tells (Refusing why bytes) false = tt
  stage-tells (Over end) false = tt

-- Each item of a step tells what its connection had heard before it.
pub tells-heard : (g : SeatGivens) (seat : Seat) (w : SeatWorld) → All (TellsWhatWasHeard seat.connection.stage) (seat_step g seat w).items
unfolding seat_step step
tells-heard g seat w =
    gone-bears (TellsWhatWasHeard seat.connection.stage) (making_by g) (event_at (givens_in g w) (turn seat.connection) (seen_by seat w)).0.connection
    (stage-tells g seat w seat.connection.stage seat.connection.wants_memory)
