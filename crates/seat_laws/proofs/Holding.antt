-- What a seat heard of its session stays, until the item of its request is taken.
use Rattle.std.proofs.Common.{[], ◌≡◌, ◌∙◌, Bool, true, false, nat_lt, if◌then◌else◌, List, ◌∷◌, ◌++◌, Option, Some, None, refl}
use Rattle.auction_calls.specs.declared.action.ActionCall.{ActionCall}
use Rattle.auction_site.specs.Actions.{steps_of}
use Rattle.boot_core.specs.Boot.{BootValue}
use Rattle.container_core.specs.Container.{ContainerValue, events_of}
use Rattle.container_core.specs.declared.history.Event.{Event}
use Rattle.crash_base.specs.declared.numbers.Place.{Place}
use Rattle.lane_link.specs.Links.{lane_link_tally}
use Rattle.lane_link.specs.declared.link.LaneLink.{LaneLink}
use Rattle.outcome_items.specs.declared.item.Item.{Item}
use Rattle.request_tries.specs.declared.outcome.RequestOutcome.{RequestOutcome}
use Rattle.request_tries.specs.declared.outcome.RequestOutcome.TheVariants.{Page, Sentinel, Hung, Raised, Revoked, Conflict, JournalFull, KeeperFailed}
use Rattle.request_visit.specs.Advancing.{after_leaving, departed, item_of}
use Rattle.request_visit.specs.Ready.{ready_of}
use Rattle.request_tries.specs.Ends.{done_of}
use Rattle.request_visit.specs.Serving.{closed_with, holds_of}
use Rattle.request_visit.specs.Stepping.{left_so, shown_so}
use Rattle.request_visit.specs.Visits.{after_outcome, fate_missed, fate_written, or_over, or_own, overloaded, turn as visit_turn, with_fate}
use Rattle.request_visit.specs.declared.ready.Ready.{Ready}
use Rattle.request_visit.specs.declared.ready.Ready.TheVariants.{Respond, Write as WritesThen}
use Rattle.request_visit.specs.declared.visit.Fate.{Fate}
use Rattle.request_visit.specs.declared.visit.Fate.TheVariants.{Known, Writing}
use Rattle.request_visit.specs.declared.visit.Turn.{Turn}
use Rattle.request_visit.specs.declared.visit.Turn.TheVariants as visit
use Rattle.request_visit.specs.declared.visit.Visit.{Visit}
use Rattle.request_visit.specs.declared.visit.Work.{Work}
use Rattle.request_visit.specs.declared.visit.Work.TheVariants.{Reading, Opening, Serving as ServingBy, Committed, Decided, Answered, Left}
use Rattle.send_windows.specs.Facts.{full_facts, open_count}
use Rattle.send_windows.specs.Windows.{WindowsValue, refused, taken}
use Rattle.session_way.specs.Way.{answer_held, passes_for, wants}
use Rattle.session_way.specs.Writing.{write_begun}
use Rattle.session_way.specs.declared.lease.SessionLease.{SessionLease}
use Rattle.session_way.specs.declared.session_read.ReadOutcome.{ReadOutcome}
use Rattle.session_way.specs.declared.session_write.WriteOutcome.{WriteOutcome}
use Rattle.session_way.specs.declared.session_write.WriteOutcome.TheVariants as outcome
use Rattle.session_way.specs.declared.way.SessionWay.{SessionWay}
use Rattle.session_way.specs.declared.way.SessionWay.TheVariants as way
use Rattle.session_way.specs.declared.way.Wants.{Wants}
use Rattle.session_way.specs.declared.way.Wants.TheVariants as wanted
use Rattle.shepherd.specs.Shepherds.{turn, turn_by}
use Rattle.shepherd.specs.declared.shepherd.AskedCall.{AskedCall}
use Rattle.shepherd.specs.declared.shepherd.Shepherd.{Shepherd}
use Rattle.shepherd.specs.declared.shepherd.ShepherdTurn.{ShepherdTurn}
use Rattle.shepherd.specs.declared.shepherd.ShepherdTurn.TheVariants as turns
use Rattle.shepherd.specs.declared.shepherd.Stage.{Stage}
use Rattle.shepherd.specs.declared.shepherd.Stage.TheVariants.{Resting, Serving, Refusing, Over}
use Rattle.shepherd_steps.specs.Alone.{Making, alone, alone_at, gone_alone}
use Rattle.shepherd_steps.specs.Inside.{Course, Ends, Goes, Stride, after_course, inside, inside_of, stride, untold}
use Rattle.shepherd_steps.specs.Leaving.{item_taken, output_of}
use Rattle.shepherd_steps.specs.Opening.{open_stage}
use Rattle.shepherd_steps.specs.Outside.{outside}
use Rattle.shepherd_steps.specs.Own.{own}
use Rattle.shepherd_steps.specs.Passes.{goes, outcome_of, windows_by, windows_step}
use Rattle.shepherd_steps.specs.Stepping.{World, event_at, step}
use Rattle.ssm_stub.specs.declared.cause.BrickCause.{BrickCause}
use Rattle.seat_steps.specs.Replies.{lane_replies}
use Rattle.seat_steps.specs.Seats.{SeatGivens, SeatWorld, givens_in, making_by, seat_step, seen_by}
use Rattle.seat_steps.specs.declared.seat.Seat.{Seat}
use Rattle.seat_laws.specs.Reads.{found, read_behind, read_fated, read_heard}

module _ (m : Making ActionCall) (o : ReadOutcome) where
  abbrev Hears : Stage ActionCall → Type 0
  Hears stage = read_heard stage ≡ Some o

  -- by what a connection does by itself, if it gives no item
  abbrev Keeps : Shepherd ActionCall × List Item → Type 0
  Keeps x = x.1 ≡ [] → Hears x.0.stage

  -- the turn of an open request, where the connection has memory
  serving-held : (s : Shepherd ActionCall) (v : Visit ActionCall) (call : Option AskedCall) → read_behind v.work v.lease ≡ Some o
      → (let k : Shepherd ActionCall = record s { stage = Serving v call } in Keeps (alone_at m (turn_by (visit_turn v)) k))
  unfolding own open_stage item_taken
  serving-held s v call hears = by v.work hears where
    at : Work ActionCall → Shepherd ActionCall
    at w = record s { stage = Serving (record v { work = w }) call }

    leaves : (fate : Fate) (x : Wants) → read_fated fate v.lease ≡ Some o → Keeps (alone_at m (turn_by (or_over x)) (at (Left fate)))
    leaves fate wanted.Nothing is none = absurd (let e : item_of v fate ∷ [] ≡ [] = none in cc)
    leaves fate wanted.Outside is none = is
    leaves fate wanted.Windows is none = is

    opens : (x : Option AskedCall) → read_behind Opening v.lease ≡ Some o → (let k : Shepherd ActionCall = record s { stage = Serving (record v { work = Opening }) x } in Keeps (alone_at m turns.Program k))
    opens None is none = is
    opens (Some asked) is none = is

    by : (w : Work ActionCall) → read_behind w v.lease ≡ Some o → Keeps (alone_at m (turn_by (let x : Visit ActionCall = record v { work = w } in visit_turn x)) (at w))
    by Reading is none = absurd (let e : None ≡ Some o = is in cc)
    by Opening is none = opens call is none
    by (ServingBy tries program) is none = is
    by (Committed place again shown) is none = committed (wants v.way) none where
      committed : (x : Wants) → Keeps (alone_at m (turn_by (or_own x)) (at (Committed place again shown)))
      committed wanted.Nothing none = is
      committed wanted.Outside none = is
      committed wanted.Windows none = is
    by (Decided became) is none = is
    by (Answered fate bytes) is none = is
    by (Left fate) is none = leaves fate (wants v.way) is none

  -- at any stage, with memory or not
  pub once-held : (s : Shepherd ActionCall) → Hears s.stage → Keeps (alone m s)
  unfolding alone
  once-held s hears = by s.stage s.wants_memory hears where
    at : Stage ActionCall → Bool → Shepherd ActionCall
    at stage wants = record s { stage = stage; wants_memory = wants }

    by : (stage : Stage ActionCall) (wants : Bool) → Hears stage → Keeps (alone_at m (turn (at stage wants)) (at stage wants))
    by stage true is none = is
    by Resting false is none = absurd (let e : None ≡ Some o = is in cc)
    by (Serving v call) false is none = serving-held (at Resting false) v call is none
    by (Refusing why bytes) false is none = absurd (let e : None ≡ Some o = is in cc)
    by (Over end) false is none = absurd (let e : None ≡ Some o = is in cc)

  first-none : (a b : List Item) → a ++ b ≡ [] → a ≡ []
  first-none [] b is = refl
  first-none (x ∷ a) b is = absurd (let e : x ∷ (a ++ b) ≡ [] = is in cc)

  second-none : (a b : List Item) → a ++ b ≡ [] → b ≡ []
  second-none [] b is = is
  second-none (x ∷ a) b is = absurd (let e : x ∷ (a ++ b) ≡ [] = is in cc)

  pub gone-held : (s : Shepherd ActionCall) → Hears s.stage → Keeps (gone_alone m s)
  unfolding gone_alone
  gone-held s hears none =
      let first = alone m s in
      let second = alone m first.0 in
      once-held first.0 (once-held s hears (first-none first.1 second.1 none)) (second-none first.1 second.1 none)

-- what a write came to changes nothing of what was heard

pub missed-same : (lease : Option SessionLease) (causes : List BrickCause) (f : Fate) → read_fated (fate_missed causes f) lease ≡ read_fated f lease
missed-same lease causes (Known became) = refl
missed-same lease causes (Writing place again) = refl

pub written-same : (lease : Option SessionLease) (f : Fate) → read_fated (fate_written f) lease ≡ read_fated f lease
written-same lease (Known became) = refl
written-same lease (Writing place again) = refl

-- by each event of an open request

module _ (v : Visit ActionCall) (o : ReadOutcome) (hears : read_behind v.work v.lease ≡ Some o) where
  abbrev H : Visit ActionCall → Type 0
  H x = read_behind x.work x.lease ≡ Some o

  outside-held : (link : LaneLink) → H (outside lane_replies lane_link_tally v link).0
  unfolding outside
  outside-held link = hears

  changed : (change : Fate → Fate) → ((f : Fate) → read_fated (change f) v.lease ≡ read_fated f v.lease) → (w : Work ActionCall) → read_behind w v.lease ≡ Some o → read_behind (with_fate change w) v.lease ≡ Some o
  changed change same Reading is = is
  changed change same Opening is = is
  changed change same (ServingBy tries program) is = is
  changed change same (Committed place again shown) is = is
  changed change same (Decided became) is = is
  changed change same (Answered fate bytes) is = same fate ∙ is
  changed change same (Left fate) is = same fate ∙ is

  windows-held : (windows : WindowsValue) → H (windows_step v windows).0
  unfolding windows_step
  windows-held windows = by v.way where
    told : (x : Option WriteOutcome) (to : SessionWay) → H (after_outcome x (record v { way = to }))
    told None to = hears
    told (Some (outcome.Written cookie)) to = changed fate_written (written-same v.lease) v.work hears
    told (Some (outcome.Missed causes)) to = changed (fate_missed causes) (missed-same v.lease causes) v.work hears

    full : (w : Work ActionCall) → read_behind w v.lease ≡ Some o → read_behind (overloaded (full_facts windows.facts) w) v.lease ≡ Some o
    full Reading is = is
    full Opening is = is
    full (ServingBy tries program) is = is
    full (Committed place again shown) is = is
    full (Decided became) is = is
    full (Answered fate bytes) is = is
    full (Left fate) is = is

    by : (x : SessionWay) → H (windows_by v x windows).0
    by way.Resting = hears
    by (way.Reading r) = hears
    by (way.Ordered order) = takes (nat_lt (open_count windows.facts) windows.wq) where
      takes : (b : Bool) → H (if b then (record v { way = way.Resting; work = overloaded (full_facts windows.facts) v.work }, refused windows)
          else goes v (way.Writing (write_begun order windows.wq (passes_for order windows))) (taken windows (passes_for order windows))).0
      takes true = full v.work hears
      takes false = told (outcome_of (answer_held v.way)) (way.Writing (write_begun order windows.wq (passes_for order windows)))
    by (way.Writing w) = hears
    by (way.Settling w) = told (outcome_of (answer_held v.way)) way.Resting
    by (way.Holding passes) = told (outcome_of (answer_held v.way)) way.Resting

  leaving-held : H (after_leaving v)
  leaving-held = by v.work hears where
    by : (w : Work ActionCall) → read_behind w v.lease ≡ Some o → read_behind (departed w) v.lease ≡ Some o
    by Reading is = is
    by Opening is = is
    by (ServingBy tries program) is = is
    by (Committed place again shown) is = is
    by (Decided became) is = is
    by (Answered fate bytes) is = is
    by (Left fate) is = is

  -- a request that was served has found its session, if it heard anything
  course-held : (program : ActionCall) (c : ContainerValue) (course : Course) → found v.lease ≡ Some o → H (after_course v program c course)
  course-held program c (Goes tries) is = is
  course-held program c (Ends end) is = left end.outcome where
    shown : (place : Place) (again : Bool) (ready : Ready) → H (shown_so place again ready (record v { holds = holds_of end }))
    shown place again (Respond bytes) = is
    shown place again (WritesThen order what) = is

    follows : Bool → Ready
    follows again = ready_of v.facts v.lease (done_of (events_of c) end)

    left : (x : RequestOutcome) → H (left_so (closed_with follows x) (record v { holds = holds_of end }))
    left (Page place again) = shown place again (follows again)
    left (Sentinel group down) = is
    left (Hung component fault path) = is
    left (Raised component fault path) = is
    left (Revoked tries) = is
    left (Conflict tries) = is
    left (JournalFull full) = is
    left KeeperFailed = is

  inside-held : (keeps : Bool) (boot : BootValue) (since : List Event) → H (inside steps_of keeps v boot since).visit
  unfolding inside
  inside-held keeps boot since = by v.work hears where
    strides : (program : ActionCall) (x : Stride) → found v.lease ≡ Some o → H (after_course v program x.container x.course)
    strides program x = course-held program x.container x.course

    by : (w : Work ActionCall) → read_behind w v.lease ≡ Some o → H (inside_of steps_of keeps v w (untold boot since)).visit
    by Reading is = hears
    by Opening is = hears
    by (ServingBy tries program) is = strides program (stride (steps_of program) keeps (untold boot since) tries tries.attempt) is
    by (Committed place again shown) is = hears
    by (Decided became) is = hears
    by (Answered fate bytes) is = hears
    by (Left fate) is = hears

module _ (g : SeatGivens) (seat : Seat) (w : SeatWorld) (o : ReadOutcome) where
  -- the connection at a stage, with memory or not
  abbrev k : Stage ActionCall → Bool → Shepherd ActionCall
  k stage wants = record (seat.connection) { stage = stage; wants_memory = wants }

  abbrev E : Stage ActionCall → Bool → ShepherdTurn → World ActionCall LaneLink
  E stage wants t = (event_at (givens_in g w) t (seen_by (record { connection = k stage wants; twin = seat.twin }) w)).0

  serving-heard : (v : Visit ActionCall) (call : Option AskedCall) → read_behind v.work v.lease ≡ Some o → (t : Turn) → (let stage : Stage ActionCall = Serving v call in read_heard (E stage false (turn_by t)).connection.stage ≡ Some o)
  unfolding output_of
  serving-heard v call hears visit.Outside = outside-held v o hears (record { lanes = w.store; active = seat.twin })
  serving-heard v call hears visit.Windows = windows-held v o hears w.store.windows
  serving-heard v call hears visit.Inside = inside-held v o hears g.keeps w.boot w.since
  serving-heard v call hears visit.Program = hears
  serving-heard v call hears visit.Own = hears
  serving-heard v call hears visit.Output = leaving-held v o hears
  serving-heard v call hears visit.Over = hears

  stage-heard : (stage : Stage ActionCall) (wants : Bool) → read_heard stage ≡ Some o → read_heard (E stage wants (turn (k stage wants))).connection.stage ≡ Some o
  stage-heard stage true is = is
  stage-heard Resting false is = absurd (let e : None ≡ Some o = is in cc)
  stage-heard (Serving v call) false is = serving-heard v call is (visit_turn v)
  stage-heard (Refusing why bytes) false is = absurd (let e : None ≡ Some o = is in cc)
  stage-heard (Over end) false is = absurd (let e : None ≡ Some o = is in cc)

-- What a seat heard stays behind its step, if no item is taken in it.
pub stays-heard : (g : SeatGivens) (seat : Seat) (w : SeatWorld) (o : ReadOutcome) → read_heard seat.connection.stage ≡ Some o → (seat_step g seat w).items ≡ [] → read_heard (seat_step g seat w).seat.connection.stage ≡ Some o
unfolding seat_step step
stays-heard g seat w o hears none =
    gone-held (making_by g) o (event_at (givens_in g w) (turn seat.connection) (seen_by seat w)).0.connection (stage-heard g seat w o seat.connection.stage seat.connection.wants_memory hears) none
