-- What a seat has reported of its requests, behind its event, behind what it does by itself, and where it is given up.
use Rattle.std.proofs.Common.{[], ◌≡◌, ◌≢◌, ◌∙◌, Bool, true, false, nat_lt, if◌then◌else◌, List, ◌∷◌, ◌++◌, append-nil, append_assoc, length, Option, Some, None, refl, sym, ap}
use Rattle.std.specs.Prelude.{◌==◌}
use Rattle.std.specs.Option.{option_to_list}
use Rattle.std.proofs.lemmas.List.Concat.{flat_map-append}
use Rattle.auction_calls.specs.declared.action.ActionCall.{ActionCall}
use Rattle.auction_site.specs.Actions.{steps_of}
use Rattle.container_core.specs.Container.{ContainerValue, events_of}
use Rattle.container_core.specs.declared.history.Event.{Event}
use Rattle.boot_core.specs.Boot.{BootValue}
use Rattle.crash_base.specs.declared.numbers.Moment.{Moment}
use Rattle.crash_base.specs.declared.numbers.Place.{Place}
use Rattle.failure_scores.specs.declared.report.FailureReport.{FailureReport}
use Rattle.http_wire.specs.Taking.{settles, taken_of}
use Rattle.http_wire.specs.declared.taken.Head.{Head}
use Rattle.http_wire.specs.declared.taken.Taken.{Taken}
use Rattle.http_wire.specs.declared.taken.Taken.TheVariants as took
use Rattle.lane_link.specs.Links.{lane_link_tally}
use Rattle.lane_link.specs.declared.link.LaneLink.{LaneLink}
use Rattle.outcome_items.specs.Reports.{report_of}
use Rattle.outcome_items.specs.declared.item.Item.{Item}
use Rattle.outside.specs.declared.link.LinkCounts.{LinkCounts}
use Rattle.request_intake.specs.declared.intake.Admission.{Admission}
use Rattle.request_intake.specs.declared.intake.Arrival.{Arrival}
use Rattle.request_intake.specs.declared.intake.Arrival.TheVariants.{Refused, SerialsSpent, Admitted}
use Rattle.request_tries.specs.Ends.{done_of}
use Rattle.request_tries.specs.declared.outcome.RequestOutcome.{RequestOutcome}
use Rattle.request_tries.specs.declared.outcome.RequestOutcome.TheVariants.{Page, Sentinel, Hung, Raised, Revoked, Conflict, JournalFull, KeeperFailed}
use Rattle.request_visit.specs.Advancing.{IsItemOf, departed, item_of, outcome_in}
use Rattle.request_visit.specs.Ready.{ready_of}
use Rattle.request_visit.specs.Serving.{closed_with, holds_of}
use Rattle.request_visit.specs.Stepping.{dropped, left_so, shown_so}
use Rattle.request_visit.specs.Visits.{after_outcome, fate_missed, fate_written, or_over, or_own, overloaded, turn as visit_turn, turn_by as visit_turn_by, with_fate}
use Rattle.request_visit.specs.declared.facts.VisitFacts.{VisitFacts}
use Rattle.request_visit.specs.declared.ready.Ready.{Ready}
use Rattle.request_visit.specs.declared.ready.Ready.TheVariants.{Respond, Write as WritesThen}
use Rattle.request_visit.specs.declared.visit.Fate.{Fate}
use Rattle.request_visit.specs.declared.visit.Fate.TheVariants.{Known, Writing}
use Rattle.request_visit.specs.declared.visit.Turn.{Turn}
use Rattle.request_visit.specs.declared.visit.Turn.TheVariants as visit
use Rattle.request_visit.specs.declared.visit.Visit.{Visit}
use Rattle.request_visit.specs.declared.visit.Work.{Work}
use Rattle.request_visit.specs.declared.visit.Work.TheVariants.{Reading, Opening, Serving as ServingBy, Committed, Decided, Answered, Left}
use Rattle.send_windows.specs.Facts.{full_facts, open_count}
use Rattle.send_windows.specs.Windows.{WindowsValue, refused, taken}
use Rattle.session_cookie.specs.declared.cookie.Cookie.{Cookie}
use Rattle.session_way.specs.Way.{answer_held, passes_for, wants}
use Rattle.session_way.specs.Writing.{write_begun}
use Rattle.session_way.specs.declared.session_read.ReadOutcome.{ReadOutcome}
use Rattle.session_way.specs.declared.session_read.ReadOutcome.TheVariants as read
use Rattle.session_way.specs.declared.session_write.WriteOutcome.{WriteOutcome}
use Rattle.session_way.specs.declared.session_write.WriteOutcome.TheVariants as outcome
use Rattle.session_way.specs.declared.way.SessionWay.{SessionWay}
use Rattle.session_way.specs.declared.way.SessionWay.TheVariants as way
use Rattle.session_way.specs.declared.way.Wants.{Wants}
use Rattle.session_way.specs.declared.way.Wants.TheVariants as wanted
use Rattle.shepherd.specs.Reports.{report_in}
use Rattle.shepherd.specs.Shepherds.{turn, turn_by}
use Rattle.shepherd.specs.Steps.{GivesBack, TakesItem, admitted_visit, begun_by, dropped_stage, rested}
use Rattle.shepherd.specs.declared.shepherd.AskedCall.{AskedCall}
use Rattle.shepherd.specs.declared.shepherd.EndKind.{EndKind}
use Rattle.shepherd.specs.declared.shepherd.EndKind.TheVariants as ends
use Rattle.shepherd.specs.declared.shepherd.Shepherd.{Shepherd}
use Rattle.shepherd.specs.declared.shepherd.ShepherdTurn.{ShepherdTurn}
use Rattle.shepherd.specs.declared.shepherd.ShepherdTurn.TheVariants as turns
use Rattle.shepherd.specs.declared.shepherd.Stage.{Stage}
use Rattle.shepherd.specs.declared.shepherd.Stage.TheVariants.{Resting, Serving, Refusing, Over}
use Rattle.shepherd_steps.specs.Alone.{Making, alone, alone_at, gone_alone}
use Rattle.shepherd_steps.specs.Events.{event_of}
use Rattle.shepherd_steps.specs.Inside.{Course, Ends, Goes, Stride, after_course, inside, inside_of, stride, untold}
use Rattle.shepherd_steps.specs.Leaving.{item_taken, output_of}
use Rattle.shepherd_steps.specs.Opening.{open_stage}
use Rattle.shepherd_steps.specs.Outside.{outside}
use Rattle.shepherd_steps.specs.Own.{heard_read, outcome_of_read, own, told_read}
use Rattle.shepherd_steps.specs.Passes.{goes, outcome_of, windows_by, windows_step}
use Rattle.shepherd_steps.specs.Stepping.{event_at, step}
use Rattle.shepherd_steps.specs.Taking.{Counts, Service, take_request, takes_by}
use Rattle.ssm_stub.specs.declared.cause.BrickCause.{BrickCause}
use Rattle.seat_steps.specs.Gone.{item_by_work, item_left, visit_gone}
use Rattle.seat_steps.specs.Replies.{lane_replies}
use Rattle.seat_steps.specs.Seats.{SeatGivens, SeatWorld, givens_in, making_by, report_at, seat_step, seen_by}
use Rattle.seat_steps.specs.declared.seat.Seat.{Seat}
use Rattle.seat_laws.specs.Reporting.{HasReported, item_reports, items_reports, open_reports, work_reports}

-- what has been reported of a request
abbrev visit_reports : Visit ActionCall → List FailureReport
visit_reports v = work_reports v.facts.now v.work

rested-none : (close : Bool) → open_reports (rested close) ≡ []
rested-none true = refl
rested-none false = refl

-- by what a connection does by itself

module _ (m : Making ActionCall) where
  -- what has been reported is what the items tell that it gives, and then of what is still open
  abbrev Gives : Shepherd ActionCall → Shepherd ActionCall × List Item → Type 0
  Gives s x = open_reports s.stage ≡ items_reports x.1 ++ open_reports x.0.stage

  -- a request that heard its read, or has none
  heard-none : (v : Visit ActionCall) (to : SessionWay) → (let x : Visit ActionCall = record v { work = Reading } in [] ≡ visit_reports (heard_read to x))
  heard-none v way.Resting = refl
  heard-none v (way.Reading r) = told (outcome_of_read r) where
    told : (o : Option ReadOutcome) → (let x : Visit ActionCall = record v { work = Reading } in [] ≡ visit_reports (told_read o x))
    told None = refl
    told (Some (read.Found lease)) = refl
    told (Some (read.Expired now expiry)) = refl
    told (Some (read.Lost causes)) = refl
  heard-none v (way.Ordered order) = refl
  heard-none v (way.Writing w) = refl
  heard-none v (way.Settling w) = refl
  heard-none v (way.Holding passes) = refl

  -- one report or none, and nothing behind it
  just-these : (reports rest : List FailureReport) → rest ≡ [] → reports ≡ (reports ++ []) ++ rest
  just-these reports rest none = sym (ap (λ (x : List FailureReport). (reports ++ []) ++ x) none ∙ (append-nil (reports ++ []) ∙ append-nil reports))

  -- the turn of an open request, where the connection has memory
  serving-gives : (s : Shepherd ActionCall) (v : Visit ActionCall) (call : Option AskedCall) → (let k : Shepherd ActionCall = record s { stage = Serving v call } in Gives k (alone_at m (turn_by (visit_turn v)) k))
  unfolding own open_stage item_taken
  serving-gives s v call = by v.work where
    at : Work ActionCall → Shepherd ActionCall
    at w = record s { stage = Serving (record v { work = w }) call }

    reads : (x : Wants) → Gives (at Reading) (alone_at m (turn_by (or_own x)) (at Reading))
    reads wanted.Nothing = heard-none v v.way
    reads wanted.Outside = refl
    reads wanted.Windows = refl

    opens : (x : Option AskedCall) → (let k : Shepherd ActionCall = record s { stage = Serving (record v { work = Opening }) x } in Gives k (alone_at m turns.Program k))
    opens None = refl
    opens (Some asked) = refl

    leaves : (fate : Fate) (x : Wants) → Gives (at (Left fate)) (alone_at m (turn_by (or_over x)) (at (Left fate)))
    leaves fate wanted.Nothing = just-these (item_reports (item_of v fate)) (open_reports (rested v.facts.close)) (rested-none v.facts.close)
    leaves fate wanted.Outside = refl
    leaves fate wanted.Windows = refl

    by : (w : Work ActionCall) → Gives (at w) (alone_at m (turn_by (let x : Visit ActionCall = record v { work = w } in visit_turn x)) (at w))
    by Reading = reads (wants v.way)
    by Opening = opens call
    by (ServingBy tries program) = refl
    by (Committed place again shown) = committed (wants v.way) where
      committed : (x : Wants) → Gives (at (Committed place again shown)) (alone_at m (turn_by (or_own x)) (at (Committed place again shown)))
      committed wanted.Nothing = refl
      committed wanted.Outside = refl
      committed wanted.Windows = refl
    by (Decided became) = refl
    by (Answered fate bytes) = refl
    by (Left fate) = leaves fate (wants v.way)

  -- at any stage, with memory or not
  once-gives : (s : Shepherd ActionCall) → Gives s (alone m s)
  unfolding alone
  once-gives s = by s.stage s.wants_memory where
    at : Stage ActionCall → Bool → Shepherd ActionCall
    at stage wants = record s { stage = stage; wants_memory = wants }

    rests : (a b c : Bool) → Gives (at Resting false) (alone_at m (if a then turns.Request else (if b then (if c then turns.Ended ends.Closed else turns.Ended ends.Cut) else turns.Bytes)) (at Resting false))
    rests true b c = refl
    rests false true true = refl
    rests false true false = refl
    rests false false c = refl

    by : (stage : Stage ActionCall) (wants : Bool) → Gives (at stage wants) (alone_at m (turn (at stage wants)) (at stage wants))
    by stage true = refl
    by Resting false = rests (settles (taken_of s.received)) s.ended (length s.received == 0)
    by (Serving v call) false = serving-gives (at Resting false) v call
    by (Refusing why bytes) false = refl
    by (Over end) false = refl

  pub gone-gives : (s : Shepherd ActionCall) → Gives s (gone_alone m s)
  unfolding gone_alone
  gone-gives s =
      let first = alone m s in
      let second = alone m first.0 in
      once-gives s
      ∙ (ap (λ (x : List FailureReport). items_reports first.1 ++ x) (once-gives first.0)
      ∙ (sym (append_assoc (items_reports first.1) (items_reports second.1) (open_reports second.0.stage))
      ∙ ap (λ (x : List FailureReport). x ++ open_reports second.0.stage) (sym (flat_map-append item_reports first.1 second.1))))

-- what a write came to changes nothing of what is reported

missed-same : (moment : Moment) (causes : List BrickCause) (f : Fate) → option_to_list (report_of moment (outcome_in (fate_missed causes f))) ≡ option_to_list (report_of moment (outcome_in f))
missed-same moment causes (Known became) = refl
missed-same moment causes (Writing place again) = refl

written-same : (moment : Moment) (f : Fate) → option_to_list (report_of moment (outcome_in (fate_written f))) ≡ option_to_list (report_of moment (outcome_in f))
written-same moment (Known became) = refl
written-same moment (Writing place again) = refl

fated-same : (moment : Moment) (change : Fate → Fate) → ((f : Fate) → option_to_list (report_of moment (outcome_in (change f))) ≡ option_to_list (report_of moment (outcome_in f)))
    → (w : Work ActionCall) → work_reports moment (with_fate change w) ≡ work_reports moment w
fated-same moment change same Reading = refl
fated-same moment change same Opening = refl
fated-same moment change same (ServingBy tries program) = refl
fated-same moment change same (Committed place again shown) = refl
fated-same moment change same (Decided became) = refl
fated-same moment change same (Answered fate bytes) = same fate
fated-same moment change same (Left fate) = same fate

told-same : (o : Option WriteOutcome) (v : Visit ActionCall) → visit_reports (after_outcome o v) ≡ visit_reports v
told-same None v = refl
told-same (Some (outcome.Written cookie)) v = fated-same v.facts.now fate_written (written-same v.facts.now) v.work
told-same (Some (outcome.Missed causes)) v = fated-same v.facts.now (fate_missed causes) (missed-same v.facts.now causes) v.work

-- by each event of an open request

outside-same : (v : Visit ActionCall) (link : LaneLink) → visit_reports (outside lane_replies lane_link_tally v link).0 ≡ visit_reports v
unfolding outside
outside-same v link = refl

windows-same : (v : Visit ActionCall) (windows : WindowsValue) → visit_reports (windows_step v windows).0 ≡ visit_reports v
unfolding windows_step
windows-same v windows = by v.way where
  told : (x : Option WriteOutcome) (to : SessionWay) → visit_reports (after_outcome x (record v { way = to })) ≡ visit_reports v
  told x to = told-same x (record v { way = to })

  full : (w : Work ActionCall) → work_reports v.facts.now (overloaded (full_facts windows.facts) w) ≡ work_reports v.facts.now w
  full Reading = refl
  full Opening = refl
  full (ServingBy tries program) = refl
  full (Committed place again shown) = refl
  full (Decided became) = refl
  full (Answered fate bytes) = refl
  full (Left fate) = refl

  takes : (order : _) (b : Bool) → visit_reports (if b then (record v { way = way.Resting; work = overloaded (full_facts windows.facts) v.work }, refused windows)
      else goes v (way.Writing (write_begun order windows.wq (passes_for order windows))) (taken windows (passes_for order windows))).0 ≡ visit_reports v
  takes order true = full v.work
  takes order false = told (outcome_of (answer_held v.way)) (way.Writing (write_begun order windows.wq (passes_for order windows)))

  by : (x : SessionWay) → visit_reports (windows_by v x windows).0 ≡ visit_reports v
  by way.Resting = refl
  by (way.Reading r) = refl
  by (way.Ordered order) = takes order (nat_lt (open_count windows.facts) windows.wq)
  by (way.Writing w) = refl
  by (way.Settling w) = told (outcome_of (answer_held v.way)) way.Resting
  by (way.Holding passes) = told (outcome_of (answer_held v.way)) way.Resting

leaving-same : (moment : Moment) (w : Work ActionCall) → work_reports moment (departed w) ≡ work_reports moment w
leaving-same moment Reading = refl
leaving-same moment Opening = refl
leaving-same moment (ServingBy tries program) = refl
leaving-same moment (Committed place again shown) = refl
leaving-same moment (Decided became) = refl
leaving-same moment (Answered fate bytes) = refl
leaving-same moment (Left fate) = refl

-- a step in the container reports what it decides

own-not-inside : (x : Wants) → or_own x ≡ visit.Inside → ⊥
own-not-inside wanted.Nothing is = cc
own-not-inside wanted.Outside is = cc
own-not-inside wanted.Windows is = cc

over-not-inside : (x : Wants) → or_over x ≡ visit.Inside → ⊥
over-not-inside wanted.Nothing is = cc
over-not-inside wanted.Outside is = cc
over-not-inside wanted.Windows is = cc

module _ (v : Visit ActionCall) (call : Option AskedCall) where
  -- what is reported right behind a step in the container is what has been reported of a request then
  abbrev Tells : Visit ActionCall → Type 0
  Tells x = (let stage : Stage ActionCall = Serving x call in option_to_list (report_in stage) ≡ visit_reports x)

  course-tells : (program : ActionCall) (c : ContainerValue) (course : Course) → Tells (after_course v program c course)
  unfolding report_in
  course-tells program c (Goes tries) = refl
  course-tells program c (Ends end) = left end.outcome where
    shown : (place : Place) (again : Bool) (ready : Ready) → Tells (shown_so place again ready (record v { holds = holds_of end }))
    shown place again (Respond bytes) = refl
    shown place again (WritesThen order what) = refl

    follows : Bool → Ready
    follows again = ready_of v.facts v.lease (done_of (events_of c) end)

    left : (x : RequestOutcome) → Tells (left_so (closed_with follows x) (record v { holds = holds_of end }))
    left (Page place again) = shown place again (follows again)
    left (Sentinel group down) = refl
    left (Hung component fault path) = refl
    left (Raised component fault path) = refl
    left (Revoked tries) = refl
    left (Conflict tries) = refl
    left (JournalFull full) = refl
    left KeeperFailed = refl

  inside-tells : (keeps : Bool) (boot : BootValue) (since : List Event) → visit_turn v ≡ visit.Inside
      → (let after : Visit ActionCall = (inside steps_of keeps v boot since).visit in let stage : Stage ActionCall = Serving after call in visit_reports v ++ option_to_list (report_in stage) ≡ visit_reports after)
  unfolding inside
  inside-tells keeps boot since inside_is = by v.work inside_is where
    strides : (program : ActionCall) (x : Stride) → Tells (after_course v program x.container x.course)
    strides program x = course-tells program x.container x.course

    by : (w : Work ActionCall) → visit_turn_by w (wants v.way) ≡ visit.Inside
        → (let after : Visit ActionCall = (inside_of steps_of keeps v w (untold boot since)).visit in let stage : Stage ActionCall = Serving after call in work_reports v.facts.now w ++ option_to_list (report_in stage) ≡ visit_reports after)
    by Reading is = absurd (own-not-inside (wants v.way) is)
    by Opening is = absurd (cc)
    by (ServingBy tries program) is = strides program (stride (steps_of program) keeps (untold boot since) tries tries.attempt)
    by (Committed place again shown) is = absurd (own-not-inside (wants v.way) is)
    by (Decided became) is = absurd (cc)
    by (Answered fate bytes) is = absurd (cc)
    by (Left fate) is = absurd (over-not-inside (wants v.way) is)

-- nothing has been reported of a request that was just taken

admitted-none : (facts : VisitFacts) (counts : LinkCounts) (a : Admission) (cookie : Option Cookie) → open_reports (admitted_visit {P = ActionCall} facts counts a cookie) ≡ []
admitted-none facts counts a None = refl
admitted-none facts counts a (Some cookie) = refl

begun-none : (front : Place) (counts : LinkCounts) (head : Head) (now : Moment) (arrived : Arrival) → open_reports (begun_by {P = ActionCall} front counts head now arrived) ≡ []
begun-none front counts head now (Refused why) = refl
begun-none front counts head now (SerialsSpent request seen) = refl
begun-none front counts head now (Admitted a) = admitted-none _ counts a a.cookie

takes-none : (service : Service) (seen : LinkCounts) (now : Moment) (t : Taken) (s : Shepherd ActionCall) (counts : Counts) → s.stage ≡ Resting → open_reports (takes_by service seen now t s counts).0.stage ≡ []
takes-none service seen now (took.Request head) s counts rests = begun-none s.front seen head now _
takes-none service seen now took.Bad s counts rests = refl
takes-none service seen now (took.TooLong len lines) s counts rests = refl
takes-none service seen now took.NoCoding s counts rests = refl
takes-none service seen now (took.BodyTooLong said) s counts rests = refl
takes-none service seen now took.More s counts rests = ap open_reports rests

-- by the event of a step

module _ (g : SeatGivens) (seat : Seat) (w : SeatWorld) where
  -- the connection at a stage, with memory or not
  abbrev k : Stage ActionCall → Bool → Shepherd ActionCall
  k stage wants = record (seat.connection) { stage = stage; wants_memory = wants }

  -- its stage behind the event at a turn
  abbrev E : Stage ActionCall → Bool → ShepherdTurn → Stage ActionCall
  E stage wants t = (event_at (givens_in g w) t (seen_by (record { connection = k stage wants; twin = seat.twin }) w)).0.connection.stage

  -- what had been reported and what is reported at a turn has been reported behind the event
  abbrev Reports : Stage ActionCall → Bool → ShepherdTurn → Type 0
  Reports stage wants t = open_reports stage ++ option_to_list (report_at t (E stage wants t)) ≡ open_reports (E stage wants t)

  serving-reports : (v : Visit ActionCall) (call : Option AskedCall) (t : Turn) → visit_turn v ≡ t → Reports (Serving v call) false (turn_by t)
  unfolding output_of
  serving-reports v call visit.Outside is = append-nil (visit_reports v) ∙ sym (outside-same v (record { lanes = w.store; active = seat.twin }))
  serving-reports v call visit.Windows is = append-nil (visit_reports v) ∙ sym (windows-same v w.store.windows)
  serving-reports v call visit.Inside is = inside-tells v call g.keeps w.boot w.since is
  serving-reports v call visit.Program is = append-nil (visit_reports v)
  serving-reports v call visit.Own is = append-nil (visit_reports v)
  serving-reports v call visit.Output is = append-nil (visit_reports v) ∙ sym (leaving-same v.facts.now v.work)
  serving-reports v call visit.Over is = append-nil (visit_reports v)

  resting-reports : (a b c : Bool) → Reports Resting false (if a then turns.Request else (if b then (if c then turns.Ended ends.Closed else turns.Ended ends.Cut) else turns.Bytes))
  unfolding take_request
  resting-reports true b c = sym (takes-none _ _ g.now (taken_of seat.connection.received) (k Resting false) _ refl)
  resting-reports false true true = refl
  resting-reports false true false = refl
  resting-reports false false c = refl

  stage-reports : (stage : Stage ActionCall) (wants : Bool) → Reports stage wants (turn (k stage wants))
  unfolding output_of
  stage-reports stage true = append-nil (open_reports stage)
  stage-reports Resting false = resting-reports (settles (taken_of seat.connection.received)) seat.connection.ended (length seat.connection.received == 0)
  stage-reports (Serving v call) false = serving-reports v call (visit_turn v) refl
  stage-reports (Refusing why bytes) false = refl
  stage-reports (Over end) false = refl

-- What had been reported of a seat's request and what its step reports is what the items of the step tell, and then
-- what has been reported of the request that is open behind it.
pub step-reports : (g : SeatGivens) (seat : Seat) (w : SeatWorld)
    → open_reports seat.connection.stage ++ option_to_list (seat_step g seat w).report ≡ items_reports (seat_step g seat w).items ++ open_reports (seat_step g seat w).seat.connection.stage
unfolding seat_step step event_of
step-reports g seat w =
    stage-reports g seat w seat.connection.stage seat.connection.wants_memory
    ∙ gone-gives (making_by g) (event_at (givens_in g w) (turn seat.connection) (seen_by seat w)).0.connection

-- a request that is open has not ended
not-ended : (t : Turn) (end : EndKind) → turn_by t ≡ turns.Ended end → ⊥
not-ended visit.Outside end is = cc
not-ended visit.Windows end is = cc
not-ended visit.Inside end is = cc
not-ended visit.Program end is = cc
not-ended visit.Own end is = cc
not-ended visit.Output end is = cc
not-ended visit.Over end is = cc

-- No request is open where a connection has ended, unless memory was wanted.
pub ended-none : (s : Shepherd ActionCall) (end : EndKind) → turn s ≡ turns.Ended end → end ≢ ends.OutOfMemory → open_reports s.stage ≡ []
ended-none s end is other = by s.stage s.wants_memory is where
  by : (stage : Stage ActionCall) (wants : Bool) → (let k : Shepherd ActionCall = record s { stage = stage; wants_memory = wants } in turn k ≡ turns.Ended end) → open_reports stage ≡ []
  by stage true e = absurd (other (let ended : turns.Ended ends.OutOfMemory ≡ turns.Ended end = e in let same : ends.OutOfMemory ≡ end = cc in sym same))
  by Resting false e = refl
  by (Serving v call) false e = absurd (not-ended (visit_turn v) end e)
  by (Refusing why bytes) false e = absurd (cc)
  by (Over how) false e = refl

-- where a seat is given up

dropped-same : (moment : Moment) (w : Work ActionCall) → work_reports moment (dropped w) ≡ work_reports moment w
dropped-same moment Reading = refl
dropped-same moment Opening = refl
dropped-same moment (ServingBy tries program) = refl
dropped-same moment (Committed place again shown) = refl
dropped-same moment (Decided became) = refl
dropped-same moment (Answered fate bytes) = refl
dropped-same moment (Left fate) = refl

pub given-up-reports : (stage : Stage ActionCall) → open_reports (dropped_stage stage) ≡ open_reports stage
given-up-reports Resting = refl
given-up-reports (Serving v call) = dropped-same v.facts.now v.work
given-up-reports (Refusing why bytes) = refl
given-up-reports (Over end) = refl

pub given-back-reports : (stage new : Stage ActionCall) (windows after : WindowsValue) → GivesBack stage windows new after → open_reports new ≡ open_reports stage
given-back-reports Resting new windows after (is, same) = ap open_reports is
given-back-reports (Serving v call) new windows after (to, back, is) =
    ap open_reports is
    ∙ (ap visit_reports back.back.new_is ∙ told-same back.back.outcome (record v { way = way.Resting }))
given-back-reports (Refusing why bytes) new windows after (is, same) = ap open_reports is
given-back-reports (Over end) new windows after (is, same) = ap open_reports is

-- what had been reported stays so where the same has been reported of the request that is open
pub has-still : (reports : List FailureReport) (items : List Item) (stage new : Stage ActionCall) → open_reports new ≡ open_reports stage → HasReported reports items stage → HasReported reports items new
has-still reports items stage new same has = has ∙ ap (λ (x : List FailureReport). items_reports items ++ x) (sym same)

-- the item of a request tells what has been reported of it
item-tells : (v : Visit ActionCall) (w : Work ActionCall) (i : Item) → IsItemOf v w i → item_reports i ≡ work_reports v.facts.now w
item-tells v Reading i is = absurd is
item-tells v Opening i is = absurd is
item-tells v (ServingBy tries program) i is = absurd is
item-tells v (Committed place again shown) i is = absurd is
item-tells v (Decided became) i is = absurd is
item-tells v (Answered fate bytes) i is = absurd is
item-tells v (Left fate) i is = ap item_reports is

pub taken-reports : (reports : List FailureReport) (items : List Item) (i : Item) (stage new : Stage ActionCall) → TakesItem stage i new → HasReported reports items stage → HasReported reports (items ++ i ∷ []) new
taken-reports reports items i Resting new takes has = absurd takes
taken-reports reports items i (Serving v call) new (is, after) has =
    has
    ∙ (ap (λ (x : List FailureReport). items_reports items ++ x) (sym (item-tells v v.work i is) ∙ sym (append-nil (item_reports i)))
    ∙ (sym (flat_map-append item_reports items (i ∷ []))
    ∙ (sym (append-nil (items_reports (items ++ i ∷ [])))
    ∙ ap (λ (x : List FailureReport). items_reports (items ++ i ∷ []) ++ x) (sym (ap open_reports after ∙ rested-none v.facts.close)))))
taken-reports reports items i (Refusing why bytes) new takes has = absurd takes
taken-reports reports items i (Over end) new takes has = absurd takes

-- an item is left where the response has left
left-tells : (v : Visit ActionCall) (w : Work ActionCall) (i : Item) → item_by_work v w ≡ Some i → item_reports i ≡ work_reports v.facts.now w
left-tells v Reading i e = absurd (cc)
left-tells v Opening i e = absurd (cc)
left-tells v (ServingBy tries program) i e = absurd (cc)
left-tells v (Committed place again shown) i e = absurd (cc)
left-tells v (Decided became) i e = absurd (cc)
left-tells v (Answered fate bytes) i e = absurd (cc)
left-tells v (Left fate) i e = let same : item_of v fate ≡ i = cc in ap item_reports (sym same)

-- The item that is left tells what has been reported of its request.
pub gone-tells : (stage : Stage ActionCall) (i : Item) → item_left stage ≡ Some i → item_reports i ≡ open_reports stage
gone-tells Resting i e = absurd (cc)
gone-tells (Serving v call) i e =
    let still : Visit ActionCall = record v { way = way.Resting; work = dropped v.work } in
    left-tells (visit_gone v) (visit_gone v).work i e ∙ (told-same (outcome_of (answer_held v.way)) still ∙ dropped-same v.facts.now v.work)
gone-tells (Refusing why bytes) i e = absurd (cc)
gone-tells (Over end) i e = absurd (cc)

-- A connection that has reported its requests has done so behind a step.
pub step-reported : (reports report : List FailureReport) (items more : List Item) (old new : Stage ActionCall) → open_reports old ++ report ≡ items_reports more ++ open_reports new → HasReported reports items old
    → HasReported (reports ++ report) (items ++ more) new
step-reported reports report items more old new is has =
    ap (λ (x : List FailureReport). x ++ report) has
    ∙ (append_assoc (items_reports items) (open_reports old) report
    ∙ (ap (λ (x : List FailureReport). items_reports items ++ x) is
    ∙ (sym (append_assoc (items_reports items) (items_reports more) (open_reports new))
    ∙ ap (λ (x : List FailureReport). x ++ open_reports new) (sym (flat_map-append item_reports items more)))))
