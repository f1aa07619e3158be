-- The text of what a seat serves spells the call of its program, behind each step.
use Rattle.std.specs.Prelude.{option_map}
use Rattle.std.proofs.Common.{◌≡◌, ◌<◌, ◌&&◌, ◌+◌, ◌^◌, Bool, true, false, nat_lt, if◌then◌else◌, List, [], ◌∷◌, ◌++◌, length, Option, Some, None, refl, sym, subst}
use Rattle.auction_calls.specs.declared.action.ActionCall.{ActionCall}
use Rattle.auction_site.specs.Actions.{steps_of}
use Rattle.boot_core.specs.Boot.{BootValue}
use Rattle.boot_core.specs.declared.refusals.CommitRefusal.{CommitRefusal}
use Rattle.boot_core.specs.declared.refusals.CommitRefusal.TheVariants as commits
use Rattle.call_attempts.specs.Attempt.{AttemptValue, stop_of_attempt, wanted}
use Rattle.call_attempts.specs.declared.stop.Stop.{Stop}
use Rattle.call_attempts.specs.declared.stop.Stop.TheVariants as stops
use Rattle.call_ticket.specs.declared.next.Answer.{Answer}
use Rattle.call_ticket.specs.declared.next.Next.{Next}
use Rattle.call_ticket.specs.declared.next.Next.TheVariants as next
use Rattle.container_core.specs.Container.{ContainerValue}
use Rattle.container_core.specs.declared.history.Event.{Event}
use Rattle.crash_base.specs.declared.numbers.ComponentNo.{ComponentNo}
use Rattle.crash_base.specs.declared.numbers.Place.{Place}
use Rattle.journal_model.specs.declared.entry.DoneText.{DoneText}
use Rattle.journal_model.specs.declared.entry.Entry.{Entry}
use Rattle.lane_link.specs.Links.{lane_link_tally}
use Rattle.lane_link.specs.declared.link.LaneLink.{LaneLink}
use Rattle.outside.specs.declared.link.LinkCounts.{LinkCounts}
use Rattle.request_decisions.specs.Decisions.{IsAccepted, IsOrdered}
use Rattle.request_decisions.specs.Draws.{drawn_for}
use Rattle.request_tries.specs.Serving.{TriesValue, closed, with_try}
use Rattle.request_tries.specs.Steps.{action_of, ended_at, from_of, front_at, outcome_by, refusal_of, try_ended}
use Rattle.request_tries.specs.declared.outcome.HistoryFront.{HistoryFront}
use Rattle.request_tries.specs.declared.outcome.TheConstants.{MAX_TRIES}
use Rattle.request_tries.specs.declared.outcome.TryCause.{TryCause}
use Rattle.request_tries.specs.declared.outcome.TryCause.TheVariants as cause
use Rattle.request_visit.specs.Advancing.{value_of}
use Rattle.request_visit.specs.Stepping.{counted}
use Rattle.request_visit.specs.declared.visit.Visit.{Visit}
use Rattle.request_visit.specs.declared.visit.Work.{Work}
use Rattle.request_visit.specs.declared.visit.Work.TheVariants.{Reading, Opening, Serving as ServingBy, Committed, Decided, Answered, Left}
use Rattle.session_cookie.specs.declared.cookie.Cookie.{Cookie}
use Rattle.shepherd.specs.Shepherds.{turn}
use Rattle.shepherd.specs.declared.shepherd.Shepherd.{Shepherd}
use Rattle.shepherd.specs.declared.shepherd.ShepherdTurn.{ShepherdTurn}
use Rattle.shepherd.specs.declared.shepherd.ShepherdTurn.TheVariants as turns
use Rattle.shepherd.specs.declared.shepherd.Stage.{Stage}
use Rattle.shepherd.specs.declared.shepherd.Stage.TheVariants.{Resting, Serving, Refusing, Over}
use Rattle.shepherd_steps.specs.Inside.{Course, Ends, Goes, after_entry, after_refusal, after_stop, after_try, came_by, commits_by, inside, inside_of, stride, stride_by, untold, with_keeper}
use Rattle.shepherd_steps.specs.Stepping.{World, event_at, step, step_inside, steps_in}
use Rattle.seat_steps.specs.Seats.{SeatGivens, SeatWorld, givens_in, seat_step, seen_by}
use Rattle.seat_steps.specs.declared.seat.Seat.{Seat}
use Rattle.seat_laws.proofs.Ordering.{OrderLaws, order-decided}
use Rattle.seat_laws.proofs.Passing.{AdmitsLaw, CourseServes, OpensLaw, by-windows-passes, course-passes, drawing, gone-passes, outside-passes, output-passes, request-passes, undrawn}
use Rattle.seat_laws.proofs.Ranges.{accepted-sized, by-user, fresh-small, ordered-in-ranges}
use Rattle.seat_laws.specs.Fitting.{AsksAndServes, IfServed}
use Rattle.seat_laws.specs.Spelling.{AsksInRange, SeatSpells, TextSpells}

-- what a step comes to has a text that spells the program's call, where the request is served still
abbrev CourseSpells : ActionCall → Course → Type 0
CourseSpells program course = CourseServes TextSpells program course

try-spells : (now : HistoryFront) (s : TriesValue) (program : ActionCall) (at : Place) (why : TryCause) (repeats : Bool) → TextSpells s program → CourseSpells program (after_try now s at why repeats)
try-spells now s program at why repeats spells = by (nat_lt (length s.tries + 1) MAX_TRIES && repeats) where
  by : (b : Bool) → CourseSpells program (if b then Goes (with_try s (try_ended now at why)) else Ends (ended_at now (from_of s at) (outcome_by why (s.tries ++ try_ended now at why ∷ [])) None))
  by true = spells
  by false = tt

stop-spells : (now : HistoryFront) (s : TriesValue) (program : ActionCall) (at : Place) (repeats : Bool) (entered : List ComponentNo) (stop : Stop) → TextSpells s program → CourseSpells program (after_stop now s at repeats entered stop)
stop-spells now s program at repeats entered (stops.Sentinel group down) spells = tt
stop-spells now s program at repeats entered (stops.Hung component fault) spells = tt
stop-spells now s program at repeats entered (stops.Raised component fault) spells = tt
stop-spells now s program at repeats entered (stops.Revoked shown) spells = try-spells now s program at (cause.Revoked shown) repeats spells

refusal-spells : (now : HistoryFront) (es : List Entry) (s : TriesValue) (program : ActionCall) (at : Place) (repeats : Bool) (refusal : CommitRefusal) → TextSpells s program
    → CourseSpells program (after_refusal now es s at repeats refusal)
refusal-spells now es s program at repeats (commits.Revoked shown) spells = try-spells now s program at (cause.Revoked shown) repeats spells
refusal-spells now es s program at repeats (commits.Conflict conflict) spells = try-spells now s program at (cause.Conflict conflict.mark conflict.newest) true spells
refusal-spells now es s program at repeats (commits.Already place) spells = tt
refusal-spells now es s program at repeats (commits.JournalFull full) spells = tt
refusal-spells now es s program at repeats commits.KeeperFailed spells = tt
refusal-spells now es s program at repeats commits.OutOfMemory spells = spells

commit-spells : (c : ContainerValue) (tries : TriesValue) (program : ActionCall) (a : AttemptValue) (done : DoneText) (refusal : Option CommitRefusal) → TextSpells tries program
    → CourseSpells program (commits_by c tries a done refusal).course
commit-spells c tries program a done None spells = tt
commit-spells c tries program a done (Some refusal) spells =
    let after : ContainerValue = after_entry c a.ticket.call (action_of tries done) (Some refusal) in
    refusal-spells (front_at after) after.boot.entries (closed tries) program a.ticket.call.at a.repeats refusal spells

-- a step in the container leaves the text as it was
stride-spells : (keeps : Bool) (c : ContainerValue) (tries : TriesValue) (program : ActionCall) → TextSpells tries program → CourseSpells program (stride (steps_of program) keeps c tries tries.attempt).course
stride-spells keeps c tries program spells = by tries.attempt where
  asks : List Answer → Next
  asks = steps_of program

  stopped : (a : AttemptValue) (stop : Stop) → CourseSpells program (after_stop (front_at c) (closed tries) a.ticket.call.at a.repeats a.entered stop)
  stopped a stop = stop-spells (front_at c) (closed tries) program a.ticket.call.at a.repeats a.entered stop spells

  at : (a : AttemptValue) (x : Next) (o : Option Stop) → CourseSpells program (stride_by asks keeps c tries a (came_by x o)).course
  at a (next.Enter component method) None = spells
  at a (next.Enter component method) (Some stop) = stopped a stop
  at a (next.Read id) None = spells
  at a (next.Read id) (Some stop) = stopped a stop
  at a (next.List table) None = spells
  at a (next.List table) (Some stop) = stopped a stop
  at a (next.Put write) None = spells
  at a (next.Put write) (Some stop) = stopped a stop
  at a next.Exit None = spells
  at a next.Exit (Some stop) = stopped a stop
  at a (next.Done done) o = commit-spells c tries program a done (with_keeper (refusal_of c tries a done) a.ticket.call.writes keeps) spells

  by : (o : Option AttemptValue) → CourseSpells program (stride asks keeps c tries o).course
  by None = spells
  by (Some a) = at a (wanted asks a) (stop_of_attempt c.boot asks a)

inside-spells : (keeps : Bool) (v : Visit ActionCall) (boot : BootValue) (since : List Event) → IfServed TextSpells v.work → IfServed TextSpells (inside steps_of keeps v boot since).visit.work
unfolding inside
inside-spells keeps v boot since spells = by v.work spells where
  by : (w : Work ActionCall) → IfServed TextSpells w → IfServed TextSpells (inside_of steps_of keeps v w (untold boot since)).visit.work
  by Reading its = spells
  by Opening its = spells
  by (ServingBy tries program) its =
      let c : ContainerValue = untold boot since in
      let s = stride (steps_of program) keeps c tries tries.attempt in
      course-passes AsksInRange TextSpells v program s.container s.course (stride-spells keeps c tries program its)
  by (Committed place again shown) its = spells
  by (Decided became) its = spells
  by (Answered fate bytes) its = spells
  by (Left fate) its = spells

-- the text that is made of a call in its ranges spells it
opens-spell : OpensLaw AsksInRange TextSpells
opens-spell g v asked asks = record { in_ranges = by-user asked.call (option_map value_of v.lease) asks; bytes_are = refl }

-- A seat spells what it serves from its begin on.
pub spells-still : (seat new : Seat) → new.connection.stage ≡ seat.connection.stage → SeatSpells seat → SeatSpells new
spells-still seat new same spells = record { stage = subst (AsksAndServes AsksInRange TextSpells) (sym same) spells.stage }

module _ (laws : OrderLaws) (g : SeatGivens) (seat : Seat) (w : SeatWorld) (early : g.now.0 < 2 ^ 62) (its : SeatSpells seat) where
  abbrev s : Shepherd ActionCall
  s = seat.connection

  abbrev E : ShepherdTurn → World ActionCall LaneLink
  E t = (event_at (givens_in g w) t (seen_by seat w)).0

  abbrev seen : LinkCounts
  seen = counted (lane_link_tally (record { lanes = w.store; active = seat.twin }))

  admits-spell : AdmitsLaw AsksInRange TextSpells g w
  admits-spell head o is =
      let ordered : IsOrdered g.key w.boot.start.boot head o = laws.exact g.key w.boot.start.boot head o (order-decided laws g.key w.boot.start.boot head o is) in
      let sized : (cookie : Cookie) → o.cookie ≡ Some cookie → length cookie.key.0 ≡ 16 =
      λ cookie has. accepted-sized g.key head.cookie cookie (subst (λ (x : Option Cookie). IsAccepted g.key head.cookie x) has ordered.asks.accepted) in
      ordered-in-ranges g.key w.boot.start.boot o g.now (drawing g w o).drawn (laws.in_range g.key w.boot.start.boot head o (order-decided laws g.key w.boot.start.boot head o is)) early
      (fresh-small w.word w.serial (drawn_for o) undrawn) sized

  event-spells : (t : ShepherdTurn) → AsksAndServes AsksInRange TextSpells (E t).connection.stage
  event-spells turns.Bytes = its.stage
  event-spells turns.Request = request-passes AsksInRange TextSpells g w admits-spell s seen its.stage
  event-spells turns.Outside = outside-passes AsksInRange TextSpells s.stage (record { lanes = w.store; active = seat.twin }) its.stage
  event-spells turns.Windows = by-windows-passes AsksInRange TextSpells s.stage w.store.windows its.stage
  event-spells turns.Inside = go s.stage its.stage where
    go : (stage : Stage ActionCall) → AsksAndServes AsksInRange TextSpells stage
        → (let x : Stage ActionCall × (BootValue × List Event) = steps_in (step_inside steps_of g.keeps) stage (w.boot, w.since) in AsksAndServes AsksInRange TextSpells x.0)
    go Resting spells = tt
    go (Serving v call) spells = (spells.0, inside-spells g.keeps v w.boot w.since spells.1)
    go (Refusing why bytes) spells = tt
    go (Over end) spells = tt
  event-spells turns.Program = its.stage
  event-spells turns.Own = its.stage
  event-spells turns.Output = output-passes AsksInRange TextSpells s.stage its.stage
  event-spells turns.Item = its.stage
  event-spells (turns.Ended end) = its.stage

  -- And so it does behind each of its steps.
  pub step-spells : SeatSpells (seat_step g seat w).seat
  unfolding seat_step step
  step-spells = record { stage = gone-passes AsksInRange TextSpells opens-spell g (E (turn s)).connection (event-spells (turn s)) }
