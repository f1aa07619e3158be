-- The nonces that a seat still needs were drawn, by the function of its step alone.
use Rattle.std.specs.Prelude.{IfSome, All}
use Rattle.std.proofs.Common.{◌≡◌, ◌⊎◌, inl, inr, ◌∙◌, ◌≤◌, ◌<◌, ◌+◌, ℕ, Bool, true, false, nat_lt, if◌then◌else◌, List, [], ◌∷◌, ◌++◌, map, Option, Some, None, refl, sym, ap, subst, arith}
use Rattle.std.proofs.lemmas.List.Elements.{All-cons, All-nil, All-weaker}
use Rattle.auction_calls.specs.declared.action.ActionCall.{ActionCall}
use Rattle.auction_site.specs.Actions.{steps_of}
use Rattle.call_ticket.specs.declared.next.Answer.{Answer}
use Rattle.call_ticket.specs.declared.next.Next.{Next}
use Rattle.container_core.specs.Container.{ContainerValue, events_of}
use Rattle.crash_base.specs.declared.numbers.Place.{Place}
use Rattle.crash_base.specs.declared.numbers.Version.{Version}
use Rattle.http_wire.specs.Taking.{taken_of}
use Rattle.http_wire.specs.declared.taken.Head.{Head}
use Rattle.http_wire.specs.declared.taken.Taken.{Taken}
use Rattle.http_wire.specs.declared.taken.Taken.TheVariants as took
use Rattle.journal_model.specs.declared.entry.DoneText.{DoneText}
use Rattle.lane_link.specs.Links.{lane_link_tally, wants_to_hear, wants_to_send}
use Rattle.lane_link.specs.Twins.{call_held}
use Rattle.lane_link.specs.declared.link.LaneLink.{LaneLink}
use Rattle.outcome_items.specs.declared.item.Holds.{Holds}
use Rattle.outside.specs.declared.link.LinkCounts.{LinkCounts}
use Rattle.request_decisions.specs.declared.decision.Decision.{Decision}
use Rattle.request_decisions.specs.declared.decision.Decision.TheVariants as decided
use Rattle.request_decisions.specs.declared.decision.Order.{Order}
use Rattle.request_decisions.specs.declared.draws.DrawKind.TheVariants.{Read}
use Rattle.request_intake.specs.Intakes.{admission_of, nonce_of}
use Rattle.request_intake.specs.declared.intake.Admission.{Admission}
use Rattle.request_tries.specs.Ends.{done_of}
use Rattle.request_tries.specs.Serving.{TriesValue}
use Rattle.request_tries.specs.declared.outcome.RequestOutcome.{RequestOutcome}
use Rattle.request_tries.specs.declared.outcome.RequestOutcome.TheVariants as ended
use Rattle.request_visit.specs.Ready.{ready_by, ready_of, set_in}
use Rattle.request_visit.specs.Serving.{closed_with, holds_of}
use Rattle.request_visit.specs.Stepping.{counted, left_so, shown_so}
use Rattle.request_visit.specs.Visits.{overloaded}
use Rattle.request_visit.specs.declared.visit.Visit.{Visit}
use Rattle.request_visit.specs.declared.visit.Work.{Work}
use Rattle.request_visit.specs.declared.visit.Work.TheVariants.{Reading, Opening, Serving as ServingBy, Committed, Decided, Answered, Left}
use Rattle.send_windows.specs.Calls.{Spend, Take}
use Rattle.send_windows.specs.Facts.{full_facts, open_count}
use Rattle.send_windows.specs.Passes.{hushed}
use Rattle.send_windows.specs.Windows.{WindowsValue, refused, taken}
use Rattle.session_cookie.specs.declared.cookie.Cookie.{Cookie}
use Rattle.session_steps.specs.Lent.{BeginsRead, BeginsSo, BeginsWrite, CallsWindows, HearsNone, LentStep, TakesTurn, WasDrawn}
use Rattle.session_way.specs.Lease.{value_to_write}
use Rattle.session_way.specs.Way.{answer_held, passes_for, settled}
use Rattle.session_way.specs.Reading.{cookie_asked}
use Rattle.session_way.specs.Writing.{WritingState, passes_spent, write_begun}
use Rattle.session_way.specs.declared.way.SessionWay.{SessionWay}
use Rattle.session_way.specs.declared.way.SessionWay.TheVariants as way
use Rattle.shepherd.specs.Shepherds.{turn}
use Rattle.shepherd.specs.Steps.{admitted_visit, begun_by, facts_of}
use Rattle.shepherd.specs.declared.shepherd.Shepherd.{Shepherd}
use Rattle.shepherd.specs.declared.shepherd.ShepherdTurn.{ShepherdTurn}
use Rattle.shepherd.specs.declared.shepherd.ShepherdTurn.TheVariants as turns
use Rattle.shepherd.specs.declared.shepherd.Stage.{Stage}
use Rattle.shepherd.specs.declared.shepherd.Stage.TheVariants.{Resting, Serving, Refusing, Over}
use Rattle.shepherd_steps.specs.Alone.{Making, gone_alone}
use Rattle.shepherd_steps.specs.Inside.{Course, Ends, Goes, Stride, after_course, inside, inside_of, stride, untold}
use Rattle.shepherd_steps.specs.Leaving.{output_of}
use Rattle.shepherd_steps.specs.Outside.{outside, way_outside}
use Rattle.shepherd_steps.specs.Passes.{goes, outcome_of, windows_by, windows_step}
use Rattle.shepherd_steps.specs.Stepping.{World, event_at, step, step_inside, steps_in}
use Rattle.shepherd_steps.specs.Taking.{Counts, arrival_by, arrives_by, take_request, takes_by}
use Rattle.ssm_frames.specs.Spelling.{encode_of}
use Rattle.ssm_stub.specs.Reads.{read_ask, read_machine}
use Rattle.ssm_stub.specs.Writes.{write_machine}
use Rattle.ssm_stub.specs.declared.event.StubNext.{StubNext}
use Rattle.ssm_stub.specs.declared.event.StubNext.TheVariants as next
use Rattle.ssm_world.specs.declared.call.Call.{Call}
use Rattle.seat_steps.specs.Replies.{lane_replies}
use Rattle.seat_steps.specs.Seats.{SeatGivens, SeatWorld, givens_in, making_by, seat_step, seen_by, service_in}
use Rattle.seat_steps.specs.Twinned.{value_put, way_in}
use Rattle.seat_steps.specs.declared.seat.Seat.{Seat}
use Rattle.seat_laws.specs.Drawing.{SeatHasDrawn, nonce_in}
use Rattle.seat_steps.specs.Begins.{begin_steps}
use Rattle.seat_laws.specs.Lending.{window_steps}
use Rattle.seat_laws.specs.LentSteps.{lent_steps, outside_steps, turn_or_silence, turn_steps, wanted_steps}
use Rattle.seat_laws.specs.Owing.{IsDrawnIn, owed_by, write_owed}
use Rattle.seat_laws.proofs.Alone.{RestsOrStays, gone-rests}
use Rattle.seat_laws.proofs.Drawing.{read-in}
use Rattle.seat_laws.proofs.LentBricks.{serial-rises}
use Rattle.seat_laws.proofs.Owing.{Drawn, Owes, drawn-between, step-owes}
use Rattle.seat_laws.proofs.Twinning.{after-way}

-- this is so of what there is, if it is so of whatever that is
if-there : {A : Type 0} (P : A → Type 0) (o : Option A) → ((x : A) → o ≡ Some x → P x) → IfSome o P
if-there P None so = tt
if-there P (Some x) so = so x refl

there-if : {A : Type 0} (P : A → Type 0) (o : Option A) (x : A) → o ≡ Some x → IfSome o P → P x
there-if {A} P o x is so = subst (λ (y : Option A). IfSome y P) is so

-- a request orders or holds this nonce, or owes its write
abbrev MayBegin : Visit ActionCall → Version → Type 0
MayBegin v n = Owes v n ⊎ (nonce_in v.way ≡ Some n)

-- what a connection does by itself orders and begins nothing
gone-nonce : (m : Making ActionCall) (s : Shepherd ActionCall) (n : Version) → nonce_in (way_in (gone_alone m s).0.stage) ≡ Some n → nonce_in (way_in s.stage) ≡ Some n
gone-nonce m s n e = by (gone-rests m s) where
  by : RestsOrStays (way_in s.stage) (way_in (gone_alone m s).0.stage) → nonce_in (way_in s.stage) ≡ Some n
  by (inl rests) = absurd (let clash : None ≡ Some n = sym (ap nonce_in rests) ∙ e in cc)
  by (inr same) = sym (ap nonce_in same) ∙ e

outside-nonce : (to : SessionWay) (link : LaneLink) → nonce_in (way_outside lane_replies to link).0 ≡ nonce_in to
outside-nonce way.Resting link = refl
outside-nonce (way.Reading r) link = refl
outside-nonce (way.Ordered order) link = refl
outside-nonce (way.Writing w) link = refl
outside-nonce (way.Settling w) link = refl
outside-nonce (way.Holding passes) link = refl

settled-nonce : (to : SessionWay) → nonce_in (settled to) ≡ nonce_in to
settled-nonce way.Resting = refl
settled-nonce (way.Reading r) = refl
settled-nonce (way.Ordered order) = refl
settled-nonce (way.Writing w) = refl
settled-nonce (way.Settling w) = refl
settled-nonce (way.Holding passes) = refl

goes-nonce : (v : Visit ActionCall) (to : SessionWay) (windows : WindowsValue) → nonce_in (goes v to windows).0.way ≡ nonce_in to
goes-nonce v to windows = ap nonce_in (after-way (outcome_of (answer_held v.way)) (record v { way = to }))

windows-nonce : (v : Visit ActionCall) (windows : WindowsValue) (n : Version) → nonce_in (windows_step v windows).0.way ≡ Some n → nonce_in v.way ≡ Some n
unfolding windows_step
windows-nonce v windows n = by v.way refl where
  rests : nonce_in (goes v way.Resting windows).0.way ≡ Some n → nonce_in v.way ≡ Some n
  rests e = absurd (let clash : None ≡ Some n = sym (goes-nonce v way.Resting windows) ∙ e in cc)

  by : (x : SessionWay) → v.way ≡ x → nonce_in (windows_by v x windows).0.way ≡ Some n → nonce_in v.way ≡ Some n
  by way.Resting is e = e
  by (way.Reading r) is e = e
  by (way.Ordered order) is e = takes (nat_lt (open_count windows.facts) windows.wq) e where
    takes : (b : Bool) → nonce_in (if b then (record v { way = way.Resting; work = overloaded (full_facts windows.facts) v.work }, refused windows)
        else goes v (way.Writing (write_begun order windows.wq (passes_for order windows))) (taken windows (passes_for order windows))).0.way ≡ Some n → nonce_in v.way ≡ Some n
    takes true e = absurd (cc)
    takes false e =
        let begun : SessionWay = way.Writing (write_begun order windows.wq (passes_for order windows)) in
        ap nonce_in is ∙ (sym (goes-nonce v begun (taken windows (passes_for order windows))) ∙ e)
  by (way.Writing w) is e = e
  by (way.Settling w) is e = rests e
  by (way.Holding passes) is e = rests e

-- a step in the container orders the write that was owed
inside-nonce : (asks : ActionCall → List Answer → Next) (keeps : Bool) (v : Visit ActionCall) (c : ContainerValue) (n : Version) → nonce_in (inside_of asks keeps v v.work c).visit.way ≡ Some n → MayBegin v n
inside-nonce asks keeps v c n = by v.work refl where
  readied : (tries : TriesValue) (program : ActionCall) (holds : Holds) (place : Place) (again : Bool) (answered : Option DoneText) (value : Option (List ℕ)) → v.work ≡ ServingBy tries program
      → nonce_in (shown_so place again (ready_by v.facts answered value) (record v { holds = holds })).way ≡ Some n → MayBegin v n
  readied tries program holds place again answered None is e = inr e
  readied tries program holds place again answered (Some value) is e = inl (subst (λ (w : Work ActionCall). owed_by w v.way v.facts.write ≡ Some n) (sym is) e)

  left : (tries : TriesValue) (program : ActionCall) (holds : Holds) (answered : Option DoneText) (outcome : RequestOutcome) → v.work ≡ ServingBy tries program
      → nonce_in (left_so (closed_with (λ again. ready_of v.facts v.lease answered) outcome) (record v { holds = holds })).way ≡ Some n → MayBegin v n
  left tries program holds answered (ended.Page place again) is e =
      readied tries program holds place again answered (value_to_write (set_in answered) v.facts.now v.lease) is e
  left tries program holds answered (ended.Sentinel group down) is e = inr e
  left tries program holds answered (ended.Hung component fault path) is e = inr e
  left tries program holds answered (ended.Raised component fault path) is e = inr e
  left tries program holds answered (ended.Revoked made) is e = inr e
  left tries program holds answered (ended.Conflict made) is e = inr e
  left tries program holds answered (ended.JournalFull full) is e = inr e
  left tries program holds answered ended.KeeperFailed is e = inr e

  course : (tries : TriesValue) (program : ActionCall) (after : ContainerValue) (x : Course) → v.work ≡ ServingBy tries program → nonce_in (after_course v program after x).way ≡ Some n → MayBegin v n
  course tries program after (Goes more) is e = inr e
  course tries program after (Ends end) is e = left tries program (holds_of end) (done_of (events_of after) end) end.outcome is e

  by : (w : Work ActionCall) → v.work ≡ w → nonce_in (inside_of asks keeps v w c).visit.way ≡ Some n → MayBegin v n
  by Reading is e = inr e
  by Opening is e = inr e
  by (ServingBy tries program) is e =
      let s : Stride = stride (asks program) keeps c tries tries.attempt in course tries program s.container s.course is e
  by (Committed place again shown) is e = inr e
  by (Decided became) is e = inr e
  by (Answered fate bytes) is e = inr e
  by (Left fate) is e = inr e

-- the same of the request that is open, if one is
abbrev StageBegins : Stage ActionCall → Version → Type 0
StageBegins stage n = (write_owed stage ≡ Some n) ⊎ (nonce_in (way_in stage) ≡ Some n)

module _ (g : SeatGivens) (seat : Seat) (w : SeatWorld) where
  abbrev s : Shepherd ActionCall
  s = seat.connection

  abbrev E : ShepherdTurn → World ActionCall LaneLink
  E t = (event_at (givens_in g w) t (seen_by seat w)).0

  abbrev link : LaneLink
  link = record { lanes = w.store; active = seat.twin }

  abbrev seen : LinkCounts
  seen = counted (lane_link_tally link)

  abbrev none-yet : Counts
  none-yet = record { words = 0; serials = 0 }

  admitted-nonce : (o : Order) (head : Head) (n : Version) → (Drawn g w o).spent ≡ None
      → (let a : Admission = admission_of g.key (service_in g w).home o g.now (Drawn g w o).drawn in
      (cookie : Option Cookie) → o.cookie ≡ cookie → nonce_in (way_in (admitted_visit (facts_of a g.now s.front head) seen a cookie)) ≡ Some n
      → IsDrawnIn w (w.serial + (Drawn g w o).counts.serials) n)
  admitted-nonce o head n none None is e = absurd (cc)
  admitted-nonce o head n none (Some cookie) is e =
      let same : nonce_of (service_in g w).home Read (Drawn g w o).drawn ≡ n = cc in
      subst (IsDrawnIn w (w.serial + (Drawn g w o).counts.serials)) same (drawn-between g w o Read refl (read-in o cookie is) none)

  request-nonce : (n : Version) → nonce_in (way_in (E turns.Request).connection.stage) ≡ Some n → StageBegins s.stage n ⊎ IsDrawnIn w (w.serial + (E turns.Request).drawn.serials) n
  unfolding take_request
  request-nonce n = by (taken_of s.received) where
    spent : (o : Order) (head : Head) (x : Option ℕ) → (Drawn g w o).spent ≡ x
        → nonce_in (way_in (begun_by s.front seen head g.now (arrival_by g.key (service_in g w).home o g.now (Drawn g w o).drawn x))) ≡ Some n
        → IsDrawnIn w (w.serial + (Drawn g w o).counts.serials) n
    spent o head (Some serial) is e = absurd (cc)
    spent o head None is e = admitted-nonce o head n is o.cookie refl e

    decision : (head : Head) (d : Decision) → nonce_in (way_in (begun_by s.front seen head g.now (arrives_by (service_in g w) g.now d none-yet).0)) ≡ Some n
        → IsDrawnIn w (w.serial + (arrives_by (service_in g w) g.now d none-yet).1.serials) n
    decision head (decided.Refused why) e = absurd (cc)
    decision head (decided.Ordered o) e = spent o head (Drawn g w o).spent refl e

    by : (t : Taken) → nonce_in (way_in (takes_by (service_in g w) seen g.now t s none-yet).0.stage) ≡ Some n
        → StageBegins s.stage n ⊎ IsDrawnIn w (w.serial + (takes_by (service_in g w) seen g.now t s none-yet).1.serials) n
    by (took.Request head) e = inr (decision head ((service_in g w).decides head) e)
    by took.Bad e = absurd (cc)
    by (took.TooLong len lines) e = absurd (cc)
    by took.NoCoding e = absurd (cc)
    by (took.BodyTooLong said) e = absurd (cc)
    by took.More e = inl (inr e)

  event-nonce : (t : ShepherdTurn) (n : Version) → nonce_in (way_in (E t).connection.stage) ≡ Some n → StageBegins s.stage n ⊎ IsDrawnIn w (w.serial + (E t).drawn.serials) n
  unfolding outside inside output_of
  event-nonce turns.Bytes n e = inl (inr e)
  event-nonce turns.Request n e = request-nonce n e
  event-nonce turns.Outside n e = inl (inr (go s.stage e)) where
    go : (stage : Stage ActionCall) → nonce_in (way_in (steps_in (outside lane_replies lane_link_tally) stage link).0) ≡ Some n → nonce_in (way_in stage) ≡ Some n
    go Resting e = e
    go (Serving v call) e = sym (outside-nonce v.way link) ∙ e
    go (Refusing why bytes) e = e
    go (Over end) e = e
  event-nonce turns.Windows n e = inl (inr (go s.stage e)) where
    go : (stage : Stage ActionCall) → nonce_in (way_in (steps_in windows_step stage w.store.windows).0) ≡ Some n → nonce_in (way_in stage) ≡ Some n
    go Resting e = e
    go (Serving v call) e = windows-nonce v w.store.windows n e
    go (Refusing why bytes) e = e
    go (Over end) e = e
  event-nonce turns.Inside n e = inl (go s.stage e) where
    go : (stage : Stage ActionCall) → nonce_in (way_in (steps_in (step_inside steps_of g.keeps) stage (w.boot, w.since)).0) ≡ Some n → StageBegins stage n
    go Resting e = inr e
    go (Serving v call) e = inside-nonce steps_of g.keeps v (untold w.boot w.since) n e
    go (Refusing why bytes) e = inr e
    go (Over end) e = inr e
  event-nonce turns.Program n e = inl (inr e)
  event-nonce turns.Own n e = inl (inr e)
  event-nonce turns.Output n e = inl (inr (go s.stage e)) where
    go : (stage : Stage ActionCall) → nonce_in (way_in (output_of stage).1) ≡ Some n → nonce_in (way_in stage) ≡ Some n
    go Resting e = e
    go (Serving v call) e = sym (settled-nonce v.way) ∙ e
    go (Refusing why bytes) e = absurd (cc)
    go (Over end) e = e
  event-nonce turns.Item n e = inl (inr e)
  event-nonce (turns.Ended end) n e = inl (inr e)

  step-nonce : (n : Version) → nonce_in (way_in (seat_step g seat w).seat.connection.stage) ≡ Some n → StageBegins s.stage n ⊎ IsDrawnIn w (seat_step g seat w).world.serial n
  unfolding seat_step step
  step-nonce n e = event-nonce (turn s) n (gone-nonce (making_by g) (E (turn s)).connection n e)

  abbrev Was : Version → Type 0
  Was = WasDrawn w.boot.start.boot (seat_step g seat w).world.serial

  earlier : (n : Version) → WasDrawn w.boot.start.boot w.serial n → Was n
  earlier n was = let below : n.serial < w.serial = was.1 in let rises = serial-rises g seat w in (was.0, omega (arith, below, rises))

  now : (n : Version) → IsDrawnIn w (seat_step g seat w).world.serial n → Was n
  now n drawn = (drawn.boot, drawn.below)

  -- Behind its step a seat needs only nonces that were drawn.
  pub step-drew : SeatHasDrawn w.boot.start.boot w.serial seat → SeatHasDrawn w.boot.start.boot (seat_step g seat w).world.serial (seat_step g seat w).seat
  step-drew has = record {
    owed = if-there Was (write_owed (seat_step g seat w).seat.connection.stage) (λ n e. owed n (step-owes g seat w n e));
    held = if-there Was (nonce_in (way_in (seat_step g seat w).seat.connection.stage)) (λ n e. held n (step-nonce n e));
  } where
    owed : (n : Version) → (write_owed s.stage ≡ Some n) ⊎ IsDrawnIn w (seat_step g seat w).world.serial n → Was n
    owed n (inl e) = earlier n (there-if (WasDrawn w.boot.start.boot w.serial) (write_owed s.stage) n e has.owed)
    owed n (inr drawn) = now n drawn

    held : (n : Version) → StageBegins s.stage n ⊎ IsDrawnIn w (seat_step g seat w).world.serial n → Was n
    held n (inl (inl e)) = earlier n (there-if (WasDrawn w.boot.start.boot w.serial) (write_owed s.stage) n e has.owed)
    held n (inl (inr e)) = earlier n (there-if (WasDrawn w.boot.start.boot w.serial) (nonce_in (way_in s.stage)) n e has.held)
    held n (inr drawn) = now n drawn

-- steps of which this is so of each nonce with which one begins

module _ (So : Version → Type 0) where
  calls-on : (b : Bool) (active : Option ℕ) (brick : ℕ) (rest : List LentStep) → All (BeginsSo So) rest → All (BeginsSo So) (turn_or_silence b active brick ++ rest)
  calls-on true None brick rest all = all
  calls-on true (Some call) brick rest all = All-cons (BeginsSo So) (TakesTurn call) rest tt all
  calls-on false active brick rest all = All-cons (BeginsSo So) (HearsNone brick) rest tt all

  wanted-on : (over : LaneLink) (ask : List ℕ) (x : StubNext) (rest : List LentStep) → All (BeginsSo So) rest → All (BeginsSo So) (wanted_steps over ask x ++ rest)
  wanted-on over ask (next.Send brick) rest all = calls-on (wants_to_send over brick ask) over.active brick.0 rest all
  wanted-on over ask (next.Receive brick) rest all = calls-on (wants_to_hear over brick) over.active brick.0 rest all
  wanted-on over ask next.Ended rest all = all

  outside-on : (to : SessionWay) (over : LaneLink) (rest : List LentStep) → All (BeginsSo So) rest → All (BeginsSo So) (outside_steps to over ++ rest)
  outside-on way.Resting over rest all = all
  outside-on (way.Reading r) over rest all = wanted-on over (encode_of (read_ask r)) (read_machine.next r) rest all
  outside-on (way.Ordered order) over rest all = all
  outside-on (way.Writing w) over rest all = wanted-on over (encode_of w.write.ask) (write_machine.next w.write) rest all
  outside-on (way.Settling w) over rest all = wanted-on over (encode_of w.write.ask) (write_machine.next w.write) rest all
  outside-on (way.Holding passes) over rest all = all

  windows-on : (to : SessionWay) (rest : List LentStep) → All (BeginsSo So) rest → All (BeginsSo So) (window_steps to ++ rest)
  windows-on way.Resting rest all = all
  windows-on (way.Reading r) rest all = all
  windows-on (way.Ordered order) rest all = All-cons (BeginsSo So) (CallsWindows (Take order.nonce.serial)) rest tt all
  windows-on (way.Writing w) rest all = all
  windows-on (way.Settling w) rest all = All-cons (BeginsSo So) (CallsWindows (Spend (passes_spent w))) rest tt all
  windows-on (way.Holding passes) rest all = All-cons (BeginsSo So) (CallsWindows (Spend (map hushed passes))) rest tt all

  pub turn-on : (t : ShepherdTurn) (to : SessionWay) (over : LaneLink) (rest : List LentStep) → All (BeginsSo So) rest → All (BeginsSo So) (turn_steps t to over ++ rest)
  turn-on turns.Bytes to over rest all = all
  turn-on turns.Request to over rest all = all
  turn-on turns.Outside to over rest all = outside-on to over rest all
  turn-on turns.Windows to over rest all = windows-on to rest all
  turn-on turns.Inside to over rest all = all
  turn-on turns.Program to over rest all = all
  turn-on turns.Own to over rest all = all
  turn-on turns.Output to over rest all = all
  turn-on turns.Item to over rest all = all
  turn-on (turns.Ended end) to over rest all = all

  pub one-begins : (step : LentStep) → BeginsSo So step → All (BeginsSo So) (step ∷ [])
  one-begins step so = All-cons (BeginsSo So) step [] so (All-nil (BeginsSo So))

  abbrev pub begin-of : WritingState → LentStep
  begin-of w = BeginsWrite w.write.nonce w.write.key (value_put w.write.ask) w.write.expiry w.passes

  begins-on : (o : Option Call) (twin : Option ℕ) (to : SessionWay) → IfSome (nonce_in to) So → All (BeginsSo So) (begin_steps o twin to)
  begins-on None twin to so = All-nil (BeginsSo So)
  begins-on (Some held) None way.Resting so = All-nil (BeginsSo So)
  begins-on (Some held) None (way.Reading r) so = one-begins (BeginsRead r.nonce r.moment (cookie_asked r)) so
  begins-on (Some held) None (way.Ordered order) so = All-nil (BeginsSo So)
  begins-on (Some held) None (way.Writing w) so = one-begins (begin-of w) so
  begins-on (Some held) None (way.Settling w) so = one-begins (begin-of w) so
  begins-on (Some held) None (way.Holding passes) so = All-nil (BeginsSo So)
  begins-on (Some held) (Some number) to so = All-nil (BeginsSo So)

-- Each read or write that begins in a step has a nonce that was drawn.
pub step-begun : (g : SeatGivens) (seat : Seat) (w : SeatWorld) → SeatHasDrawn w.boot.start.boot w.serial seat
    → All (BeginsSo (WasDrawn w.boot.start.boot (seat_step g seat w).world.serial)) (lent_steps g seat w)
unfolding lent_steps
step-begun g seat w has =
    let So : Version → Type 0 = WasDrawn w.boot.start.boot (seat_step g seat w).world.serial in
    let after : SessionWay = way_in (seat_step g seat w).seat.connection.stage in
    turn-on So (turn seat.connection) (way_in seat.connection.stage) (record { lanes = w.store; active = seat.twin }) (begin_steps (call_held after) seat.twin after)
    (begins-on So (call_held after) seat.twin after (step-drew g seat w has).held)

-- where more was drawn

later-was : (boot old new : ℕ) (n : Version) → old ≤ new → WasDrawn boot old n → WasDrawn boot new n
later-was boot old new n more was = let below : n.serial < old = was.1 in (was.0, omega (arith, below, more))

later-if : (boot old new : ℕ) (o : Option Version) → old ≤ new → IfSome o (WasDrawn boot old) → IfSome o (WasDrawn boot new)
later-if boot old new None more so = tt
later-if boot old new (Some n) more so = later-was boot old new n more so

pub drew-meanwhile : (boot old new : ℕ) (seat : Seat) → old ≤ new → SeatHasDrawn boot old seat → SeatHasDrawn boot new seat
drew-meanwhile boot old new seat more has = record {
  owed = later-if boot old new (write_owed seat.connection.stage) more has.owed;
  held = later-if boot old new (nonce_in (way_in seat.connection.stage)) more has.held;
}

pub drew-still : (boot serial : ℕ) (seat new : Seat) → new.connection.stage ≡ seat.connection.stage → SeatHasDrawn boot serial seat → SeatHasDrawn boot serial new
drew-still boot serial seat new same has = record {
  owed = subst (λ (stage : Stage ActionCall). IfSome (write_owed stage) (WasDrawn boot serial)) (sym same) has.owed;
  held = subst (λ (stage : Stage ActionCall). IfSome (nonce_in (way_in stage)) (WasDrawn boot serial)) (sym same) has.held;
}

later-step : (boot old new : ℕ) (step : LentStep) → old ≤ new → BeginsSo (WasDrawn boot old) step → BeginsSo (WasDrawn boot new) step
later-step boot old new (BeginsRead nonce now cookie) more so = later-was boot old new nonce more so
later-step boot old new (BeginsWrite nonce key value expiry passes) more so = later-was boot old new nonce more so
later-step boot old new (TakesTurn call) more so = tt
later-step boot old new (CallsWindows call) more so = tt
later-step boot old new (HearsNone brick) more so = tt

pub begun-later : (boot old new : ℕ) (steps : List LentStep) → old ≤ new → All (BeginsSo (WasDrawn boot old)) steps → All (BeginsSo (WasDrawn boot new)) steps
begun-later boot old new steps more all = All-weaker (BeginsSo (WasDrawn boot old)) (BeginsSo (WasDrawn boot new)) (λ step so. later-step boot old new step more so) steps all
