-- What any step of a seat leaves of the bricks is what its steps of them leave.
use Rattle.std.proofs.Common.{◌≡◌, ◌∙◌, ◌+◌, ◌-◌, ◌≤◌, ◌%◌, ◌^◌, ℕ, suc, Bool, true, false, nat_lt, if◌then◌else◌, List, [], ◌∷◌, length, Option, Some, None, refl, sym, ap, arith}
use Rattle.std.specs.Prelude.{slice_get}
use Rattle.std.proofs.lemmas.Bool.Decides.{nat_tests}
use Rattle.auction_calls.specs.declared.action.ActionCall.{ActionCall}
use Rattle.auction_site.specs.Actions.{steps_of}
use Rattle.boot_core.specs.declared.refusals.CommitRefusal.{CommitRefusal}
use Rattle.call_attempts.proofs.UnderWay.{boot_grows}
use Rattle.call_attempts.specs.Attempt.{AttemptValue, stop_of_attempt, wanted}
use Rattle.call_attempts.specs.declared.attempt.Stepped.{Stepped}
use Rattle.call_attempts.specs.declared.attempt.Stepped.TheVariants as coming
use Rattle.call_ticket.specs.declared.next.Answer.{Answer}
use Rattle.call_ticket.specs.declared.next.Next.{Next}
use Rattle.container_core.specs.Container.{ContainerValue}
use Rattle.crash_base.specs.declared.numbers.BrickNo.{BrickNo}
use Rattle.journal_model.specs.declared.entry.DoneText.{DoneText}
use Rattle.http_wire.specs.Taking.{taken_of}
use Rattle.http_wire.specs.declared.taken.Taken.{Taken}
use Rattle.http_wire.specs.declared.taken.Taken.TheVariants as took
use Rattle.lane_link.specs.Links.{lane_link_tally, turned, turned_by, unwanted, wants_to_hear, wants_to_send}
use Rattle.lane_link.specs.Twins.{call_held}
use Rattle.lane_link.specs.declared.link.LaneLink.{LaneLink}
use Rattle.request_visit.specs.declared.visit.Work.{Work}
use Rattle.request_visit.specs.declared.visit.Work.TheVariants.{Reading, Opening, Serving as ServingBy, Committed, Decided, Answered, Left}
use Rattle.outside.specs.declared.serials.TheConstants.{SERIALS_END}
use Rattle.request_decisions.specs.Draws.{drawn_for, is_serial}
use Rattle.request_decisions.specs.declared.decision.Decision.{Decision}
use Rattle.request_decisions.specs.declared.decision.Decision.TheVariants as decided
use Rattle.request_decisions.specs.declared.draws.DrawKind.{DrawKind}
use Rattle.request_tries.specs.Serving.{TriesValue}
use Rattle.request_visit.specs.Stepping.{counted}
use Rattle.request_tries.specs.Steps.{refusal_of}
use Rattle.request_visit.specs.declared.visit.Visit.{Visit}
use Rattle.send_windows.specs.Windows.{WindowsValue}
use Rattle.session_lanes.specs.Lane.{LaneState, lane_at, with_reply}
use Rattle.session_lanes.specs.Lanes.{LanesState, after_event, asks, hears, listens, turn_of, turn_to, with_lane}
use Rattle.session_steps.specs.Lent.{after_lent}
use Rattle.session_way.specs.declared.way.SessionWay.{SessionWay}
use Rattle.session_way.specs.declared.way.SessionWay.TheVariants as way
use Rattle.shepherd.specs.Shepherds.{turn}
use Rattle.shepherd.specs.declared.shepherd.Shepherd.{Shepherd}
use Rattle.shepherd.specs.declared.shepherd.ShepherdTurn.{ShepherdTurn}
use Rattle.shepherd.specs.declared.shepherd.ShepherdTurn.TheVariants as turns
use Rattle.shepherd.specs.declared.shepherd.Stage.{Stage}
use Rattle.shepherd.specs.declared.shepherd.Stage.TheVariants.{Resting, Serving, Refusing, Over}
use Rattle.shepherd_steps.specs.Inside.{came_by, commits_by, inside, inside_of, stride, stride_by, untold, with_keeper}
use Rattle.shepherd_steps.specs.Outside.{heard_over, outside, way_outside}
use Rattle.shepherd_steps.specs.Passes.{windows_step}
use Rattle.shepherd_steps.specs.Stepping.{World, event_at, step, step_inside, steps_in}
use Rattle.shepherd_steps.specs.Taking.{Counts, arrives_by, behind, draws, take_request, takes_by}
use Rattle.ssm_frames.specs.Spelling.{encode_of}
use Rattle.ssm_stub.specs.Reads.{read_ask, read_machine}
use Rattle.ssm_stub.specs.Writes.{write_machine}
use Rattle.ssm_stub.specs.declared.event.StubNext.{StubNext}
use Rattle.ssm_stub.specs.declared.event.StubNext.TheVariants as next
use Rattle.ssm_world.specs.Worlds.{next_of}
use Rattle.ssm_world.specs.declared.call.Call.{Call}
use Rattle.ssm_world.specs.declared.event.WorldEvent.TheVariants.{Send, Deliver}
use Rattle.seat_steps.proofs.Begins.{twin-begins}
use Rattle.seat_steps.specs.Begins.{begin_steps}
use Rattle.seat_steps.specs.Replies.{lane_replies}
use Rattle.seat_steps.specs.Seats.{SeatGivens, SeatWorld, givens_in, numbers_from, seat_step, seen_by, service_in}
use Rattle.seat_steps.specs.Twinned.{way_in}
use Rattle.seat_steps.specs.declared.seat.Seat.{Seat}
use Rattle.seat_laws.specs.Lending.{window_steps}
use Rattle.seat_laws.specs.LentSteps.{lent_steps, outside_steps, turn_or_silence, turn_steps, wanted_steps}
use Rattle.seat_laws.proofs.Lends.{lent-on, windows-lent}

-- a turn of a call leaves the windows
turn-windows : (st : LanesState) (n : ℕ) (o : Option Call) → (turn_of st n o).windows ≡ st.windows
turn-windows st n None = refl
turn-windows st n (Some c) = to (next_of c) where
  sent : (brick : BrickNo) (lane : LaneState) (b : Bool) → (if b
      then with_lane (after_event st (Send n false true)) brick.0 (record lane { to_drop = lane.to_drop - 1 })
      else with_lane (after_event (after_event st (Send n false true)) (Deliver (length st.world.packets))) brick.0 (with_reply (length st.world.packets + 1) lane)).windows ≡ st.windows
  sent brick lane true = refl
  sent brick lane false = refl

  sends : (brick : BrickNo) (lane : Option LaneState) → (asks st n brick lane).windows ≡ st.windows
  sends brick None = refl
  sends brick (Some lane) = sent brick lane (nat_lt 0 lane.to_drop)

  heard : (brick : BrickNo) (lane : LaneState) (queue : List ℕ) → (hears st n brick lane queue).windows ≡ st.windows
  heard brick lane [] = refl
  heard brick lane (packet ∷ rest) = refl

  listened : (brick : BrickNo) (lane : Option LaneState) → (listens st n brick lane).windows ≡ st.windows
  listened brick None = refl
  listened brick (Some lane) = heard brick lane lane.queue

  to : (x : StubNext) → (turn_to st n x).windows ≡ st.windows
  to (next.Send brick) = sends brick (lane_at st.lanes brick.0)
  to (next.Receive brick) = listened brick (lane_at st.lanes brick.0)
  to next.Ended = refl

module _ (st : LanesState) (twin : Option ℕ) where
  abbrev link : LaneLink
  link = record { lanes = st; active = twin }

  abbrev Back : LaneLink → LanesState
  Back l = record (l.lanes) { windows = st.windows }

  turned-back : (brick : ℕ) (o : Option ℕ) → (let l : LanesState = record (turned_by st o) { windows = st.windows } in l) ≡ after_lent st (turn_or_silence true o brick)
  turned-back brick None = refl
  turned-back brick (Some n) =
      let after : LanesState = turn_of st n (slice_get st.world.calls n) in
      ap (λ (x : WindowsValue). let l : LanesState = record after { windows = x } in l) (sym (turn-windows st n (slice_get st.world.calls n)))

  called-lent : (brick : BrickNo) (b : Bool) → Back (if b then turned link else unwanted link brick) ≡ after_lent st (turn_or_silence b twin brick.0)
  called-lent brick true = turned-back brick.0 twin
  called-lent brick false = refl

  wanted-lent : (ask : List ℕ) (x : StubNext) → Back (heard_over lane_replies ask x link).1 ≡ after_lent st (wanted_steps link ask x)
  unfolding lane_replies
  wanted-lent ask (next.Send brick) = called-lent brick (wants_to_send link brick ask)
  wanted-lent ask (next.Receive brick) = called-lent brick (wants_to_hear link brick)
  wanted-lent ask next.Ended = refl

  way-lent : (to : SessionWay) → Back (way_outside lane_replies to link).1 ≡ after_lent st (outside_steps to link)
  way-lent way.Resting = refl
  way-lent (way.Reading r) = wanted-lent (encode_of (read_ask r)) (read_machine.next r)
  way-lent (way.Ordered order) = refl
  way-lent (way.Writing w) = wanted-lent (encode_of w.write.ask) (write_machine.next w.write)
  way-lent (way.Settling w) = wanted-lent (encode_of w.write.ask) (write_machine.next w.write)
  way-lent (way.Holding passes) = refl

  stage-lent : (stage : Stage ActionCall) → Back (steps_in (outside lane_replies lane_link_tally) stage link).1 ≡ after_lent st (outside_steps (way_in stage) link)
  unfolding outside
  stage-lent Resting = refl
  stage-lent (Serving v call) = way-lent v.way
  stage-lent (Refusing why bytes) = refl
  stage-lent (Over end) = refl

stage-windows : (st : LanesState) (stage : Stage ActionCall) → (let l : LanesState = record st { windows = (steps_in windows_step stage st.windows).1 } in l) ≡ after_lent st (window_steps (way_in stage))
unfolding windows_step
stage-windows st Resting = refl
stage-windows st (Serving v call) = windows-lent v v.way st
stage-windows st (Refusing why bytes) = refl
stage-windows st (Over end) = refl

at-least : (a b : ℕ) → a ≤ a + b
at-least a b = omega arith

-- a step in the container leaves the start of the boot
stride-start : (program : List Answer → Next) (keeps : Bool) (c : ContainerValue) (s : TriesValue) (o : Option AttemptValue) → (stride program keeps c s o).container.boot.start ≡ c.boot.start
stride-start program keeps c s None = refl
stride-start program keeps c s (Some a) = by (came_by (wanted program a) (stop_of_attempt c.boot program a)) where
  commits : (done : DoneText) (refusal : Option CommitRefusal) → (commits_by c s a done refusal).container.boot.start ≡ c.boot.start
  commits done None = refl
  commits done (Some refusal) = refl

  by : (x : Stepped) → (stride_by program keeps c s a x).container.boot.start ≡ c.boot.start
  by coming.Went = (boot_grows c.boot (wanted program a)).start
  by (coming.Done done) = commits done (with_keeper (refusal_of c s a done) a.ticket.call.writes keeps)
  by (coming.Stopped stop) = refl

under : (a b : ℕ) → nat_lt a b ≡ true → suc a ≤ b
under a b is = grind (arith, nat_tests, is)

none-more : (a limit : ℕ) → a ≤ limit → a + 0 ≤ limit
none-more a limit below = omega (arith, below)

-- no serial is drawn past a limit that is not before their end
draws-end : (limit word serial : ℕ) → SERIALS_END ≤ limit → (kinds : List DrawKind) (counts : Counts) → serial + counts.serials ≤ limit → serial + (draws (numbers_from word serial) kinds counts).counts.serials ≤ limit
draws-end limit word serial end [] counts below = below
draws-end limit word serial end (kind ∷ kinds) counts below =
    by (λ more. draws-end limit word serial end kinds (record counts { serials = suc counts.serials }) more) (draws-end limit word serial end kinds (record counts { words = suc counts.words }) below)
    (is_serial kind) (nat_lt (serial + counts.serials) SERIALS_END) refl
  where
    by : (serial + suc counts.serials ≤ limit → serial + (draws (numbers_from word serial) kinds (record counts { serials = suc counts.serials })).counts.serials ≤ limit)
        → serial + (draws (numbers_from word serial) kinds (record counts { words = suc counts.words })).counts.serials ≤ limit
        → (b c : Bool) → nat_lt (serial + counts.serials) SERIALS_END ≡ c → serial + (if b then (if c
        then behind (record { kind = kind; number = serial + counts.serials }) (draws (numbers_from word serial) kinds (record counts { serials = suc counts.serials }))
        else record { drawn = []; spent = Some (serial + counts.serials); counts = counts })
        else behind (record { kind = kind; number = (word + counts.words) % (2 ^ 64) }) (draws (numbers_from word serial) kinds (record counts { words = suc counts.words }))).counts.serials ≤ limit
    by one other true true is = one (let less : suc (serial + counts.serials) ≤ SERIALS_END = under (serial + counts.serials) SERIALS_END is in omega (arith, less, end))
    by one other true false is = below
    by one other false c is = other

module _ (g : SeatGivens) (seat : Seat) (w : SeatWorld) where
  abbrev s : Shepherd ActionCall
  s = seat.connection

  abbrev link-of : LaneLink
  link-of = record { lanes = w.store; active = seat.twin }

  abbrev E : ShepherdTurn → World ActionCall LaneLink
  E t = (event_at (givens_in g w) t (seen_by seat w)).0

  abbrev Mid : World ActionCall LaneLink → LanesState
  Mid e = record (e.link.lanes) { windows = e.windows }

  event-lent : (t : ShepherdTurn) → Mid (E t) ≡ after_lent w.store (turn_steps t (way_in s.stage) link-of)
  event-lent turns.Bytes = refl
  event-lent turns.Request = refl
  event-lent turns.Outside = stage-lent w.store seat.twin s.stage
  event-lent turns.Windows = stage-windows w.store s.stage
  event-lent turns.Inside = refl
  event-lent turns.Program = refl
  event-lent turns.Own = refl
  event-lent turns.Output = refl
  event-lent turns.Item = refl
  event-lent (turns.Ended end) = refl

  -- The bricks behind any step of a seat are those behind what it does with them.
  pub step-lends : (seat_step g seat w).world.store ≡ after_lent w.store (lent_steps g seat w)
  unfolding seat_step step lent_steps
  step-lends =
      let end : SessionWay = way_in (seat_step g seat w).seat.connection.stage in
      let mid : LanesState = Mid (E (turn s)) in
      twin-begins (call_held end) seat.twin end mid
      ∙ (ap (λ (l : LanesState). after_lent l (begin_steps (call_held end) seat.twin end)) (event-lent (turn s))
      ∙ sym (lent-on (turn_steps (turn s) (way_in s.stage) link-of) w.store (begin_steps (call_held end) seat.twin end)))

  pub serial-rises : w.serial ≤ (seat_step g seat w).world.serial
  unfolding seat_step step
  serial-rises = at-least w.serial (E (turn s)).drawn.serials

  event-start : (t : ShepherdTurn) → (E t).boot.start ≡ w.boot.start
  unfolding inside
  event-start turns.Bytes = refl
  event-start turns.Request = refl
  event-start turns.Outside = refl
  event-start turns.Windows = refl
  event-start turns.Inside = go s.stage where
    of : (v : Visit ActionCall) (x : Work ActionCall) → (inside_of steps_of g.keeps v x (untold w.boot w.since)).boot.start ≡ w.boot.start
    of v Reading = refl
    of v Opening = refl
    of v (ServingBy tries program) = stride-start (steps_of program) g.keeps (untold w.boot w.since) tries tries.attempt
    of v (Committed place again shown) = refl
    of v (Decided became) = refl
    of v (Answered fate bytes) = refl
    of v (Left fate) = refl

    go : (stage : Stage ActionCall) → (steps_in (step_inside steps_of g.keeps) stage (w.boot, w.since)).1.0.start ≡ w.boot.start
    go Resting = refl
    go (Serving v call) = of v v.work
    go (Refusing why bytes) = refl
    go (Over end) = refl
  event-start turns.Program = refl
  event-start turns.Own = refl
  event-start turns.Output = refl
  event-start turns.Item = refl
  event-start (turns.Ended end) = refl

  -- The boot stays the one that began.
  pub start-stays : (seat_step g seat w).world.boot.start ≡ w.boot.start
  unfolding seat_step step
  start-stays = event-start (turn s)

  -- No serial is drawn past a limit that is not before their end.
  event-end : (limit : ℕ) → SERIALS_END ≤ limit → w.serial ≤ limit → (t : ShepherdTurn) → w.serial + (E t).drawn.serials ≤ limit
  unfolding take_request
  event-end limit end below turns.Bytes = none-more w.serial limit below
  event-end limit end below turns.Request = by (taken_of s.received) where
    none-yet : w.serial + 0 ≤ limit
    none-yet = none-more w.serial limit below

    decision : (d : Decision) → w.serial + (arrives_by (service_in g w) g.now d (record { words = 0; serials = 0 })).1.serials ≤ limit
    decision (decided.Refused why) = none-yet
    decision (decided.Ordered o) = draws-end limit w.word w.serial end (drawn_for o) (record { words = 0; serials = 0 }) none-yet

    by : (t : Taken) → w.serial + (takes_by (service_in g w) (counted (lane_link_tally link-of)) g.now t s (record { words = 0; serials = 0 })).1.serials ≤ limit
    by (took.Request head) = decision ((service_in g w).decides head)
    by took.Bad = none-yet
    by (took.TooLong len lines) = none-yet
    by took.NoCoding = none-yet
    by (took.BodyTooLong said) = none-yet
    by took.More = none-yet
  event-end limit end below turns.Outside = none-more w.serial limit below
  event-end limit end below turns.Windows = none-more w.serial limit below
  event-end limit end below turns.Inside = none-more w.serial limit below
  event-end limit end below turns.Program = none-more w.serial limit below
  event-end limit end below turns.Own = none-more w.serial limit below
  event-end limit end below turns.Output = none-more w.serial limit below
  event-end limit end below turns.Item = none-more w.serial limit below
  event-end limit end below (turns.Ended over) = none-more w.serial limit below

  pub serials-end : (limit : ℕ) → SERIALS_END ≤ limit → w.serial ≤ limit → (seat_step g seat w).world.serial ≤ limit
  unfolding seat_step step
  serials-end limit end below = event-end limit end below (turn s)
