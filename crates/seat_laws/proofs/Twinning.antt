-- What the event of a seat does with its lanes and with its twin.
use Rattle.std.proofs.Common.{◌≡◌, ◌⊎◌, inl, inr, ◌∙◌, ℕ, ◌≤◌, ◌==◌, Bool, true, false, nat_lt, if◌then◌else◌, List, [], ◌∷◌, map, length, Option, Some, None, refl, sym, ap, subst, arith}
use Rattle.std.proofs.lemmas.Bool.Decides.{nat_tests}
use Rattle.auction_calls.specs.declared.action.ActionCall.{ActionCall}
use Rattle.auction_site.specs.Actions.{steps_of}
use Rattle.crash_base.specs.declared.numbers.Moment.{Moment}
use Rattle.crash_base.specs.declared.numbers.Version.{Version}
use Rattle.http_wire.specs.Taking.{settles, taken_of}
use Rattle.http_wire.specs.declared.taken.Head.{Head}
use Rattle.http_wire.specs.declared.taken.Taken.{Taken}
use Rattle.http_wire.specs.declared.taken.Taken.TheVariants as took
use Rattle.lane_link.specs.Links.{LaneLinkMakes, lane_link_tally}
use Rattle.lane_link.specs.Twins.{IsTwin, TurnsTwin, call_held}
use Rattle.lane_link.specs.declared.link.LaneLink.{LaneLink}
use Rattle.outside.specs.declared.link.LinkCounts.{LinkCounts}
use Rattle.request_decisions.specs.declared.decision.Decision.{Decision}
use Rattle.request_decisions.specs.declared.decision.Decision.TheVariants as decided
use Rattle.request_decisions.specs.Draws.{drawn_for}
use Rattle.request_intake.specs.Intakes.{admission_of}
use Rattle.request_intake.specs.declared.intake.Admission.{Admission}
use Rattle.request_visit.specs.Stepping.{counted}
use Rattle.request_visit.specs.Visits.{after_outcome, overloaded, turn as visit_turn, turn_by as visit_turn_by}
use Rattle.request_visit.specs.declared.facts.VisitFacts.{VisitFacts}
use Rattle.request_visit.specs.declared.visit.Turn.{Turn}
use Rattle.request_visit.specs.declared.visit.Turn.TheVariants as visit
use Rattle.request_visit.specs.declared.visit.Visit.{Visit}
use Rattle.request_visit.specs.declared.visit.Work.{Work}
use Rattle.request_visit.specs.declared.visit.Work.TheVariants.{Reading, Opening, Serving as ServingBy, Committed, Decided, Answered, Left}
use Rattle.send_windows.specs.Calls.{Spend, Take, WindowCall, after_call}
use Rattle.send_windows.specs.Facts.{full_facts, open_count}
use Rattle.send_windows.specs.Passes.{hushed}
use Rattle.send_windows.specs.Windows.{AreTaken, KeepLimits, WindowsValue, after_spend, chosen, refused, taken}
use Rattle.send_windows.specs.declared.pass.Pass.{Pass}
use Rattle.session_cookie.specs.Cookie.{AreHolders}
use Rattle.session_cookie.specs.declared.cookie.Cookie.{Cookie}
use Rattle.session_cookie.specs.declared.cookie.TheConstants.{MAX_HOLDERS}
use Rattle.session_lanes.specs.Lanes.{LanesState}
use Rattle.session_lanes.specs.Sound.{LanesAreSound}
use Rattle.session_lanes.specs.Steps.{TakesTurn}
use Rattle.session_way.specs.Way.{StepsOutside, answer_held, passes_for, settled, wants}
use Rattle.session_way.specs.Writing.{WritingState, passes_spent, write_begun}
use Rattle.session_way.specs.declared.session_write.WriteOrder.{WriteOrder}
use Rattle.session_way.specs.declared.session_write.WriteOutcome.{WriteOutcome}
use Rattle.session_way.specs.declared.session_write.WriteOutcome.TheVariants as outcome
use Rattle.session_way.specs.declared.way.SessionWay.{SessionWay}
use Rattle.session_way.specs.declared.way.SessionWay.TheVariants as way
use Rattle.session_way.specs.declared.way.Wants.{Wants}
use Rattle.session_way.specs.declared.way.Wants.TheVariants as wanted
use Rattle.shepherd.specs.Shepherds.{resting_turn, stage_turn, turn, turn_by}
use Rattle.shepherd.specs.Steps.{admitted_visit, begun_by, facts_of}
use Rattle.shepherd.specs.declared.shepherd.EndKind.TheVariants as ends
use Rattle.shepherd.specs.declared.shepherd.Shepherd.{Shepherd}
use Rattle.shepherd.specs.declared.shepherd.ShepherdTurn.{ShepherdTurn}
use Rattle.shepherd.specs.declared.shepherd.ShepherdTurn.TheVariants as turns
use Rattle.shepherd.specs.declared.shepherd.Stage.{Stage}
use Rattle.shepherd.specs.declared.shepherd.Stage.TheVariants.{Resting, Serving, Refusing, Over}
use Rattle.shepherd_steps.specs.Inside.{inside, untold}
use Rattle.shepherd_steps.specs.Leaving.{output_of}
use Rattle.shepherd_steps.specs.Outside.{outside, way_outside}
use Rattle.shepherd_steps.specs.Passes.{goes, outcome_of, windows_by, windows_step}
use Rattle.shepherd_steps.specs.Stepping.{World, event_at, step_inside, steps_in}
use Rattle.shepherd_steps.specs.Taking.{Counts, Service, arrival_by, arrives_by, draws, take_request, takes_by}
use Rattle.ssm_stub.specs.Reads.{ReadState, read_start}
use Rattle.seat_steps.specs.Replies.{HearsSpelled, SeatHears, lane_replies}
use Rattle.seat_steps.specs.Seats.{SeatGivens, SeatWorld, givens_in, seen_by, service_in}
use Rattle.seat_steps.specs.Twinned.{way_in}
use Rattle.seat_steps.specs.declared.seat.Seat.{Seat}
use Rattle.seat_laws.specs.Standing.{HasTwin, SeatStands}
use Rattle.seat_laws.proofs.Alone.{Stays, inside-stays}
use Rattle.seat_laws.proofs.Asking.{AskLaws, asked-holders}
use Rattle.seat_laws.proofs.Hearing.{outside-holds, way-steps}
use Rattle.seat_laws.proofs.Moving.{Moves, OwnTurns, on-world, rests-moves}

-- A read may begin in these lanes that began so: by a cookie of 1 to 16 distinct bricks.
pub record ReadBegins (r : ReadState) : Type 0 where
  pub now : Moment
  pub nonce : Version
  pub cookie : Cookie
  pub is : r ≡ read_start now nonce cookie
  pub holders : AreHolders cookie.bricks

-- So may a write, by passes that the windows of the lanes gave.
pub record WriteBegins (st : LanesState) (w : WritingState) : Type 0 where
  pub order : WriteOrder
  pub passes : List Pass
  pub most : ℕ
  pub is : w ≡ write_begun order st.windows.wq passes
  pub some : 1 ≤ st.windows.wq
  pub few : most ≤ MAX_HOLDERS
  pub lawful : AreTaken st.windows.wq most passes

-- what a way holds may begin in these lanes
abbrev pub MayBegin : LanesState → SessionWay → Type 0
MayBegin st way.Resting = ⊥
MayBegin st (way.Reading r) = ReadBegins r
MayBegin st (way.Ordered order) = ⊥
MayBegin st (way.Writing w) = WriteBegins st w
MayBegin st (way.Settling w) = ⊥
MayBegin st (way.Holding passes) = ⊥

-- a way holds nothing, or has its twin, or what it holds may begin
abbrev pub Twinnable : SessionWay → Option ℕ → LanesState → Type 0
Twinnable to None st = (call_held to ≡ None) ⊎ MayBegin st to
Twinnable to (Some n) st = (call_held to ≡ None) ⊎ IsTwin st n to

-- What an event left of a way, of the lanes and of the windows.
pub record Moved (st : LanesState) (twin : Option ℕ) (to : SessionWay) (mid : LanesState) : Type 0 where
  pub moves : Moves st twin mid
  pub twinnable : Twinnable to twin mid
  pub limits : KeepLimits mid.windows

-- the law by which a step of a way over the link is a turn of its twin
abbrev pub TurnLaw : Type 0
TurnLaw = (old new : LaneLink) (number : ℕ) (to after : SessionWay) → LanesAreSound old.lanes → old.active ≡ Some number → IsTwin old.lanes number to
    → StepsOutside LaneLinkMakes to old after new → TurnsTwin number old new after

-- the laws by which events move lanes
pub record EventLaws : Type 0 where
  pub ask : AskLaws
  pub turns : TurnLaw
  pub settles : (st : LanesState) (number : ℕ) (to : SessionWay) → IsTwin st number to → IsTwin st number (settled to)
  pub lawful : (s : WindowsValue) (first : ℕ) → KeepLimits s → s.wq ≤ open_count s.facts → AreTaken s.wq s.w (chosen s first)
  pub limited : (s : WindowsValue) (call : WindowCall) → KeepLimits s → KeepLimits (after_call s call)

has-twinnable : (to : SessionWay) (twin : Option ℕ) (st : LanesState) → HasTwin to twin st → Twinnable to twin st
has-twinnable to None st none = inl none
has-twinnable to (Some n) st is = inr is

none-twinnable : (to : SessionWay) (twin : Option ℕ) (st : LanesState) → call_held to ≡ None → Twinnable to twin st
none-twinnable to None st none = inl none
none-twinnable to (Some n) st none = inl none

pub stays-twinnable : (old new : SessionWay) (twin : Option ℕ) (st : LanesState) → Stays old new → Twinnable old twin st → Twinnable new twin st
stays-twinnable old new twin st (inl none) may = none-twinnable new twin st none
stays-twinnable old new twin st (inr same) may = subst (λ (x : SessionWay). Twinnable x twin st) (sym same) may

-- a way that holds nothing has no twin
no-twin : (to : SessionWay) (twin : Option ℕ) (st : LanesState) → call_held to ≡ None → HasTwin to twin st → twin ≡ None
no-twin to None st none is = refl
no-twin to (Some n) st none is = absurd (let e : None ≡ Some is.held = sym none ∙ is.holds in cc)

-- the stage of a connection whose turn is no end is at that turn
pub at-turn : (s : Shepherd ActionCall) (t : ShepherdTurn) → turn s ≡ t → (turns.Ended ends.OutOfMemory ≡ t → ⊥) → stage_turn s.stage s.received s.ended ≡ t
at-turn s t is other = go s.wants_memory is where
  go : (b : Bool) → (if b then turns.Ended ends.OutOfMemory else stage_turn s.stage s.received s.ended) ≡ t → stage_turn s.stage s.received s.ended ≡ t
  go true is = absurd (other is)
  go false is = is

pub after-way : (o : Option WriteOutcome) (v : Visit ActionCall) → (after_outcome o v).way ≡ v.way
after-way None v = refl
after-way (Some (outcome.Written cookie)) v = refl
after-way (Some (outcome.Missed causes)) v = refl

wants-outside : (v : Visit ActionCall) → turn_by (visit_turn v) ≡ turns.Outside → wants v.way ≡ wanted.Outside
wants-outside v is = by v.work (wants v.way) refl is where
  by : (x : Work ActionCall) (y : Wants) → wants v.way ≡ y → turn_by (visit_turn_by x y) ≡ turns.Outside → wants v.way ≡ wanted.Outside
  by x wanted.Outside at e = at
  by Reading wanted.Nothing at e = absurd (cc)
  by Reading wanted.Windows at e = absurd (cc)
  by Opening wanted.Nothing at e = absurd (cc)
  by Opening wanted.Windows at e = absurd (cc)
  by (ServingBy tries program) wanted.Nothing at e = absurd (cc)
  by (ServingBy tries program) wanted.Windows at e = absurd (cc)
  by (Committed place again shown) wanted.Nothing at e = absurd (cc)
  by (Committed place again shown) wanted.Windows at e = absurd (cc)
  by (Decided became) wanted.Nothing at e = absurd (cc)
  by (Decided became) wanted.Windows at e = absurd (cc)
  by (Answered fate bytes) wanted.Nothing at e = absurd (cc)
  by (Answered fate bytes) wanted.Windows at e = absurd (cc)
  by (Left fate) wanted.Nothing at e = absurd (cc)
  by (Left fate) wanted.Windows at e = absurd (cc)

-- the request that is open, if one is, has a way that wants the link
abbrev pub OpenOutside : Stage ActionCall → Type 0
OpenOutside Resting = ⊥
OpenOutside (Serving v call) = wants v.way ≡ wanted.Outside
OpenOutside (Refusing why bytes) = ⊥
OpenOutside (Over end) = ⊥

-- a connection whose turn is outside has one open, whose way wants the link
pub open-outside : (s : Shepherd ActionCall) → turn s ≡ turns.Outside → OpenOutside s.stage
open-outside s is = go s.stage (at-turn s turns.Outside is (λ e. cc)) where
  resting-turn : (received : List ℕ) (ended : Bool) → resting_turn received ended ≡ turns.Outside → ⊥
  resting-turn received ended e = by (settles (taken_of received)) ended (length received == 0) e where
    by : (a b c : Bool) → (if a then turns.Request else (if b then (if c then turns.Ended ends.Closed else turns.Ended ends.Cut) else turns.Bytes)) ≡ turns.Outside → ⊥
    by true b c e = cc
    by false true true e = cc
    by false true false e = cc
    by false false c e = cc

  go : (stage : Stage ActionCall) → stage_turn stage s.received s.ended ≡ turns.Outside → OpenOutside stage
  go Resting e = absurd (resting-turn s.received s.ended e)
  go (Serving v call) e = wants-outside v e
  go (Refusing why bytes) e = absurd (cc)
  go (Over end) e = absurd (cc)

module _ (laws : EventLaws) (g : SeatGivens) (seat : Seat) (w : SeatWorld) (stands : SeatStands seat w.store) (spelled : SeatHears seat w.store) where
  abbrev s : Shepherd ActionCall
  s = seat.connection

  abbrev st : LanesState
  st = w.store

  abbrev W : World ActionCall LaneLink
  W = seen_by seat w

  abbrev service : Service
  service = service_in g w

  abbrev seen : LinkCounts
  seen = counted (lane_link_tally (record { lanes = st; active = seat.twin }))

  abbrev drawn_none : Counts
  drawn_none = record { words = 0; serials = 0 }

  -- only the windows changed
  rested-moved : (to : SessionWay) (windows : WindowsValue) → Twinnable to seat.twin (record st { windows = windows }) → KeepLimits windows → Moved st seat.twin to (record st { windows = windows })
  rested-moved to windows may limits = record { moves = rests-moves st seat.twin windows; twinnable = may; limits = limits }

  still-moved : (to : SessionWay) → Stays (way_in s.stage) to → Moved st seat.twin to st
  still-moved to stays = rested-moved to st.windows (stays-twinnable (way_in s.stage) to seat.twin st stays (has-twinnable (way_in s.stage) seat.twin st stands.twin)) stands.limits

  -- a request is taken where none is open
  resting : turn s ≡ turns.Request → s.stage ≡ Resting
  resting is = go s.stage (at-turn s turns.Request is (λ e. cc)) where
    serving : (t : Turn) → turn_by t ≡ turns.Request → ⊥
    serving visit.Outside e = cc
    serving visit.Windows e = cc
    serving visit.Inside e = cc
    serving visit.Program e = cc
    serving visit.Own e = cc
    serving visit.Output e = cc
    serving visit.Over e = cc

    go : (stage : Stage ActionCall) → stage_turn stage s.received s.ended ≡ turns.Request → stage ≡ Resting
    go Resting e = refl
    go (Serving v call) e = absurd (serving (visit_turn v) e)
    go (Refusing why bytes) e = absurd (cc)
    go (Over end) e = absurd (cc)

  admitted-moved : (a : Admission) (facts : VisitFacts) (counts : LinkCounts) → seat.twin ≡ None → ((cookie : Cookie) → a.cookie ≡ Some cookie → AreHolders cookie.bricks)
      → Twinnable (way_in (admitted_visit facts counts a a.cookie)) seat.twin st
  admitted-moved a facts counts none holders = by a.cookie refl where
    by : (o : Option Cookie) → a.cookie ≡ o → Twinnable (way_in (admitted_visit facts counts a o)) seat.twin st
    by None is = none-twinnable way.Resting seat.twin st refl
    by (Some cookie) is =
        let r : ReadState = read_start facts.now a.read cookie in
        subst (λ (twin : Option ℕ). Twinnable (way.Reading r) twin st) (sym none)
        (inr (record { now = facts.now; nonce = a.read; cookie = cookie; is = refl; holders = holders cookie is }))

  request-moved : turn s ≡ turns.Request → Moved st seat.twin (way_in (event_at (givens_in g w) turns.Request W).0.connection.stage) st
  unfolding take_request
  request-moved is = by (taken_of s.received) where
    none : seat.twin ≡ None
    none = no-twin (way_in s.stage) seat.twin st (ap (λ (x : Stage ActionCall). call_held (way_in x)) (resting is)) stands.twin

    kept : Moved st seat.twin (way_in s.stage) st
    kept = still-moved (way_in s.stage) (inr refl)

    decided-moved : (head : Head) (d : Decision) → service.decides head ≡ d → (counts : Counts)
        → Twinnable (way_in (begun_by s.front seen head g.now (arrives_by service g.now d counts).0)) seat.twin st
    decided-moved head (decided.Refused why) d counts = none-twinnable way.Resting seat.twin st refl
    decided-moved head (decided.Ordered o) d counts = drawn (draws service.numbers (drawn_for o) counts).spent where
      drawn : (spent : Option ℕ) → Twinnable (way_in (begun_by s.front seen head g.now
          (arrival_by service.key service.home o g.now (draws service.numbers (drawn_for o) counts).drawn spent))) seat.twin st
      drawn (Some spent) = none-twinnable way.Resting seat.twin st refl
      drawn None =
          let a : Admission = admission_of service.key service.home o g.now (draws service.numbers (drawn_for o) counts).drawn in
          admitted-moved a (facts_of a g.now s.front head) seen none
          (λ cookie has. asked-holders laws.ask g.key w.boot.start.boot head o cookie d has)

    by : (t : Taken) → Moved st seat.twin (way_in (takes_by service seen g.now t s drawn_none).0.stage) st
    by (took.Request head) = rested-moved
        (way_in (begun_by s.front seen head g.now (arrives_by service g.now (service.decides head) drawn_none).0))
        st.windows (decided-moved head (service.decides head) refl drawn_none) stands.limits
    by took.Bad = rested-moved way.Resting st.windows (none-twinnable way.Resting seat.twin st refl) stands.limits
    by (took.TooLong len lines) = rested-moved way.Resting st.windows (none-twinnable way.Resting seat.twin st refl) stands.limits
    by took.NoCoding = rested-moved way.Resting st.windows (none-twinnable way.Resting seat.twin st refl) stands.limits
    by (took.BodyTooLong said) = rested-moved way.Resting st.windows (none-twinnable way.Resting seat.twin st refl) stands.limits
    by took.More = kept

  abbrev link : LaneLink
  link = record { lanes = st; active = seat.twin }

  -- the twin takes its turn
  way-moved : (to : SessionWay) → HearsSpelled to link → wants to ≡ wanted.Outside → HasTwin to seat.twin st
      → Moved st seat.twin (way_outside lane_replies to link).0 (let l : LanesState = record ((way_outside lane_replies to link).1.lanes) { windows = st.windows } in l)
  way-moved to heard is twin = by seat.twin refl twin where
    by : (o : Option ℕ) → seat.twin ≡ o → HasTwin to o st → Moved st seat.twin (way_outside lane_replies to link).0 (let l : LanesState = record ((way_outside lane_replies to link).1.lanes) { windows = st.windows } in l)
    by None at none = absurd (outside-holds to is none)
    by (Some n) at own =
        let turned = laws.turns link (way_outside lane_replies to link).1 n to (way_outside lane_replies to link).0 stands.sound at own (way-steps link to heard is) in
        let mid : LanesState = record ((way_outside lane_replies to link).1.lanes) { windows = st.windows } in
        record {
          moves = record {
            steps = TakesTurn n ∷ [];
            windows = st.windows;
            own = subst (λ (x : Option ℕ). OwnTurns x (TakesTurn n ∷ [])) (sym at) (inr refl);
            is = ap (λ (l : LaneLink). let x : LanesState = record (l.lanes) { windows = st.windows } in x) turned.turn;
          };
          twinnable = subst (λ (x : Option ℕ). Twinnable (way_outside lane_replies to link).0 x mid) (sym at)
              (inr (on-world (way_outside lane_replies to link).1.lanes mid n (way_outside lane_replies to link).0 refl turned.twin));
          limits = stands.limits;
        }

  outside-moved : turn s ≡ turns.Outside
      → (let e = (event_at (givens_in g w) turns.Outside W).0 in Moved st seat.twin (way_in e.connection.stage) (let l : LanesState = record (e.link.lanes) { windows = e.windows } in l))
  unfolding outside
  outside-moved is = go s.stage (spelled is) (open-outside s is) stands.twin where
    go : (stage : Stage ActionCall) → HearsSpelled (way_in stage) link → OpenOutside stage → HasTwin (way_in stage) seat.twin st
        → (let x = steps_in (outside lane_replies lane_link_tally) stage link in Moved st seat.twin (way_in x.0) (let l : LanesState = record (x.1.lanes) { windows = st.windows } in l))
    go Resting heard e twin = absurd e
    go (Serving v call) heard e twin = way-moved v.way heard e twin
    go (Refusing why bytes) heard e twin = absurd e
    go (Over end) heard e twin = absurd e

  spent-moved : (v : Visit ActionCall) (passes : List Pass)
      → (let y = goes v way.Resting (after_spend st.windows passes) in Moved st seat.twin y.0.way (let l : LanesState = record st { windows = y.1 } in l))
  spent-moved v passes =
      let after : WindowsValue = after_spend st.windows passes in
      rested-moved (after_outcome (outcome_of (answer_held v.way)) (record v { way = way.Resting })).way after
      (none-twinnable (after_outcome (outcome_of (answer_held v.way)) (record v { way = way.Resting })).way seat.twin (record st { windows = after })
      (ap call_held (after-way (outcome_of (answer_held v.way)) (record v { way = way.Resting }))))
      (laws.limited st.windows (Spend passes) stands.limits)

  -- passes are taken for a write, or spent
  windows-way : (v : Visit ActionCall) (x : SessionWay) → v.way ≡ x → HasTwin v.way seat.twin st
      → (let y = windows_by v x st.windows in Moved st seat.twin y.0.way (let l : LanesState = record st { windows = y.1 } in l))
  windows-way v way.Resting is twin = rested-moved v.way st.windows (has-twinnable v.way seat.twin st twin) stands.limits
  windows-way v (way.Reading r) is twin = rested-moved v.way st.windows (has-twinnable v.way seat.twin st twin) stands.limits
  windows-way v (way.Ordered order) is twin = by (nat_lt (open_count st.windows.facts) st.windows.wq) refl where
    none : seat.twin ≡ None
    none = no-twin v.way seat.twin st (ap call_held is) twin

    limits : (b : Bool) → nat_lt (open_count st.windows.facts) st.windows.wq ≡ b
        → KeepLimits (if b then refused st.windows else taken st.windows (chosen st.windows order.nonce.serial))
    limits b test = subst (λ (x : Bool). KeepLimits (if x then refused st.windows else taken st.windows (chosen st.windows order.nonce.serial))) test (laws.limited st.windows (Take order.nonce.serial) stands.limits)

    by : (b : Bool) → nat_lt (open_count st.windows.facts) st.windows.wq ≡ b
        → (let y = (if b then (record v { way = way.Resting; work = overloaded (full_facts st.windows.facts) v.work }, refused st.windows)
        else goes v (way.Writing (write_begun order st.windows.wq (passes_for order st.windows))) (taken st.windows (passes_for order st.windows))) in
        Moved st seat.twin y.0.way (let l : LanesState = record st { windows = y.1 } in l))
    by true test = rested-moved way.Resting (refused st.windows) (none-twinnable way.Resting seat.twin (record st { windows = refused st.windows }) refl) (limits true test)
    by false test =
        let begun : WritingState = write_begun order st.windows.wq (passes_for order st.windows) in
        let mid : LanesState = record st { windows = taken st.windows (passes_for order st.windows) } in
        let enough : st.windows.wq ≤ open_count st.windows.facts = grind (arith, nat_tests, test) in
        let kept = stands.limits in
        let may : Twinnable (way.Writing begun) seat.twin mid =
        subst (λ (x : Option ℕ). Twinnable (way.Writing begun) x mid) (sym none) (inr (record {
          order = order;
          passes = passes_for order st.windows;
          most = st.windows.w;
          is = refl;
          some = kept.some;
          few = omega (arith, kept.within, kept.few);
          lawful = laws.lawful st.windows order.nonce.serial stands.limits enough;
        })) in
        rested-moved (after_outcome (outcome_of (answer_held v.way)) (record v { way = way.Writing begun })).way (taken st.windows (passes_for order st.windows))
        (subst (λ (x : SessionWay). Twinnable x seat.twin mid) (sym (after-way (outcome_of (answer_held v.way)) (record v { way = way.Writing begun }))) may)
        (limits false test)
  windows-way v (way.Writing x) is twin = rested-moved v.way st.windows (has-twinnable v.way seat.twin st twin) stands.limits
  windows-way v (way.Settling x) is twin = spent-moved v (passes_spent x)
  windows-way v (way.Holding passes) is twin = spent-moved v (map hushed passes)

  windows-moved : (let e = (event_at (givens_in g w) turns.Windows W).0 in Moved st seat.twin (way_in e.connection.stage) (let l : LanesState = record (e.link.lanes) { windows = e.windows } in l))
  unfolding windows_step
  windows-moved = go s.stage stands.twin where
    go : (stage : Stage ActionCall) → HasTwin (way_in stage) seat.twin st
        → (let x = steps_in windows_step stage st.windows in Moved st seat.twin (way_in x.0) (let l : LanesState = record st { windows = x.1 } in l))
    go Resting twin = rested-moved way.Resting st.windows (has-twinnable way.Resting seat.twin st twin) stands.limits
    go (Serving v call) twin = windows-way v v.way refl twin
    go (Refusing why bytes) twin = rested-moved way.Resting st.windows (has-twinnable way.Resting seat.twin st twin) stands.limits
    go (Over end) twin = rested-moved way.Resting st.windows (has-twinnable way.Resting seat.twin st twin) stands.limits

  inside-moved : Moved st seat.twin (way_in (event_at (givens_in g w) turns.Inside W).0.connection.stage) st
  unfolding inside
  inside-moved = still-moved (way_in (event_at (givens_in g w) turns.Inside W).0.connection.stage) (go s.stage) where
    go : (stage : Stage ActionCall) → Stays (way_in stage) (way_in (steps_in (step_inside steps_of g.keeps) stage (w.boot, w.since)).0)
    go Resting = inr refl
    go (Serving v call) = inside-stays steps_of g.keeps v v.work (untold w.boot w.since)
    go (Refusing why bytes) = inr refl
    go (Over end) = inr refl

  output-moved : Moved st seat.twin (way_in (event_at (givens_in g w) turns.Output W).0.connection.stage) st
  unfolding output_of
  output-moved = rested-moved (way_in (output_of s.stage).1) st.windows (go s.stage stands.twin) stands.limits where
    settled-may : (to : SessionWay) (twin : Option ℕ) → HasTwin to twin st → Twinnable (settled to) twin st
    settled-may way.Resting None none = inl refl
    settled-may (way.Reading r) None none = inl none
    settled-may (way.Ordered order) None none = inl refl
    settled-may (way.Writing x) None none = inl none
    settled-may (way.Settling x) None none = inl none
    settled-may (way.Holding passes) None none = inl refl
    settled-may to (Some n) twin = inr (laws.settles st n to twin)

    go : (stage : Stage ActionCall) → HasTwin (way_in stage) seat.twin st → Twinnable (way_in (output_of stage).1) seat.twin st
    go Resting twin = has-twinnable way.Resting seat.twin st twin
    go (Serving v call) twin = settled-may v.way seat.twin twin
    go (Refusing why bytes) twin = has-twinnable way.Resting seat.twin st twin
    go (Over end) twin = has-twinnable way.Resting seat.twin st twin

  -- What the event at the turn of the seat leaves.
  pub event-moved : (let e = (event_at (givens_in g w) (turn s) W).0 in Moved st seat.twin (way_in e.connection.stage) (let l : LanesState = record (e.link.lanes) { windows = e.windows } in l))
  event-moved = go (turn s) refl where
    go : (t : ShepherdTurn) → turn s ≡ t → (let e = (event_at (givens_in g w) t W).0 in Moved st seat.twin (way_in e.connection.stage) (let l : LanesState = record (e.link.lanes) { windows = e.windows } in l))
    go turns.Bytes is = still-moved (way_in s.stage) (inr refl)
    go turns.Request is = request-moved is
    go turns.Outside is = outside-moved is
    go turns.Windows is = windows-moved
    go turns.Inside is = inside-moved
    go turns.Program is = still-moved (way_in s.stage) (inr refl)
    go turns.Own is = still-moved (way_in s.stage) (inr refl)
    go turns.Output is = output-moved
    go turns.Item is = still-moved (way_in s.stage) (inr refl)
    go (turns.Ended end) is = still-moved (way_in s.stage) (inr refl)
