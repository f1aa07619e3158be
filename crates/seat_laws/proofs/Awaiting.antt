-- A request that bears a cookie which has not expired waits, as it is taken, for a read by this cookie.
use Rattle.std.proofs.Common.{◌≡◌, inl, inr, ◌∙◌, ◌≤◌, ◌==◌, ℕ, Bool, false, if◌then◌else◌, List, drop, length, Option, Some, None, Err, refl, sym, ap, subst}
use Rattle.std.proofs.lemmas.Bool.{le-ltb}
use Rattle.std.specs.Option.{option_and_then}
use Rattle.auction_calls.specs.declared.action.ActionCall.{ActionCall}
use Rattle.crash_base.specs.declared.numbers.Moment.{Moment}
use Rattle.crash_base.specs.declared.numbers.Version.{Version}
use Rattle.http_wire.specs.Taking.{settles}
use Rattle.http_wire.specs.declared.taken.Head.{Head}
use Rattle.http_wire.specs.declared.taken.Taken.{Taken}
use Rattle.lane_link.specs.Links.{lane_link_tally}
use Rattle.lane_link.specs.declared.link.LaneLink.{LaneLink}
use Rattle.outside.specs.declared.link.LinkCounts.{LinkCounts}
use Rattle.request_decisions.specs.Draws.{drawn_for}
use Rattle.request_decisions.specs.declared.decision.Decision.{Decision}
use Rattle.request_decisions.specs.declared.decision.Decision.TheVariants as decided
use Rattle.request_decisions.specs.declared.decision.Order.{Order}
use Rattle.request_intake.specs.declared.intake.Admission.{Admission}
use Rattle.request_visit.specs.Stepping.{counted}
use Rattle.request_visit.specs.Visits.{begun}
use Rattle.request_visit.specs.declared.visit.Visit.{Visit}
use Rattle.request_visit.specs.declared.visit.Work.TheVariants.{Reading}
use Rattle.session_cookie.specs.Cookie.{AreHolders}
use Rattle.session_cookie.specs.declared.cookie.Cookie.{Cookie}
use Rattle.session_cookie.specs.declared.cookie.Holder.{Holder}
use Rattle.session_way.specs.Reading.{cookie_asked}
use Rattle.session_way.specs.declared.way.SessionWay.TheVariants as way
use Rattle.shepherd.specs.Shepherds.{turn}
use Rattle.shepherd.specs.Steps.{admitted_visit, asked_call, begun_by, facts_of}
use Rattle.shepherd.specs.declared.shepherd.EndKind.TheVariants as ends
use Rattle.shepherd.specs.declared.shepherd.Shepherd.{Shepherd}
use Rattle.shepherd.specs.declared.shepherd.ShepherdTurn.{ShepherdTurn}
use Rattle.shepherd.specs.declared.shepherd.ShepherdTurn.TheVariants as turns
use Rattle.shepherd.specs.declared.shepherd.Stage.{Stage}
use Rattle.shepherd.specs.declared.shepherd.Stage.TheVariants.{Resting}
use Rattle.shepherd_steps.specs.Alone.{alone, gone_alone}
use Rattle.shepherd_steps.specs.Deciding.{decided_by}
use Rattle.shepherd_steps.specs.Own.{outcome_by, outcome_of_read, own}
use Rattle.shepherd_steps.specs.Stepping.{World, event_at, step}
use Rattle.shepherd_steps.specs.Taking.{arrival_by, arrives_by, take_request, takes_by}
use Rattle.ssm_stub.specs.Reads.{ReadState, read_start}
use Rattle.ssm_stub.specs.declared.read_call.ReadRefusal.TheVariants as refusal
use Rattle.ssm_stub.specs.declared.reply.ReadReply.{ReadReply}
use Rattle.ssm_world.proofs.Asks.{asked_none}
use Rattle.seat_steps.specs.Seats.{SeatGivens, SeatWorld, givens_in, making_by, readings_under, seat_step, seen_by, service_in}
use Rattle.seat_steps.specs.declared.seat.Seat.{Seat}
use Rattle.seat_laws.proofs.Asking.{AskLaws, BearLaws, asked-holders, borne-cookie}
use Rattle.seat_laws.proofs.AtOnce.{rest-none, unasked-rest}
use Rattle.seat_laws.proofs.Drawing.{spent-past}
use Rattle.seat_laws.proofs.HearingReads.{gone-waits}
use Rattle.seat_laws.proofs.Passing.{admitted, drawing, undrawn}
use Rattle.seat_laws.specs.Reads.{AwaitsRead, BearsCookie, IsTakenBy, read_under_way}

-- a read that begins by a cookie which has not expired came to nothing yet
start-none : (now : Moment) (nonce : Version) (cookie : Cookie) → AreHolders cookie.bricks → now.0 ≤ cookie.expiry.0 → outcome_of_read (read_start now nonce cookie) ≡ None
start-none now nonce cookie holders early =
    ap (λ (b : Bool). option_and_then (outcome_by (read_start now nonce cookie)) (if b then Some (Err (refusal.Expired now cookie.expiry)) else unasked-rest cookie.bricks)) (le-ltb cookie.expiry.0 now.0 early)
    ∙ ap (option_and_then (outcome_by (read_start now nonce cookie))) (rest-none cookie.bricks holders)

-- it asks by this cookie
start-asks : (now : Moment) (nonce : Version) (cookie : Cookie) → cookie_asked (read_start now nonce cookie) ≡ cookie
start-asks now nonce cookie = ap (λ (hs : List Holder). let c : Cookie = record cookie { bricks = hs } in c) (asked_none ReadReply cookie.bricks)

module _ (laws : AskLaws) (more : BearLaws) (g : SeatGivens) (seat : Seat) (w : SeatWorld) (head : Head) (cookie : Cookie) (bears : BearsCookie g.key seat.connection.received head cookie) (early : g.now.0 ≤ cookie.expiry.0) where
  -- a seat whose connection has no open request
  abbrev k : Shepherd ActionCall
  k = record (seat.connection) { stage = Resting; wants_memory = false }

  abbrev at : Seat
  at = record { connection = k; twin = seat.twin }

  -- what is decided of the request
  abbrev D : Decision
  D = decided_by (readings_under g.key) w.boot.start.boot head

  -- the connection behind the bytes of the request, at this stage, once others are to step
  abbrev then-at : Stage ActionCall → Stage ActionCall
  then-at stage =
      let s : Shepherd ActionCall = record k { received = drop head.len k.received; stage = stage } in
      (gone_alone (making_by g) s).0.stage

  module _ (seen : LinkCounts) where
    waits-so : (a : Admission) → AreHolders cookie.bricks → AwaitsRead g.now cookie (then-at (admitted_visit (facts_of a g.now k.front head) seen a (Some cookie)))
    waits-so a holders =
        let r : ReadState = read_start g.now a.read cookie in
        let s : Shepherd ActionCall = record k { received = drop head.len k.received } in
        let v : Visit ActionCall = begun (facts_of a g.now k.front head) seen (way.Reading r) Reading in
        record {
          read = r;
          waits = ap (λ (x : Shepherd ActionCall). read_under_way x.stage) (gone-waits (making_by g) s v (Some (asked_call a)) r (start-none g.now a.read cookie holders early));
          asks = start-asks g.now a.read cookie;
          moment_is = refl;
        }

    admits : (order : Order) → D ≡ decided.Ordered order → AwaitsRead g.now cookie (then-at (admitted_visit (facts_of (admitted g w order) g.now k.front head) seen (admitted g w order) order.cookie))
    admits order is =
        let has : order.cookie ≡ Some cookie = borne-cookie laws more g.key w.boot.start.boot head order cookie is bears.accepted in
        subst (λ (c : Option Cookie). AwaitsRead g.now cookie (then-at (admitted_visit (facts_of (admitted g w order) g.now k.front head) seen (admitted g w order) c))) (sym has)
        (waits-so (admitted g w order) (asked-holders laws g.key w.boot.start.boot head order cookie is has))

    spent : (order : Order) → D ≡ decided.Ordered order → (x : Option ℕ) → (drawing g w order).spent ≡ x
        → IsTakenBy g.now cookie (decided.Ordered order) (then-at (begun_by k.front seen head g.now (arrival_by g.key (service_in g w).home order g.now (drawing g w order).drawn x)))
    unfolding gone_alone alone own
    spent order is (Some last) none = inr (record { seen = last; past = spent-past (service_in g w).numbers last (drawn_for order) undrawn none; became = refl })
    spent order is None all = inl (admits order is)

    decision : (d : Decision) → D ≡ d → IsTakenBy g.now cookie d (then-at (begun_by k.front seen head g.now (arrives_by (service_in g w) g.now d undrawn).0))
    unfolding gone_alone alone own
    decision (decided.Refused why) is = refl
    decision (decided.Ordered order) is = spent order is (drawing g w order).spent refl

    request-taken : IsTakenBy g.now cookie D (gone_alone (making_by g) (take_request (service_in g w) seen g.now k undrawn).0).0.stage
    unfolding take_request
    request-taken = subst (λ (t : Taken). IsTakenBy g.now cookie D (gone_alone (making_by g) (takes_by (service_in g w) seen g.now t k undrawn).0).0.stage) (sym bears.taken) (decision D refl)

  -- its request is taken
  requests : turn k ≡ turns.Request
  requests =
      ap (λ (t : Taken). if settles t then turns.Request else (if k.ended then (if length k.received == 0 then turns.Ended ends.Closed else turns.Ended ends.Cut) else turns.Bytes)) bears.taken

  pub event-taken : IsTakenBy g.now cookie D (gone_alone (making_by g) (event_at (givens_in g w) (turn k) (seen_by at w)).0.connection).0.stage
  event-taken =
      subst (λ (t : ShepherdTurn). IsTakenBy g.now cookie D (gone_alone (making_by g) (event_at (givens_in g w) t (seen_by at w)).0.connection).0.stage) (sym requests)
      (request-taken (counted (lane_link_tally (record { lanes = w.store; active = seat.twin }))))

-- What a request with a cookie that has not expired is taken as.
pub taken-so : AskLaws → BearLaws → (g : SeatGivens) (seat : Seat) (w : SeatWorld) (head : Head) (cookie : Cookie) → seat.connection.stage ≡ Resting → seat.connection.wants_memory ≡ false
    → BearsCookie g.key seat.connection.received head cookie → g.now.0 ≤ cookie.expiry.0
    → IsTakenBy g.now cookie (decided_by (readings_under g.key) w.boot.start.boot head) (seat_step g seat w).seat.connection.stage
unfolding seat_step step
taken-so laws more g seat w head cookie rests memory bears early =
    let P : Stage ActionCall → Bool → Type 0 =
    λ stage wants. let s : Shepherd ActionCall = record (seat.connection) { stage = stage; wants_memory = wants } in
    let e : World ActionCall LaneLink = (event_at (givens_in g w) (turn s) (seen_by (record { connection = s; twin = seat.twin }) w)).0 in
    IsTakenBy g.now cookie (decided_by (readings_under g.key) w.boot.start.boot head) (gone_alone (making_by g) e.connection).0.stage in
    subst (λ (wants : Bool). P seat.connection.stage wants) (sym memory) (subst (λ (stage : Stage ActionCall). P stage false) (sym rests) (event-taken laws more g seat w head cookie bears early))
