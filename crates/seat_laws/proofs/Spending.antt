-- A serial number by which a request is told that they are spent is the one that is next then.
use Rattle.std.proofs.Common.{[], ◌≡◌, ◌∙◌, ℕ, suc, ◌+◌, Bool, true, false, nat_lt, if◌then◌else◌, List, ◌∷◌, Option, Some, None, refl, sym, subst}
use Rattle.auction_calls.specs.declared.action.ActionCall.{ActionCall}
use Rattle.http_wire.specs.Taking.{taken_of}
use Rattle.http_wire.specs.declared.taken.Head.{Head}
use Rattle.http_wire.specs.declared.taken.Taken.{Taken}
use Rattle.http_wire.specs.declared.taken.Taken.TheVariants as took
use Rattle.lane_link.specs.Links.{lane_link_tally}
use Rattle.lane_link.specs.declared.link.LaneLink.{LaneLink}
use Rattle.outcome_items.specs.declared.outcome.ItemOutcome.{ItemOutcome}
use Rattle.outcome_items.specs.declared.outcome.ItemOutcome.TheVariants as item
use Rattle.outside.specs.declared.link.LinkCounts.{LinkCounts}
use Rattle.outside.specs.declared.serials.TheConstants.{SERIALS_END}
use Rattle.request_decisions.specs.Draws.{drawn_for, is_serial}
use Rattle.request_decisions.specs.declared.decision.Decision.{Decision}
use Rattle.request_decisions.specs.declared.decision.Decision.TheVariants as decided
use Rattle.request_decisions.specs.declared.decision.Order.{Order}
use Rattle.request_decisions.specs.declared.draws.DrawKind.{DrawKind}
use Rattle.request_visit.specs.Stepping.{counted}
use Rattle.request_visit.specs.declared.visit.Visit.{Visit}
use Rattle.request_visit.specs.declared.visit.Work.{Work}
use Rattle.request_visit.specs.declared.visit.Work.TheVariants.{Reading, Opening, Serving as ServingBy, Committed, Decided, Answered, Left}
use Rattle.session_cookie.specs.declared.cookie.Cookie.{Cookie}
use Rattle.session_way.specs.declared.session_read.ReadOutcome.{ReadOutcome}
use Rattle.session_way.specs.declared.session_read.ReadOutcome.TheVariants as read
use Rattle.session_way.specs.declared.way.SessionWay.{SessionWay}
use Rattle.session_way.specs.declared.way.SessionWay.TheVariants as way
use Rattle.shepherd.specs.Shepherds.{turn}
use Rattle.shepherd.specs.Steps.{admitted_visit, begun_by, facts_of, rested}
use Rattle.shepherd.specs.declared.shepherd.Shepherd.{Shepherd}
use Rattle.shepherd.specs.declared.shepherd.ShepherdTurn.{ShepherdTurn}
use Rattle.shepherd.specs.declared.shepherd.ShepherdTurn.TheVariants as turns
use Rattle.shepherd.specs.declared.shepherd.Stage.{Stage}
use Rattle.shepherd.specs.declared.shepherd.Stage.TheVariants.{Resting, Serving, Refusing, Over}
use Rattle.shepherd_steps.specs.Alone.{Making, alone, alone_at, gone_alone, own_stage}
use Rattle.shepherd_steps.specs.Leaving.{item_by, item_taken, output_of}
use Rattle.shepherd_steps.specs.Opening.{open_stage}
use Rattle.shepherd_steps.specs.Own.{heard_read, outcome_of_read, own, own_by, told_read}
use Rattle.shepherd_steps.specs.Stepping.{World, event_at, step}
use Rattle.shepherd_steps.specs.Taking.{Counts, Drawing, Numbers, arrival_by, arrives_by, behind, draws, take_request, takes_by}
use Rattle.seat_steps.specs.Seats.{SeatGivens, SeatWorld, givens_in, making_by, seat_step, seen_by, service_in}
use Rattle.seat_steps.specs.declared.seat.Seat.{Seat}
use Rattle.seat_laws.proofs.Passing.{admitted, drawing, undrawn}
use Rattle.seat_laws.specs.Reads.{known_outcome, known_work}

-- nobody is told of this serial number
abbrev Unspent : ℕ → Option ItemOutcome → Type 0
Unspent seen x = x ≡ Some (item.SerialsSpent seen) → ⊥

module _ (seen : ℕ) where
  abbrev Quiet : Stage ActionCall → Type 0
  Quiet stage = Unspent seen (known_outcome stage)

  unknown : Unspent seen None
  unknown is = cc

  own-quiet : (key : List ℕ) (stage : Stage ActionCall) → Quiet stage → Quiet (own_stage key stage)
  unfolding own
  own-quiet key Resting quiet = unknown
  own-quiet key (Serving v call) quiet = by v.work quiet where
    told : (o : Option ReadOutcome) → (let x : Visit ActionCall = told_read o v in Unspent seen (known_work x.work))
    told None is = quiet is
    told (Some (read.Found lease)) is = cc
    told (Some (read.Expired now expiry)) is = cc
    told (Some (read.Lost causes)) is = cc

    heard : (to : SessionWay) → (let x : Visit ActionCall = heard_read to v in Unspent seen (known_work x.work))
    heard way.Resting is = cc
    heard (way.Reading r) is = told (outcome_of_read r) is
    heard (way.Ordered order) is = cc
    heard (way.Writing w) is = cc
    heard (way.Settling w) is = cc
    heard (way.Holding passes) is = cc

    by : (w : Work ActionCall) → Unspent seen (known_work w) → (let x : Visit ActionCall = own_by key v w in Unspent seen (known_work x.work))
    by Reading q = heard v.way
    by Opening q = quiet
    by (ServingBy tries program) q = quiet
    by (Committed place again shown) q = unknown
    by (Decided became) q = q
    by (Answered fate bytes) q = quiet
    by (Left fate) q = quiet
  own-quiet key (Refusing why bytes) quiet = unknown
  own-quiet key (Over end) quiet = unknown

  open-quiet : (m : Making ActionCall) (stage : Stage ActionCall) → Quiet stage → Quiet (open_stage m.made m.worker stage)
  unfolding open_stage
  open-quiet m Resting quiet = unknown
  open-quiet m (Serving v None) quiet = quiet
  open-quiet m (Serving v (Some asked)) quiet = unknown
  open-quiet m (Refusing why bytes) quiet = unknown
  open-quiet m (Over end) quiet = unknown

  rested-quiet : (close : Bool) → Quiet (rested close)
  rested-quiet true = unknown
  rested-quiet false = unknown

  item-quiet : (s : Shepherd ActionCall) → Quiet s.stage → Quiet (item_taken s).0.stage
  unfolding item_taken
  item-quiet s quiet = by s.stage where
    by : (stage : Stage ActionCall) → Quiet (item_by s stage).0.stage
    by Resting = quiet
    by (Serving v call) = rested-quiet v.facts.close
    by (Refusing why bytes) = quiet
    by (Over end) = quiet

  once-quiet : (m : Making ActionCall) (s : Shepherd ActionCall) → Quiet s.stage → Quiet (alone m s).0.stage
  unfolding alone
  once-quiet m s quiet = by (turn s) where
    by : (t : ShepherdTurn) → Quiet (alone_at m t s).0.stage
    by turns.Bytes = quiet
    by turns.Request = quiet
    by turns.Outside = quiet
    by turns.Windows = quiet
    by turns.Inside = quiet
    by turns.Program = open-quiet m s.stage quiet
    by turns.Own = own-quiet m.key s.stage quiet
    by turns.Output = quiet
    by turns.Item = item-quiet s quiet
    by (turns.Ended end) = quiet

  gone-quiet : (m : Making ActionCall) (s : Shepherd ActionCall) → Quiet s.stage → Quiet (gone_alone m s).0.stage
  unfolding gone_alone
  gone-quiet m s quiet = once-quiet m (alone m s).0 (once-quiet m s quiet)

-- a number that was looked at and is spent is the one that is next behind the draws

-- the draws behind one that may be spent
abbrev more : Bool → Bool → DrawKind → ℕ → ℕ → Counts → Drawing → Drawing → Drawing
more b c kind seen word counts further words =
    if b then (if c then behind (record { kind = kind; number = seen }) further else record { drawn = []; spent = Some seen; counts = counts })
    else behind (record { kind = kind; number = word }) words

-- what is spent is next
abbrev IsNext : Numbers → ℕ → Drawing → Type 0
IsNext numbers seen d = d.spent ≡ Some seen → seen ≡ numbers.serials d.counts.serials

more-next : (numbers : Numbers) (kind : DrawKind) (word seen : ℕ) (counts : Counts) (further words : Drawing) → IsNext numbers seen further → IsNext numbers seen words
    → (b c : Bool) → IsNext numbers seen (more b c kind (numbers.serials counts.serials) word counts further words)
more-next numbers kind word seen counts further words one other true true = one
more-next numbers kind word seen counts further words one other true false = λ is. (let e : Some (numbers.serials counts.serials) ≡ Some seen = is in cc)
more-next numbers kind word seen counts further words one other false c = other

spent-next : (numbers : Numbers) (seen : ℕ) (kinds : List DrawKind) (counts : Counts) → IsNext numbers seen (draws numbers kinds counts)
spent-next numbers seen [] counts = λ is. absurd (let e : None ≡ Some seen = is in cc)
spent-next numbers seen (kind ∷ kinds) counts =
    more-next numbers kind (numbers.words counts.words) seen counts
    (draws numbers kinds (record counts { serials = suc counts.serials })) (draws numbers kinds (record counts { words = suc counts.words }))
    (spent-next numbers seen kinds (record counts { serials = suc counts.serials })) (spent-next numbers seen kinds (record counts { words = suc counts.words }))
    (is_serial kind) (nat_lt (numbers.serials counts.serials) SERIALS_END)

module _ (g : SeatGivens) (seat : Seat) (w : SeatWorld) (seen : ℕ) where
  abbrev m : Making ActionCall
  m = making_by g

  -- a seat whose connection has no open request
  abbrev k : Shepherd ActionCall
  k = record (seat.connection) { stage = Resting; wants_memory = false }

  abbrev at : Seat
  at = record { connection = k; twin = seat.twin }

  -- the serial number that is next behind these draws is the one that a connection tells of
  abbrev Tells : Shepherd ActionCall × Counts → Type 0
  Tells x = known_outcome (gone_alone m x.0).0.stage ≡ Some (item.SerialsSpent seen) → seen ≡ (service_in g w).numbers.serials x.1.serials

  quiet-tells : (x : Shepherd ActionCall × Counts) → Quiet seen x.0.stage → Tells x
  quiet-tells x quiet is = absurd (gone-quiet seen m x.0 quiet is)

  request-tells : (counts : LinkCounts) → Tells (take_request (service_in g w) counts g.now k undrawn)
  unfolding take_request gone_alone alone own
  request-tells counts = by (taken_of k.received) where
    -- the connection behind a request's bytes, at this stage
    behind-at : Head → Stage ActionCall → Shepherd ActionCall
    behind-at head stage = record (takes_by (service_in g w) counts g.now (took.Request head) k undrawn).0 { stage = stage }

    admits : (head : Head) (order : Order) (c : Option Cookie) → Tells (behind-at head (admitted_visit (facts_of (admitted g w order) g.now k.front head) counts (admitted g w order) c), (drawing g w order).counts)
    admits head order None = quiet-tells (behind-at head (admitted_visit (facts_of (admitted g w order) g.now k.front head) counts (admitted g w order) None), (drawing g w order).counts) (unknown seen)
    admits head order (Some cookie) = quiet-tells (behind-at head (admitted_visit (facts_of (admitted g w order) g.now k.front head) counts (admitted g w order) (Some cookie)), (drawing g w order).counts) (unknown seen)

    told : (last : ℕ) → Some (item.SerialsSpent last) ≡ Some (item.SerialsSpent seen) → Some last ≡ Some seen
    told last is = cc

    spent : (head : Head) (order : Order) (x : Option ℕ) → (drawing g w order).spent ≡ x
        → Tells (behind-at head (begun_by k.front counts head g.now (arrival_by g.key (service_in g w).home order g.now (drawing g w order).drawn x)), (drawing g w order).counts)
    spent head order (Some last) cut = λ is. spent-next (service_in g w).numbers seen (drawn_for order) undrawn (cut ∙ told last is)
    spent head order None cut = admits head order order.cookie

    decision : (head : Head) (d : Decision) → (let arrived = arrives_by (service_in g w) g.now d undrawn in Tells (behind-at head (begun_by k.front counts head g.now arrived.0), arrived.1))
    decision head (decided.Refused why) = quiet-tells (behind-at head (begun_by k.front counts head g.now (arrives_by (service_in g w) g.now (decided.Refused why) undrawn).0), undrawn) (λ is. cc)
    decision head (decided.Ordered order) = spent head order (drawing g w order).spent refl

    by : (t : Taken) → Tells (takes_by (service_in g w) counts g.now t k undrawn)
    by (took.Request head) = decision head ((service_in g w).decides head)
    by took.Bad = quiet-tells (takes_by (service_in g w) counts g.now took.Bad k undrawn) (unknown seen)
    by (took.TooLong len lines) = quiet-tells (takes_by (service_in g w) counts g.now (took.TooLong len lines) k undrawn) (unknown seen)
    by took.NoCoding = quiet-tells (takes_by (service_in g w) counts g.now took.NoCoding k undrawn) (unknown seen)
    by (took.BodyTooLong said) = quiet-tells (takes_by (service_in g w) counts g.now (took.BodyTooLong said) k undrawn) (unknown seen)
    by took.More = quiet-tells (k, undrawn) (unknown seen)

  abbrev E : ShepherdTurn → World ActionCall LaneLink
  E t = (event_at (givens_in g w) t (seen_by at w)).0

  event-tells : (t : ShepherdTurn) → Tells ((E t).connection, (E t).drawn)
  unfolding output_of
  event-tells turns.Bytes = quiet-tells ((E turns.Bytes).connection, undrawn) (unknown seen)
  event-tells turns.Request = request-tells (counted (lane_link_tally (record { lanes = w.store; active = seat.twin })))
  event-tells turns.Outside = quiet-tells ((E turns.Outside).connection, undrawn) (unknown seen)
  event-tells turns.Windows = quiet-tells ((E turns.Windows).connection, undrawn) (unknown seen)
  event-tells turns.Inside = quiet-tells ((E turns.Inside).connection, undrawn) (unknown seen)
  event-tells turns.Program = quiet-tells ((E turns.Program).connection, undrawn) (unknown seen)
  event-tells turns.Own = quiet-tells ((E turns.Own).connection, undrawn) (unknown seen)
  event-tells turns.Output = quiet-tells ((E turns.Output).connection, undrawn) (unknown seen)
  event-tells turns.Item = quiet-tells ((E turns.Item).connection, undrawn) (unknown seen)
  event-tells (turns.Ended end) = quiet-tells ((E (turns.Ended end)).connection, undrawn) (unknown seen)

  -- the same, with memory or not
  abbrev over : Bool → World ActionCall LaneLink
  over wants = let s : Shepherd ActionCall = record k { wants_memory = wants } in (event_at (givens_in g w) (turn s) (seen_by (record { connection = s; twin = seat.twin }) w)).0

  memory-tells : (wants : Bool) → Tells ((over wants).connection, (over wants).drawn)
  memory-tells true = quiet-tells ((over true).connection, undrawn) (unknown seen)
  memory-tells false = event-tells (turn k)

-- A request that is taken, and told that this serial number is spent, is told the one that is next behind the step.
pub spent-is-next : (g : SeatGivens) (seat : Seat) (w : SeatWorld) (seen : ℕ) → seat.connection.stage ≡ Resting → known_outcome (seat_step g seat w).seat.connection.stage ≡ Some (item.SerialsSpent seen)
    → seen ≡ (seat_step g seat w).world.serial
unfolding seat_step step
spent-is-next g seat w seen rests told =
    let P : Stage ActionCall → Type 0 =
    λ stage. let s : Shepherd ActionCall = record (seat.connection) { stage = stage } in
    let e : World ActionCall LaneLink = (event_at (givens_in g w) (turn s) (seen_by (record { connection = s; twin = seat.twin }) w)).0 in
    known_outcome (gone_alone (making_by g) e.connection).0.stage ≡ Some (item.SerialsSpent seen) → seen ≡ w.serial + e.drawn.serials in
    subst P (sym rests) (memory-tells g seat w seen seat.connection.wants_memory) told
