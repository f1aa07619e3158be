-- A request that is taken hears nothing of a session at once, but that its cookie has expired.
use Rattle.std.proofs.Common.{◌≡◌, ◌∙◌, ◌<◌, ◌≤◌, ℕ, Bool, true, false, nat_lt, if◌then◌else◌, List, [], ◌∷◌, length, Option, Some, None, Result, Err, refl, sym, ap, subst, arith}
use Rattle.std.proofs.lemmas.Bool.{ltb-true}
use Rattle.std.specs.Prelude.{filter_map}
use Rattle.std.specs.Option.{option_and_then}
use Rattle.auction_calls.specs.declared.action.ActionCall.{ActionCall}
use Rattle.crash_base.specs.declared.numbers.Moment.{Moment}
use Rattle.crash_base.specs.declared.numbers.Version.{Version}
use Rattle.http_wire.specs.Taking.{taken_of}
use Rattle.http_wire.specs.declared.taken.Head.{Head}
use Rattle.http_wire.specs.declared.taken.Taken.{Taken}
use Rattle.http_wire.specs.declared.taken.Taken.TheVariants as took
use Rattle.lane_link.specs.Links.{lane_link_tally}
use Rattle.outside.specs.declared.link.LinkCounts.{LinkCounts}
use Rattle.request_decisions.specs.declared.decision.Decision.{Decision}
use Rattle.request_decisions.specs.declared.decision.Decision.TheVariants as decided
use Rattle.request_decisions.specs.declared.decision.Order.{Order}
use Rattle.request_visit.specs.Stepping.{counted}
use Rattle.request_visit.specs.Visits.{begun}
use Rattle.request_visit.specs.declared.visit.Visit.{Visit}
use Rattle.request_visit.specs.declared.visit.Work.{Work}
use Rattle.request_visit.specs.declared.visit.Work.TheVariants.{Reading, Opening, Serving as ServingBy, Committed, Decided, Answered, Left}
use Rattle.session_cookie.specs.Cookie.{AreHolders}
use Rattle.session_cookie.specs.declared.cookie.Cookie.{Cookie}
use Rattle.session_cookie.specs.declared.cookie.Holder.{Holder}
use Rattle.session_way.specs.declared.session_read.ReadOutcome.{ReadOutcome}
use Rattle.session_way.specs.declared.session_read.ReadOutcome.TheVariants as read
use Rattle.session_way.specs.declared.way.SessionWay.TheVariants as way
use Rattle.shepherd.specs.Shepherds.{turn}
use Rattle.shepherd.specs.Steps.{admitted_visit, asked_call, begun_by, facts_of, rested}
use Rattle.shepherd.specs.declared.shepherd.Shepherd.{Shepherd}
use Rattle.shepherd.specs.declared.shepherd.ShepherdTurn.{ShepherdTurn}
use Rattle.shepherd.specs.declared.shepherd.ShepherdTurn.TheVariants as turns
use Rattle.shepherd.specs.declared.shepherd.Stage.{Stage}
use Rattle.shepherd.specs.declared.shepherd.Stage.TheVariants.{Resting, Serving, Refusing, Over}
use Rattle.shepherd_steps.specs.Alone.{Making, alone, alone_at, gone_alone, own_stage}
use Rattle.shepherd_steps.specs.Deciding.{decided_by}
use Rattle.shepherd_steps.specs.Leaving.{item_by, item_taken, output_of}
use Rattle.shepherd_steps.specs.Opening.{open_stage}
use Rattle.shepherd_steps.specs.Own.{outcome_by, outcome_of_read, own, own_by}
use Rattle.shepherd_steps.specs.Stepping.{World, event_at, step}
use Rattle.shepherd_steps.specs.Taking.{arrival_by, arrives_by, take_request, takes_by}
use Rattle.ssm_stub.proofs.ReadOrder.{AreFresh, none_found}
use Rattle.ssm_stub.proofs.Searching.{all_heard_in_order}
use Rattle.ssm_stub.specs.Reads.{ReadState, found_in, found_or, lost_unless, loss_of, read_start}
use Rattle.ssm_stub.specs.Turns.{none_asked, turn_in_order}
use Rattle.ssm_stub.specs.declared.ask.Ask.{Ask}
use Rattle.ssm_stub.specs.declared.ask.Turn.{Turn}
use Rattle.ssm_stub.specs.declared.ear.Ear.TheVariants.{Open}
use Rattle.ssm_stub.specs.declared.ear.Stage.TheVariants.{Unasked}
use Rattle.ssm_stub.specs.declared.read_call.ReadRefusal.{ReadRefusal}
use Rattle.ssm_stub.specs.declared.read_call.ReadRefusal.TheVariants as refusal
use Rattle.ssm_stub.specs.declared.reply.ReadReply.{ReadReply}
use Rattle.lane_link.specs.declared.link.LaneLink.{LaneLink}
use Rattle.seat_steps.specs.Seats.{SeatGivens, SeatWorld, givens_in, making_by, readings_under, seat_step, seen_by, service_in}
use Rattle.seat_steps.specs.declared.seat.Seat.{Seat}
use Rattle.seat_laws.proofs.Asking.{AskLaws, BearLaws, accepted-cookie, asked-holders}
use Rattle.seat_laws.proofs.HearingReads.{gone-heard}
use Rattle.seat_laws.proofs.Passing.{admitted, drawing, undrawn}
use Rattle.seat_laws.specs.Reads.{BearsCookie, found, read_behind, read_fated, read_heard, read_told}

-- nothing is told of a session by this work, where none was found
abbrev QuietWork : Work ActionCall → Type 0
QuietWork Reading = ⊥
QuietWork Opening = Unit {0}
QuietWork (ServingBy tries program) = Unit {0}
QuietWork (Committed place again shown) = Unit {0}
QuietWork (Decided became) = read_told became None ≡ None
QuietWork (Answered fate bytes) = read_fated fate None ≡ None
QuietWork (Left fate) = read_fated fate None ≡ None

-- and none was found, where a request is open
abbrev Quiet : Stage ActionCall → Type 0
Quiet Resting = Unit {0}
Quiet (Serving v call) = (v.lease ≡ None) × QuietWork v.work
Quiet (Refusing why bytes) = Unit {0}
Quiet (Over end) = Unit {0}

quiet-none : (stage : Stage ActionCall) → Quiet stage → read_heard stage ≡ None
quiet-none Resting quiet = refl
quiet-none (Serving v call) quiet = by v.work quiet.1 where
  by : (w : Work ActionCall) → QuietWork w → read_behind w v.lease ≡ None
  by Reading q = absurd q
  by Opening q = ap found quiet.0
  by (ServingBy tries program) q = ap found quiet.0
  by (Committed place again shown) q = ap found quiet.0
  by (Decided became) q = ap (read_told became) quiet.0 ∙ q
  by (Answered fate bytes) q = ap (read_fated fate) quiet.0 ∙ q
  by (Left fate) q = ap (read_fated fate) quiet.0 ∙ q
quiet-none (Refusing why bytes) quiet = refl
quiet-none (Over end) quiet = refl

own-quiet : (key : List ℕ) (stage : Stage ActionCall) → Quiet stage → Quiet (own_stage key stage)
unfolding own
own-quiet key Resting quiet = tt
own-quiet key (Serving v call) quiet = by v.work quiet.1 where
  by : (w : Work ActionCall) → QuietWork w → (let stage : Stage ActionCall = Serving (own_by key v w) call in Quiet stage)
  by Reading q = absurd q
  by Opening q = quiet
  by (ServingBy tries program) q = quiet
  by (Committed place again shown) q = (quiet.0, refl)
  by (Decided became) q = (quiet.0, q)
  by (Answered fate bytes) q = quiet
  by (Left fate) q = quiet
own-quiet key (Refusing why bytes) quiet = tt
own-quiet key (Over end) quiet = tt

open-quiet : (m : Making ActionCall) (stage : Stage ActionCall) → Quiet stage → Quiet (open_stage m.made m.worker stage)
unfolding open_stage
open-quiet m Resting quiet = tt
open-quiet m (Serving v None) quiet = quiet
open-quiet m (Serving v (Some asked)) quiet = (quiet.0, tt)
open-quiet m (Refusing why bytes) quiet = tt
open-quiet m (Over end) quiet = tt

rested-quiet : (close : Bool) → Quiet (rested close)
rested-quiet true = tt
rested-quiet false = tt

item-quiet : (s : Shepherd ActionCall) → Quiet s.stage → Quiet (item_taken s).0.stage
unfolding item_taken
item-quiet s quiet = by s.stage where
  by : (stage : Stage ActionCall) → Quiet (item_by s stage).0.stage
  by Resting = quiet
  by (Serving v call) = rested-quiet v.facts.close
  by (Refusing why bytes) = quiet
  by (Over end) = quiet

once-quiet : (m : Making ActionCall) (s : Shepherd ActionCall) → Quiet s.stage → Quiet (alone m s).0.stage
unfolding alone
once-quiet m s quiet = by (turn s) where
  by : (t : ShepherdTurn) → Quiet (alone_at m t s).0.stage
  by turns.Bytes = quiet
  by turns.Request = quiet
  by turns.Outside = quiet
  by turns.Windows = quiet
  by turns.Inside = quiet
  by turns.Program = open-quiet m s.stage quiet
  by turns.Own = own-quiet m.key s.stage quiet
  by turns.Output = quiet
  by turns.Item = item-quiet s quiet
  by (turns.Ended end) = quiet

-- nothing is heard of a session by itself
gone-quiet : (m : Making ActionCall) (s : Shepherd ActionCall) (o : ReadOutcome) → Quiet s.stage → read_heard (gone_alone m s).0.stage ≡ Some o → ⊥
unfolding gone_alone
gone-quiet m s o quiet heard =
    let none : None ≡ Some o = sym (quiet-none (alone m (alone m s).0).0.stage (once-quiet m (alone m s).0 (once-quiet m s quiet))) ∙ heard in cc

-- a read that asked nobody yet
fresh-asks : (hs : List Holder) → AreFresh (none_asked hs)
unfolding AreFresh
fresh-asks [] = tt
fresh-asks (h ∷ hs) = (refl, fresh-asks hs)

-- one of its bricks is to be asked
first-turn : (hs : List Holder) → 1 ≤ length hs → (t : Turn Holder) × (turn_in_order (none_asked {A = ReadReply} hs) ≡ Some t)
first-turn [] some = absurd (omega (arith, some))
first-turn (h ∷ hs) some = by (turn_in_order asks) refl where
  asks : List (Ask Holder ReadReply)
  asks = none_asked (h ∷ hs)

  by : (o : Option (Turn Holder)) → turn_in_order asks ≡ o → (t : Turn Holder) × (turn_in_order asks ≡ Some t)
  by None none = absurd (let e : true ≡ false = all_heard_in_order asks none 0 (record { who = h; ear = Open Unasked }) refl in cc)
  by (Some t) is = (t, is)

-- what is answered to a read that asked nobody yet, but that its cookie has expired
abbrev pub unasked-rest : List Holder → Option (Result (List ℕ) ReadRefusal)
unasked-rest hs =
    let asks : List (Ask Holder ReadReply) = none_asked hs in
    found_or (found_in asks) (lost_unless (turn_in_order asks) (filter_map loss_of asks))

-- that is nothing
pub rest-none : (hs : List Holder) → AreHolders hs → unasked-rest hs ≡ None
rest-none hs holders = by (none_asked hs) (fresh-asks hs) (first-turn hs holders.0) where
  by : (asks : List (Ask Holder ReadReply)) → AreFresh asks → ((t : Turn Holder) × (turn_in_order asks ≡ Some t))
      → found_or (found_in asks) (lost_unless (turn_in_order asks) (filter_map loss_of asks)) ≡ None
  by asks fresh first =
      ap (λ (f : Option (List ℕ)). found_or f (lost_unless (turn_in_order asks) (filter_map loss_of asks))) (none_found asks fresh)
      ∙ ap (λ (t : Option (Turn Holder)). lost_unless t (filter_map loss_of asks)) first.1

-- What a read came to that has just begun: its cookie has expired.
record IsPast (now : Moment) (cookie : Cookie) (o : ReadOutcome) : Type 0 where
  is : o ≡ read.Expired now cookie.expiry
  past : cookie.expiry.0 < now.0

start-expired : (now : Moment) (nonce : Version) (cookie : Cookie) (o : ReadOutcome) → AreHolders cookie.bricks → outcome_of_read (read_start now nonce cookie) ≡ Some o → IsPast now cookie o
start-expired now nonce cookie o holders came = by (nat_lt cookie.expiry.0 now.0) refl came where
  r : ReadState
  r = read_start now nonce cookie

  same : (x : ReadOutcome) → Some x ≡ Some o → o ≡ x
  same x is = cc

  by : (b : Bool) → nat_lt cookie.expiry.0 now.0 ≡ b → option_and_then (outcome_by r) (if b then Some (Err (refusal.Expired now cookie.expiry)) else unasked-rest cookie.bricks) ≡ Some o → IsPast now cookie o
  by true late is = record { is = same (read.Expired now cookie.expiry) is; past = ltb-true cookie.expiry.0 now.0 late }
  by false late is = absurd (let e : None ≡ Some o = sym (ap (option_and_then (outcome_by r)) (rest-none cookie.bricks holders)) ∙ is in cc)

-- A request bears a cookie that has expired, and hears so.
pub record HasExpired (key bytes : List ℕ) (now : Moment) (o : ReadOutcome) : Type 0 where
  pub head : Head
  pub cookie : Cookie
  pub bears : BearsCookie key bytes head cookie
  pub is : o ≡ read.Expired now cookie.expiry
  pub past : cookie.expiry.0 < now.0

module _ (laws : AskLaws) (more : BearLaws) (g : SeatGivens) (seat : Seat) (w : SeatWorld) (o : ReadOutcome) where
  abbrev m : Making ActionCall
  m = making_by g

  -- a seat whose connection has no open request
  abbrev k : Shepherd ActionCall
  k = record (seat.connection) { stage = Resting }

  abbrev at : Seat
  at = record { connection = k; twin = seat.twin }

  abbrev Hears : Shepherd ActionCall → Type 0
  Hears s = read_heard (gone_alone m s).0.stage ≡ Some o → HasExpired g.key k.received g.now o

  quiet-hears : (s : Shepherd ActionCall) → Quiet s.stage → Hears s
  quiet-hears s quiet heard = absurd (gone-quiet m s o quiet heard)

  request-hears : (seen : LinkCounts) → Hears (take_request (service_in g w) seen g.now k undrawn).0
  unfolding take_request
  request-hears seen = by (taken_of k.received) refl where
    -- the connection behind a request's bytes, at this stage
    behind : Head → Stage ActionCall → Shepherd ActionCall
    behind head stage = record (takes_by (service_in g w) seen g.now (took.Request head) k undrawn).0 { stage = stage }

    admits : (head : Head) → taken_of k.received ≡ took.Request head → (order : Order) → decided_by (readings_under g.key) w.boot.start.boot head ≡ decided.Ordered order → (c : Option Cookie) → order.cookie ≡ c
        → Hears (behind head (admitted_visit (facts_of (admitted g w order) g.now k.front head) seen (admitted g w order) c))
    admits head taken order is None has = quiet-hears (behind head (admitted_visit (facts_of (admitted g w order) g.now k.front head) seen (admitted g w order) None)) (refl, tt)
    admits head taken order is (Some cookie) has = λ heard.
        let a = admitted g w order in
        let r : ReadState = read_start g.now a.read cookie in
        let v : Visit ActionCall = begun (facts_of a g.now k.front head) seen (way.Reading r) Reading in
        let late : IsPast g.now cookie o = start-expired g.now a.read cookie o (asked-holders laws g.key w.boot.start.boot head order cookie is has)
        (gone-heard m (behind head Resting) v (Some (asked_call a)) r o heard) in
        record {
          head = head;
          cookie = cookie;
          bears = record { taken = taken; accepted = accepted-cookie laws more g.key w.boot.start.boot head order cookie is has };
          is = late.is;
          past = late.past;
        }

    spent : (head : Head) → taken_of k.received ≡ took.Request head → (order : Order) → decided_by (readings_under g.key) w.boot.start.boot head ≡ decided.Ordered order → (x : Option ℕ)
        → Hears (behind head (begun_by k.front seen head g.now (arrival_by g.key (service_in g w).home order g.now (drawing g w order).drawn x)))
    spent head taken order is (Some serial) =
        quiet-hears (behind head (begun_by k.front seen head g.now (arrival_by g.key (service_in g w).home order g.now (drawing g w order).drawn (Some serial)))) (refl, refl)
    spent head taken order is None = admits head taken order is order.cookie refl

    decision : (head : Head) → taken_of k.received ≡ took.Request head → (d : Decision) → decided_by (readings_under g.key) w.boot.start.boot head ≡ d → Hears (behind head (begun_by k.front seen head g.now (arrives_by (service_in g w) g.now d undrawn).0))
    decision head taken (decided.Refused why) is = quiet-hears (behind head (begun_by k.front seen head g.now (arrives_by (service_in g w) g.now (decided.Refused why) undrawn).0)) (refl, refl)
    decision head taken (decided.Ordered order) is = spent head taken order is (drawing g w order).spent

    by : (t : Taken) → taken_of k.received ≡ t → Hears (takes_by (service_in g w) seen g.now t k undrawn).0
    by (took.Request head) taken = decision head taken ((service_in g w).decides head) refl
    by took.Bad taken = quiet-hears (takes_by (service_in g w) seen g.now took.Bad k undrawn).0 tt
    by (took.TooLong len lines) taken = quiet-hears (takes_by (service_in g w) seen g.now (took.TooLong len lines) k undrawn).0 tt
    by took.NoCoding taken = quiet-hears (takes_by (service_in g w) seen g.now took.NoCoding k undrawn).0 tt
    by (took.BodyTooLong said) taken = quiet-hears (takes_by (service_in g w) seen g.now (took.BodyTooLong said) k undrawn).0 tt
    by took.More taken = quiet-hears k tt

  abbrev E : ShepherdTurn → World ActionCall LaneLink
  E t = (event_at (givens_in g w) t (seen_by at w)).0

  event-hears : (t : ShepherdTurn) → Hears (E t).connection
  unfolding output_of
  event-hears turns.Bytes = quiet-hears (E turns.Bytes).connection tt
  event-hears turns.Request = request-hears (counted (lane_link_tally (record { lanes = w.store; active = seat.twin })))
  event-hears turns.Outside = quiet-hears (E turns.Outside).connection tt
  event-hears turns.Windows = quiet-hears (E turns.Windows).connection tt
  event-hears turns.Inside = quiet-hears (E turns.Inside).connection tt
  event-hears turns.Program = quiet-hears (E turns.Program).connection tt
  event-hears turns.Own = quiet-hears (E turns.Own).connection tt
  event-hears turns.Output = quiet-hears (E turns.Output).connection tt
  event-hears turns.Item = quiet-hears (E turns.Item).connection tt
  event-hears (turns.Ended end) = quiet-hears (E (turns.Ended end)).connection tt

-- What a connection hears of a session in the step in which it takes a request: that its cookie has expired.
pub at-once : AskLaws → BearLaws → (g : SeatGivens) (seat : Seat) (w : SeatWorld) (o : ReadOutcome) → seat.connection.stage ≡ Resting → read_heard (seat_step g seat w).seat.connection.stage ≡ Some o → HasExpired g.key seat.connection.received g.now o
unfolding seat_step step
at-once laws more g seat w o rests heard =
    let P : Stage ActionCall → Type 0 =
    λ stage. let s : Shepherd ActionCall = record (seat.connection) { stage = stage } in
    let e : World ActionCall LaneLink = (event_at (givens_in g w) (turn s) (seen_by (record { connection = s; twin = seat.twin }) w)).0 in
    read_heard (gone_alone (making_by g) e.connection).0.stage ≡ Some o → HasExpired g.key seat.connection.received g.now o in
    subst P (sym rests) (event-hears laws more g seat w o (turn (let s : Shepherd ActionCall = record (seat.connection) { stage = Resting } in s))) heard
