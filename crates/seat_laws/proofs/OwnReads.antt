-- A read that a seat waits for stays as it was asked for, while the seat waits.
use Rattle.std.proofs.Common.{◌≡◌, inl, inr, ◌∙◌, ℕ, Bool, true, false, List, Option, Some, None, refl, sym, ap, subst}
use Rattle.auction_calls.specs.declared.action.ActionCall.{ActionCall}
use Rattle.lane_link.specs.Links.{lane_link_tally}
use Rattle.lane_link.specs.declared.link.LaneLink.{LaneLink}
use Rattle.outside.specs.declared.link.LinkCounts.{LinkCounts}
use Rattle.request_visit.specs.Stepping.{counted}
use Rattle.request_visit.specs.declared.visit.Visit.{Visit}
use Rattle.request_visit.specs.declared.visit.Work.{Work}
use Rattle.request_visit.specs.declared.visit.Work.TheVariants.{Reading, Opening, Serving as ServingBy, Committed, Decided, Answered, Left}
use Rattle.session_cookie.specs.declared.cookie.Holder.{Holder}
use Rattle.session_way.specs.declared.session_read.ReadOutcome.{ReadOutcome}
use Rattle.session_way.specs.declared.session_read.ReadOutcome.TheVariants as read
use Rattle.session_way.specs.declared.way.SessionWay.{SessionWay}
use Rattle.session_way.specs.declared.way.SessionWay.TheVariants as way
use Rattle.shepherd.specs.Shepherds.{turn}
use Rattle.shepherd.specs.Steps.{rested}
use Rattle.shepherd.specs.declared.shepherd.AskedCall.{AskedCall}
use Rattle.shepherd.specs.declared.shepherd.Shepherd.{Shepherd}
use Rattle.shepherd.specs.declared.shepherd.ShepherdTurn.{ShepherdTurn}
use Rattle.shepherd.specs.declared.shepherd.ShepherdTurn.TheVariants as turns
use Rattle.shepherd.specs.declared.shepherd.Stage.{Stage}
use Rattle.shepherd.specs.declared.shepherd.Stage.TheVariants.{Resting, Serving, Refusing, Over}
use Rattle.shepherd_steps.specs.Alone.{Making, alone, alone_at, gone_alone, own_stage}
use Rattle.shepherd_steps.specs.Leaving.{item_by, item_taken}
use Rattle.shepherd_steps.specs.Opening.{open_stage}
use Rattle.shepherd_steps.specs.Outside.{heard_over, machine_after, outside}
use Rattle.shepherd_steps.specs.Own.{heard_read, outcome_of_read, own, own_by, told_read}
use Rattle.shepherd_steps.specs.Stepping.{World, event_at, step}
use Rattle.ssm_frames.specs.Spelling.{encode_of}
use Rattle.ssm_stub.specs.Reads.{ReadState, get_lawful, hear_read, read_ask, read_machine, read_next, turn_of_read}
use Rattle.ssm_stub.specs.Runs.{told_of}
use Rattle.ssm_stub.specs.declared.event.Told.{Told}
use Rattle.ssm_world.proofs.Asks.{asked_after}
use Rattle.ssm_world.specs.Claims.{ReadOrder}
use Rattle.seat_steps.specs.Replies.{lane_replies}
use Rattle.seat_steps.specs.Seats.{SeatGivens, SeatWorld, givens_in, making_by, seat_step}
use Rattle.seat_steps.specs.declared.seat.Seat.{Seat}
use Rattle.seat_laws.proofs.HearingReads.{Waits, WaitingTurn, under-way, waiting-turn, waits}
use Rattle.seat_laws.specs.Reads.{order_of, read_awaited, read_in, read_under_way}

-- no read is waited for
abbrev pub Unread : Stage ActionCall → Type 0
Unread stage = read_under_way stage ≡ None

-- that stays so by what a connection does by itself

own-unread : (key : List ℕ) (stage : Stage ActionCall) → Unread stage → Unread (own_stage key stage)
unfolding own
own-unread key Resting unread = refl
own-unread key (Serving v call) unread = by v.work unread where
  heard : (to : SessionWay) → read_in to ≡ None → (let stage : Stage ActionCall = Serving (heard_read to v) call in Unread stage)
  heard way.Resting is = refl
  heard (way.Reading r) is = absurd (let e : Some r ≡ None = is in cc)
  heard (way.Ordered order) is = refl
  heard (way.Writing w) is = refl
  heard (way.Settling w) is = refl
  heard (way.Holding passes) is = refl

  by : (w : Work ActionCall) → read_awaited w v.way ≡ None → (let stage : Stage ActionCall = Serving (own_by key v w) call in Unread stage)
  by Reading is = heard v.way is
  by Opening is = unread
  by (ServingBy tries program) is = unread
  by (Committed place again shown) is = refl
  by (Decided became) is = refl
  by (Answered fate bytes) is = unread
  by (Left fate) is = unread
own-unread key (Refusing why bytes) unread = refl
own-unread key (Over end) unread = refl

open-unread : (m : Making ActionCall) (stage : Stage ActionCall) → Unread stage → Unread (open_stage m.made m.worker stage)
unfolding open_stage
open-unread m Resting unread = refl
open-unread m (Serving v None) unread = unread
open-unread m (Serving v (Some asked)) unread = refl
open-unread m (Refusing why bytes) unread = refl
open-unread m (Over end) unread = refl

rested-unread : (close : Bool) → Unread (rested close)
rested-unread true = refl
rested-unread false = refl

item-unread : (s : Shepherd ActionCall) → Unread s.stage → Unread (item_taken s).0.stage
unfolding item_taken
item-unread s unread = by s.stage where
  by : (stage : Stage ActionCall) → Unread (item_by s stage).0.stage
  by Resting = unread
  by (Serving v call) = rested-unread v.facts.close
  by (Refusing why bytes) = unread
  by (Over end) = unread

pub once-unread : (m : Making ActionCall) (s : Shepherd ActionCall) → Unread s.stage → Unread (alone m s).0.stage
unfolding alone
once-unread m s unread = by (turn s) where
  by : (t : ShepherdTurn) → Unread (alone_at m t s).0.stage
  by turns.Bytes = unread
  by turns.Request = unread
  by turns.Outside = unread
  by turns.Windows = unread
  by turns.Inside = unread
  by turns.Program = open-unread m s.stage unread
  by turns.Own = own-unread m.key s.stage unread
  by turns.Output = unread
  by turns.Item = item-unread s unread
  by (turns.Ended end) = unread

pub gone-unread : (m : Making ActionCall) (s : Shepherd ActionCall) → Unread s.stage → Unread (gone_alone m s).0.stage
unfolding gone_alone
gone-unread m s unread = once-unread m (alone m s).0 (once-unread m s unread)

-- by what it does by itself, a connection that waits for a read waits for no other
module _ (m : Making ActionCall) (s : Shepherd ActionCall) (v : Visit ActionCall) (call : Option AskedCall) (r after : ReadState) where
  abbrev waiter : Shepherd ActionCall
  waiter = waits s v call r

  -- the connection once its request was told what its read came to
  abbrev told : Option ReadOutcome → Shepherd ActionCall
  told x = record s { stage = Serving (told_read x (record v { work = Reading; way = way.Reading r })) call }

  abbrev Asks : Shepherd ActionCall → Type 0
  Asks k = read_under_way k.stage ≡ Some after → after ≡ r

  same-read : Asks waiter
  same-read is = let e : Some r ≡ Some after = is in cc

  unread-asks : (k : Shepherd ActionCall) → Unread k.stage → Asks k
  unread-asks k none is = absurd (let e : None ≡ Some after = sym none ∙ is in cc)

  told-asks : (x : Option ReadOutcome) → Asks (told x)
  told-asks None = same-read
  told-asks (Some (read.Found lease)) = unread-asks (told (Some (read.Found lease))) refl
  told-asks (Some (read.Expired now expiry)) = unread-asks (told (Some (read.Expired now expiry))) refl
  told-asks (Some (read.Lost causes)) = unread-asks (told (Some (read.Lost causes))) refl

  once-asks : Asks (alone m waiter).0
  unfolding alone own
  once-asks = by (turn waiter) (waiting-turn s v call r) where
    K : ShepherdTurn → Type 0
    K t = Asks (alone_at m t waiter).0

    by : (t : ShepherdTurn) → WaitingTurn t → K t
    by t (inl is) = subst K (sym is) same-read
    by t (inr (inl is)) = subst K (sym is) (told-asks (outcome_of_read r))
    by t (inr (inr is)) = subst K (sym is.1) same-read

  then-asks : (x : Option ReadOutcome) → Asks (alone m (told x)).0
  then-asks None = once-asks
  then-asks (Some (read.Found lease)) = unread-asks (alone m (told (Some (read.Found lease)))).0 (once-unread m (told (Some (read.Found lease))) refl)
  then-asks (Some (read.Expired now expiry)) = unread-asks (alone m (told (Some (read.Expired now expiry)))).0 (once-unread m (told (Some (read.Expired now expiry))) refl)
  then-asks (Some (read.Lost causes)) = unread-asks (alone m (told (Some (read.Lost causes)))).0 (once-unread m (told (Some (read.Lost causes))) refl)

  pub gone-asks : Asks (gone_alone m waiter).0
  unfolding gone_alone alone own
  gone-asks = by (turn waiter) (waiting-turn s v call r) where
    K : ShepherdTurn → Type 0
    K t = Asks (alone m (alone_at m t waiter).0).0

    by : (t : ShepherdTurn) → WaitingTurn t → K t
    by t (inl is) = subst K (sym is) once-asks
    by t (inr (inl is)) = subst K (sym is) (then-asks (outcome_of_read r))
    by t (inr (inr is)) = subst K (sym is.1) once-asks

-- what a read was asked for as stays through what it hears
order-stays : (r : ReadState) (told : Told) → order_of (hear_read r told) ≡ order_of r
order-stays r told =
    ap (λ (hs : List Holder). let o : ReadOrder = record { nonce = r.nonce; moment = r.moment; cookie = record { key = r.key; version = r.version; expiry = r.expiry; bricks = hs } } in o)
    (asked_after (get_lawful r.nonce r.key r.version r.expiry) told r.asks (turn_of_read r))

module _ (g : SeatGivens) (w : SeatWorld) (link : LaneLink) (r after : ReadState) where
  abbrev seen : Shepherd ActionCall → World ActionCall LaneLink
  seen s = record { connection = s; boot = w.boot; since = w.since; windows = w.store.windows; link = link; drawn = record { words = 0; serials = 0 } }

  -- what is waited for behind an event, where anything is, was asked for as before
  abbrev Same : ShepherdTurn → Shepherd ActionCall → Type 0
  Same t s = read_under_way (gone_alone (making_by g) (event_at (givens_in g w) t (seen s)).0.connection).0.stage ≡ Some after → order_of after ≡ order_of r

  event-same : (s : Shepherd ActionCall) (v : Visit ActionCall) (call : Option AskedCall) (t : ShepherdTurn) → WaitingTurn t → Same t (waits s v call r)
  unfolding outside
  event-same s v call t turn_is = by turn_is where
    K : ShepherdTurn → Type 0
    K x = Same x (waits s v call r)

    rests : read_under_way (gone_alone (making_by g) (waits s v call r)).0.stage ≡ Some after → order_of after ≡ order_of r
    rests is = ap order_of (gone-asks (making_by g) s v call r after is)

    goes-on : K turns.Outside
    goes-on is =
        let heard = heard_over lane_replies (encode_of (read_ask r)) (read_next r) link in
        let then = machine_after read_machine lane_replies (encode_of (read_ask r)) r link in
        let counts : LinkCounts = counted (lane_link_tally then.1) in
        ap order_of (gone-asks (making_by g) s (record v { counts = counts }) call then.0 after is) ∙ order-stays r (told_of heard.0)

    by : WaitingTurn t → K t
    by (inl is) = subst K (sym is) goes-on
    by (inr (inl is)) = subst K (sym is) rests
    by (inr (inr is)) = subst K (sym is.1) rests

  pub step-same : (s : Shepherd ActionCall) → read_under_way s.stage ≡ Some r → Same (turn s) s
  step-same s is =
      let x : Waits s.stage r = under-way s.stage r is in
      let P : Stage ActionCall → Type 0 = λ stage. let k : Shepherd ActionCall = record s { stage = stage } in Same (turn k) k in
      subst P (sym x.is) (event-same s x.visit x.call (turn (waits s x.visit x.call r)) (waiting-turn s x.visit x.call r))

-- A read that a seat waits for behind its step, and waited for before, is as it was asked for.
pub same-order : (g : SeatGivens) (seat : Seat) (w : SeatWorld) (r after : ReadState) → read_under_way seat.connection.stage ≡ Some r → read_under_way (seat_step g seat w).seat.connection.stage ≡ Some after → order_of after ≡ order_of r
unfolding seat_step step
same-order g seat w r after waits = step-same g w (record { lanes = w.store; active = seat.twin }) r after seat.connection waits
