-- The writes of sessions that connections owe, and the serial numbers that are drawn.
use Rattle.std.specs.Prelude.{◌≡◌, ◌≢◌, ◌⊎◌, ◌≤◌, ◌<◌, ℕ, suc, true, if◌then◌else◌, List, [], ◌∷◌, Option, Some, None}
use Rattle.auction_calls.specs.declared.action.ActionCall.{ActionCall}
use Rattle.crash_base.specs.declared.numbers.Version.{Version}
use Rattle.request_decisions.specs.Draws.{is_serial}
use Rattle.request_decisions.specs.declared.draws.Draw.{Draw}
use Rattle.request_visit.specs.declared.visit.Work.{Work}
use Rattle.request_visit.specs.declared.visit.Work.TheVariants.{Reading, Opening, Serving as ServingBy, Committed, Decided, Answered, Left}
use Rattle.session_way.specs.declared.way.SessionWay.{SessionWay}
use Rattle.session_way.specs.declared.way.SessionWay.TheVariants as way
use Rattle.shepherd.specs.declared.shepherd.Stage.{Stage}
use Rattle.shepherd.specs.declared.shepherd.Stage.TheVariants.{Resting, Serving, Refusing, Over}
use Rattle.seat_steps.specs.Seats.{SeatGivens, SeatWorld, seat_step}
use Rattle.seat_steps.specs.declared.seat.Seat.{Seat}
use Rattle.seat_steps.specs.declared.seat.TheConstants.{NODE}

-- from where on the next serial number is drawn, after a draw
abbrev pub next_from : Draw → ℕ → ℕ
next_from d from = if is_serial d.kind then suc d.number else from

-- The serial numbers among what was drawn rise, from one number on, and are below another.
abbrev pub RiseFrom : ℕ → ℕ → List Draw → Type 0
RiseFrom from end [] = from ≤ end
RiseFrom from end (d ∷ ds) = (is_serial d.kind ≡ true → from ≤ d.number) × RiseFrom (next_from d from) end ds

-- the nonce, where a write is ordered that has not begun
abbrev pub if_ordered : SessionWay → Version → Option Version
if_ordered way.Resting nonce = None
if_ordered (way.Reading r) nonce = None
if_ordered (way.Ordered order) nonce = Some nonce
if_ordered (way.Writing w) nonce = None
if_ordered (way.Settling w) nonce = None
if_ordered (way.Holding passes) nonce = None

-- the nonce, where a request of this work may still begin its write
abbrev pub owed_by : Work ActionCall → SessionWay → Version → Option Version
owed_by Reading to nonce = Some nonce
owed_by Opening to nonce = Some nonce
owed_by (ServingBy tries program) to nonce = Some nonce
owed_by (Committed place again shown) to nonce = if_ordered to nonce
owed_by (Decided became) to nonce = None
owed_by (Answered fate bytes) to nonce = None
owed_by (Left fate) to nonce = None

-- The nonce of the write that the request that is open, if one is, may still begin.
abbrev pub write_owed : Stage ActionCall → Option Version
write_owed Resting = None
write_owed (Serving v call) = owed_by v.work v.way v.facts.write
write_owed (Refusing why bytes) = None
write_owed (Over end) = None

-- A nonce was drawn in a world: it is of the node and of the boot, and its serial number lies from the one that was
-- next there up to this one.
pub record IsDrawnIn (w : SeatWorld) (next : ℕ) (nonce : Version) : Type 0 where
  pub node : nonce.node ≡ NODE
  pub boot : nonce.boot ≡ w.boot.start.boot
  pub from : w.serial ≤ nonce.serial
  pub below : nonce.serial < next

-- A nonce with which a call of a seat begins in a step was owed before, or was drawn in that step; and it is not owed
-- any more.
pub record BeginsWith (g : SeatGivens) (seat : Seat) (w : SeatWorld) (nonce : Version) : Type 0 where
  pub from : (write_owed seat.connection.stage ≡ Some nonce) ⊎ IsDrawnIn w (seat_step g seat w).world.serial nonce
  pub over : write_owed (seat_step g seat w).seat.connection.stage ≢ Some nonce
