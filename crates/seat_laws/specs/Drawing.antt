-- The nonces that a seat still needs were drawn in its boot.
use Rattle.std.specs.Prelude.{ℕ, Option, Some, None, IfSome}
use Rattle.crash_base.specs.declared.numbers.Version.{Version}
use Rattle.session_steps.specs.Lent.{WasDrawn}
use Rattle.session_way.specs.declared.way.SessionWay.{SessionWay}
use Rattle.session_way.specs.declared.way.SessionWay.TheVariants as way
use Rattle.seat_steps.specs.Twinned.{way_in}
use Rattle.seat_steps.specs.declared.seat.Seat.{Seat}
use Rattle.seat_laws.specs.Owing.{write_owed}

-- the nonce of the read or the write that a way orders or holds, if it does
abbrev pub nonce_in : SessionWay → Option Version
nonce_in way.Resting = None
nonce_in (way.Reading r) = Some r.nonce
nonce_in (way.Ordered order) = Some order.nonce
nonce_in (way.Writing w) = Some w.write.nonce
nonce_in (way.Settling w) = Some w.write.nonce
nonce_in (way.Holding passes) = None

-- In a boot whose next serial is this were drawn: the nonce of the write that the open request of a seat owes, and that
-- of the read or the write that it orders or holds.
pub record SeatHasDrawn (boot serial : ℕ) (seat : Seat) : Type 0 where
  pub owed : IfSome (write_owed seat.connection.stage) (WasDrawn boot serial)
  pub held : IfSome (nonce_in (way_in seat.connection.stage)) (WasDrawn boot serial)
