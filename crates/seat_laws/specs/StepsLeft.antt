-- How many steps are left for a seat at most, until it waits for bytes or is gone.
use Rattle.std.specs.Prelude.{ℕ, ◌+◌, ◌*◌, ◌<◌, length}
use Rattle.auction_calls.specs.declared.action.ActionCall.{ActionCall}
use Rattle.boot_core.specs.Boot.{BootValue}
use Rattle.request_tries.specs.Serving.{TriesValue}
use Rattle.request_tries.specs.declared.outcome.TheConstants.{MAX_TRIES}
use Rattle.shepherd.specs.declared.shepherd.AskedCall.{AskedCall}
use Rattle.shepherd.specs.declared.shepherd.Shepherd.{Shepherd}
use Rattle.shepherd.specs.declared.shepherd.Stage.{Stage}
use Rattle.shepherd.specs.declared.shepherd.Stage.TheVariants.{Resting, Serving, Refusing, Over}
use Rattle.shepherd_steps.specs.Alone.{HasCall}
use Rattle.unhindered_requests.specs.StepsLeft.{steps_left}
use Rattle.seat_steps.specs.declared.seat.Seat.{Seat}
use Rattle.seat_laws.specs.Fitting.{AsksAndServes, SeatFits}

-- the steps that are left at a stage: one to go, one for the last response, one to take what follows, one for the item
-- of the request that is open, and those of the request
abbrev pub stage_left : Stage ActionCall → ℕ
stage_left Resting = 3
stage_left (Serving v call) = 4 + steps_left v
stage_left (Refusing why bytes) = 2
stage_left (Over end) = 1

-- the steps for a request that is to be taken off the bytes: it is taken, has 2,476 at most, and its item is taken
abbrev pub steps_each : ℕ
steps_each = 2478

-- the steps that are left for a connection: each byte that was not taken may be a request
abbrev pub connection_left : Shepherd ActionCall → ℕ
connection_left s = length s.received * steps_each + stage_left s.stage

-- The steps that are left for a seat at most.
abbrev pub seat_left : Seat → ℕ
seat_left seat = connection_left seat.connection

-- a request that is served had fewer tries than it may have
abbrev pub HasTriesLeft : Stage ActionCall → Type 0
HasTriesLeft stage =
    AsksAndServes (λ (asked : AskedCall). Unit {0}) (λ (tries : TriesValue) (program : ActionCall). length tries.tries < MAX_TRIES) stage

-- The steps of a seat are counted in a boot: the seat fits it, the call of its request is there until its program is
-- made, and a request that is served had fewer tries than it may have.
pub record IsCounted (boot : BootValue) (seat : Seat) : Type 0 where
  pub fits : SeatFits boot seat
  pub called : HasCall seat.connection.stage
  pub tries : HasTriesLeft seat.connection.stage
