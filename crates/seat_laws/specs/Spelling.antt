-- The text of what a seat commits spells the call of its program.
use Rattle.std.specs.Prelude.{◌≡◌, true}
use Rattle.auction_calls.specs.Calls.{is_call}
use Rattle.auction_calls.specs.Texts.{Spells}
use Rattle.auction_calls.specs.declared.action.ActionCall.{ActionCall}
use Rattle.request_tries.specs.Serving.{TriesValue}
use Rattle.shepherd.specs.declared.shepherd.AskedCall.{AskedCall}
use Rattle.seat_steps.specs.declared.seat.Seat.{Seat}
use Rattle.seat_laws.specs.Fitting.{AsksAndServes}

-- each field of what is asked for is in its range
abbrev pub AsksInRange : AskedCall → Type 0
AsksInRange asked = is_call asked.call ≡ true

-- the text of a request that is served spells the call of its program
abbrev pub TextSpells : TriesValue → ActionCall → Type 0
TextSpells tries program = Spells tries.text program

-- The request that is open in a seat, if one is, asks for a call in its ranges; and where it is served, the text that
-- it would commit spells the call of its program.
pub record SeatSpells (seat : Seat) : Type 0 where
  pub stage : AsksAndServes AsksInRange TextSpells seat.connection.stage
