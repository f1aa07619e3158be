-- What a step of a seat does with the bricks that are lent to it, as steps of them.
use Rattle.std.specs.Prelude.{ℕ, List, [], ◌∷◌, ◌++◌, map, Option, Some, None}
use Rattle.lane_link.specs.Twins.{call_held}
use Rattle.send_windows.specs.Calls.{Spend, Take}
use Rattle.send_windows.specs.Passes.{hushed}
use Rattle.session_steps.specs.Lent.{CallsWindows, LentStep, TakesTurn}
use Rattle.session_way.specs.Writing.{passes_spent}
use Rattle.session_way.specs.declared.way.SessionWay.{SessionWay}
use Rattle.session_way.specs.declared.way.SessionWay.TheVariants as way
use Rattle.shepherd.specs.Shepherds.{turn}
use Rattle.shepherd.specs.declared.shepherd.ShepherdTurn.{ShepherdTurn}
use Rattle.shepherd.specs.declared.shepherd.ShepherdTurn.TheVariants as turns
use Rattle.seat_steps.specs.Begins.{begin_steps}
use Rattle.seat_steps.specs.Seats.{SeatGivens, SeatWorld, seat_step}
use Rattle.seat_steps.specs.Twinned.{way_in}
use Rattle.seat_steps.specs.declared.seat.Seat.{Seat}

-- the call of the windows that a way makes at its step of them
abbrev pub window_steps : SessionWay → List LentStep
window_steps way.Resting = []
window_steps (way.Reading r) = []
window_steps (way.Ordered order) = CallsWindows (Take order.nonce.serial) ∷ []
window_steps (way.Writing w) = []
window_steps (way.Settling w) = CallsWindows (Spend (passes_spent w)) ∷ []
window_steps (way.Holding passes) = CallsWindows (Spend (map hushed passes)) ∷ []

-- the turn of a twin, if there is one
abbrev pub twin_steps : Option ℕ → List LentStep
twin_steps None = []
twin_steps (Some n) = TakesTurn n ∷ []

-- what the event at a turn does with the bricks
abbrev pub event_steps : ShepherdTurn → Option ℕ → SessionWay → List LentStep
event_steps turns.Bytes twin to = []
event_steps turns.Request twin to = []
event_steps turns.Outside twin to = twin_steps twin
event_steps turns.Windows twin to = window_steps to
event_steps turns.Inside twin to = []
event_steps turns.Program twin to = []
event_steps turns.Own twin to = []
event_steps turns.Output twin to = []
event_steps turns.Item twin to = []
event_steps (turns.Ended end) twin to = []

-- What a step of a seat does with the bricks of a world: what its event does, and then the begin of its twin.
unfoldable pub seat_lends : SeatGivens → Seat → SeatWorld → List LentStep
seat_lends g seat w =
    event_steps (turn seat.connection) seat.twin (way_in seat.connection.stage)
    ++ begin_steps (call_held (way_in (seat_step g seat w).seat.connection.stage)) seat.twin
    (way_in (seat_step g seat w).seat.connection.stage)
