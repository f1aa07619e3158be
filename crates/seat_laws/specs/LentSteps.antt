-- What a step of any seat does with the bricks that are lent to it, as steps of them, by the turn of its connection.
use Rattle.std.specs.Prelude.{ℕ, Bool, true, false, List, [], ◌∷◌, ◌++◌, Option, Some, None}
use Rattle.lane_link.specs.Links.{wants_to_hear, wants_to_send}
use Rattle.lane_link.specs.Twins.{call_held}
use Rattle.lane_link.specs.declared.link.LaneLink.{LaneLink}
use Rattle.session_steps.specs.Lent.{HearsNone, LentStep, TakesTurn}
use Rattle.session_way.specs.declared.way.SessionWay.{SessionWay}
use Rattle.session_way.specs.declared.way.SessionWay.TheVariants as way
use Rattle.shepherd.specs.Shepherds.{turn}
use Rattle.shepherd.specs.declared.shepherd.ShepherdTurn.{ShepherdTurn}
use Rattle.shepherd.specs.declared.shepherd.ShepherdTurn.TheVariants as turns
use Rattle.ssm_frames.specs.Spelling.{encode_of}
use Rattle.ssm_stub.specs.Reads.{read_ask, read_machine}
use Rattle.ssm_stub.specs.Writes.{write_machine}
use Rattle.ssm_stub.specs.declared.event.StubNext.{StubNext}
use Rattle.ssm_stub.specs.declared.event.StubNext.TheVariants as next
use Rattle.seat_steps.specs.Seats.{SeatGivens, SeatWorld, seat_step}
use Rattle.seat_steps.specs.Twinned.{way_in}
use Rattle.seat_steps.specs.declared.seat.Seat.{Seat}
use Rattle.seat_steps.specs.Begins.{begin_steps}
use Rattle.seat_laws.specs.Lending.{window_steps}

-- what a call of the link does, if its active call wanted this of the brick of a number: that takes a turn, if there is
-- one; else the brick is silent to it
abbrev pub turn_or_silence : Bool → Option ℕ → ℕ → List LentStep
turn_or_silence true None brick = []
turn_or_silence true (Some call) brick = TakesTurn call ∷ []
turn_or_silence false active brick = HearsNone brick ∷ []

-- what a link does where this is wanted, and this is the ask
abbrev pub wanted_steps : LaneLink → List ℕ → StubNext → List LentStep
wanted_steps link ask (next.Send brick) = turn_or_silence (wants_to_send link brick ask) link.active brick.0
wanted_steps link ask (next.Receive brick) = turn_or_silence (wants_to_hear link brick) link.active brick.0
wanted_steps link ask next.Ended = []

-- what a step outside does
abbrev pub outside_steps : SessionWay → LaneLink → List LentStep
outside_steps way.Resting link = []
outside_steps (way.Reading r) link = wanted_steps link (encode_of (read_ask r)) (read_machine.next r)
outside_steps (way.Ordered order) link = []
outside_steps (way.Writing w) link = wanted_steps link (encode_of w.write.ask) (write_machine.next w.write)
outside_steps (way.Settling w) link = wanted_steps link (encode_of w.write.ask) (write_machine.next w.write)
outside_steps (way.Holding passes) link = []

-- what the event at a turn does
abbrev pub turn_steps : ShepherdTurn → SessionWay → LaneLink → List LentStep
turn_steps turns.Bytes to link = []
turn_steps turns.Request to link = []
turn_steps turns.Outside to link = outside_steps to link
turn_steps turns.Windows to link = window_steps to
turn_steps turns.Inside to link = []
turn_steps turns.Program to link = []
turn_steps turns.Own to link = []
turn_steps turns.Output to link = []
turn_steps turns.Item to link = []
turn_steps (turns.Ended end) to link = []

-- What the step of a seat in a world does with the bricks: its event, and then the begin of its twin. It is so of every
-- step, also where the call of the seat is no twin of what its connection does.
unfoldable pub lent_steps : SeatGivens → Seat → SeatWorld → List LentStep
lent_steps g seat w =
    let after : SessionWay = way_in (seat_step g seat w).seat.connection.stage in
    turn_steps (turn seat.connection) (way_in seat.connection.stage) (record { lanes = w.store; active = seat.twin })
    ++ begin_steps (call_held after) seat.twin after
