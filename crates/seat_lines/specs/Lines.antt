-- What a line about one connection does, but for a run.
use Rattle.std.specs.Prelude.{ℕ, ◌+◌, nat_lt, Bool, true, false, List, [], ◌++◌, Option, Some, None, is_some, string_bytes}
use Rattle.crash_base.specs.declared.numbers.WorkerNo.{WorkerNo}
use Rattle.recovery_manager.specs.Kept.{ManagerValue}
use Rattle.scenario_text.specs.Answer.{Answer, Refused, Done, or_refused, refused_if, within}
use Rattle.scenario_text.specs.declared.seat_line.TheConstants.{MAX_SEAT}
use Rattle.scenario_text.specs.declared.answer.LineAnswer.{LineAnswer}
use Rattle.scenario_text.specs.declared.answer.LineAnswer.TheVariants as answers
use Rattle.seat_steps.specs.Seats.{SeatGivens, SeatOutcome, SeatWorld, seat_step}
use Rattle.seat_steps.specs.declared.seat.Seat.{Seat}
use Rattle.session_lanes.specs.Lanes.{LanesState}
use Rattle.session_steps.specs.Lent.{lent_out, put_back}
use Rattle.shepherd.specs.Shepherds.{fresh, turn}
use Rattle.shepherd.specs.declared.shepherd.EndKind.{EndKind}
use Rattle.shepherd.specs.declared.shepherd.ShepherdTurn.{ShepherdTurn}
use Rattle.shepherd.specs.declared.shepherd.ShepherdTurn.TheVariants as turns
use Rattle.seat_lines.specs.Hearing.{decided_text, manager_after}
use Rattle.seat_lines.specs.Site.{SiteState, padded, seat_at, with_seat, with_seats}
use Rattle.seat_lines.specs.Texts.{gone_text, out_text}
use Rattle.seat_lines.specs.declared.seats.TheConstants.{FIRST_WORKER}

-- who serves at a connection of this number
abbrev pub worker_of : ℕ → WorkerNo
worker_of n = record { 0 = FIRST_WORKER + n }

-- a connection that has just opened
abbrev pub new_seat : Seat
new_seat = record { connection = fresh; twin = None }

-- whether no connection has this number
abbrev pub is_beyond : ℕ → Bool
is_beyond n = nat_lt MAX_SEAT n

-- a connection opens, if it is not there
unfoldable pub open_line : SiteState → ℕ → Answer SiteState
open_line s n =
    refused_if (is_some (seat_at s.seats.seats n))
    (Done (with_seat (with_seats s (padded s.seats.seats n)) n (Some new_seat)) [])

-- A connection opens. Refused where it is there, and where no connection has its number.
abbrev pub conn_line : SiteState → ℕ → Answer SiteState
conn_line s n = refused_if (is_beyond n) (open_line s n)

-- a connection to which bytes came
abbrev pub fed : Seat → List ℕ → Seat
fed seat bytes = record seat { connection = record (seat.connection) { received = seat.connection.received ++ bytes } }

-- bytes come in on a connection that is there and whose input has not ended
abbrev pub bytes_step : List ℕ → Option Seat → Answer (Option Seat)
bytes_step bytes None = Refused
bytes_step bytes (Some seat) = refused_if seat.connection.ended (Done (Some (fed seat bytes)) [])

-- Bytes come in on a connection. Refused where it is not there, or its input has ended.
unfoldable pub bytes_line : SiteState → ℕ → List ℕ → Answer SiteState
bytes_line s n bytes = within (with_seat s n) (bytes_step bytes (seat_at s.seats.seats n))

-- a connection to which no more bytes come
abbrev pub ended : Seat → Seat
ended seat = record seat { connection = record (seat.connection) { ended = true } }

-- the input of a connection ends that is there and whose input has not ended
abbrev pub end_step : Option Seat → Answer (Option Seat)
end_step None = Refused
end_step (Some seat) = refused_if seat.connection.ended (Done (Some (ended seat)) [])

-- The input of a connection ends. Refused where it is not there, or its input has ended.
unfoldable pub end_line : SiteState → ℕ → Answer SiteState
end_line s n = within (with_seat s n) (end_step (seat_at s.seats.seats n))

-- what the step of a connection is given, where the keeper keeps what it is handed or not
abbrev pub givens_of : SiteState → ℕ → Bool → SeatGivens
givens_of s n keeps =
    record { key = s.sessions.key; worker = worker_of n; now = s.sessions.moment; keeps = keeps }

-- the site over these bricks, as the step of a connection sees it
abbrev pub world_of : SiteState → LanesState → SeatWorld
world_of s store = record {
  boot = s.boot;
  since = s.since;
  store = store;
  word = s.seats.word;
  serial = s.sessions.serial;
}

-- A place for a connection, which is there or not, with the world that its steps change and the manager that hears what
-- they report.
pub record Place : Type 0 where
  pub seat : Option Seat
  pub world : SeatWorld
  pub manager : ManagerValue

-- what a connection writes by a step at a turn, which put out these bytes: they are told where a response leaves
abbrev pub step_text : ShepherdTurn → ℕ → List ℕ → List ℕ
step_text turns.Bytes n bytes = []
step_text turns.Request n bytes = []
step_text turns.Outside n bytes = []
step_text turns.Windows n bytes = []
step_text turns.Inside n bytes = []
step_text turns.Program n bytes = []
step_text turns.Own n bytes = []
step_text turns.Output n bytes = out_text n bytes
step_text turns.Item n bytes = []
step_text (turns.Ended end) n bytes = []

-- what the code's answer to a step writes
abbrev pub text_of : LineAnswer → List ℕ
text_of answers.Refused = []
text_of answers.Done = []
text_of (answers.Wrote text) = string_bytes text

-- whether a step of a connection is made at a turn: it waits for no bytes, and has not ended
abbrev pub moves : ShepherdTurn → Bool
moves turns.Bytes = false
moves turns.Request = true
moves turns.Outside = true
moves turns.Windows = true
moves turns.Inside = true
moves turns.Program = true
moves turns.Own = true
moves turns.Output = true
moves turns.Item = true
moves (turns.Ended end) = false

-- how a connection has ended, by its turn, if it has
abbrev pub end_of : ShepherdTurn → Option EndKind
end_of turns.Bytes = None
end_of turns.Request = None
end_of turns.Outside = None
end_of turns.Windows = None
end_of turns.Inside = None
end_of turns.Program = None
end_of turns.Own = None
end_of turns.Output = None
end_of turns.Item = None
end_of (turns.Ended end) = Some end

-- what a connection comes to that makes no step: one that has ended so goes, if it has; else it does nothing
abbrev pub still_by : Option EndKind → ℕ → Seat → SeatWorld → ManagerValue → Answer Place
still_by None n seat w m = Done (record { seat = Some seat; world = w; manager = m }) []
still_by (Some end) n seat w m = Done (record { seat = None; world = w; manager = m }) (gone_text n end)

-- the same in its place: refused where it is not there
abbrev pub still_step : ℕ → Option Seat → SeatWorld → ManagerValue → Answer Place
still_step n seat w m = or_refused seat (λ there. still_by (end_of (turn there.connection)) n there w m)

-- what the step of a connection comes to that was made at a turn: the manager hears what it reported, and the decision
-- is written behind what the connection writes
abbrev pub moved : ShepherdTurn → ℕ → SeatOutcome → ManagerValue → Answer Place
moved turn n o m =
    Done (record { seat = Some o.seat; world = o.world; manager = manager_after m o.report })
    (step_text turn n o.bytes ++ decided_text m o.report)

-- what a connection comes to at a turn: one that waits for bytes does nothing, and one that has ended goes
abbrev pub steps_at : ShepherdTurn → SeatGivens → ℕ → Seat → SeatWorld → ManagerValue → Answer Place
steps_at turns.Bytes g n seat w m = Done (record { seat = Some seat; world = w; manager = m }) []
steps_at turns.Request g n seat w m = moved turns.Request n (seat_step g seat w) m
steps_at turns.Outside g n seat w m = moved turns.Outside n (seat_step g seat w) m
steps_at turns.Windows g n seat w m = moved turns.Windows n (seat_step g seat w) m
steps_at turns.Inside g n seat w m = moved turns.Inside n (seat_step g seat w) m
steps_at turns.Program g n seat w m = moved turns.Program n (seat_step g seat w) m
steps_at turns.Own g n seat w m = moved turns.Own n (seat_step g seat w) m
steps_at turns.Output g n seat w m = moved turns.Output n (seat_step g seat w) m
steps_at turns.Item g n seat w m = moved turns.Item n (seat_step g seat w) m
steps_at (turns.Ended end) g n seat w m = Done (record { seat = None; world = w; manager = m }) (gone_text n end)

-- A connection makes one step in a world, and the manager hears what it reports. Refused where it is not there.
unfoldable pub place_step : SeatGivens → ℕ → Option Seat → SeatWorld → ManagerValue → Answer Place
place_step g n seat w m = or_refused seat (λ there. steps_at (turn there.connection) g n there w m)

-- the site with this place for a connection
abbrev pub with_place : SiteState → ℕ → Place → SiteState
with_place s n place = with_seat (record {
  boot = place.world.boot;
  since = place.world.since;
  sessions = put_back (lent_out s.sessions) (Some place.world.store) place.world.serial;
  seats = record (s.seats) { word = place.world.word; manager = place.manager };
}) n place.seat

-- a connection makes one step over these bricks of the site
abbrev pub step_over : SiteState → ℕ → Bool → LanesState → Answer SiteState
step_over s n keeps store =
    within (with_place s n) (place_step (givens_of s n keeps) n (seat_at s.seats.seats n) (world_of s store) s.seats.manager)

-- A connection makes one step, where the keeper keeps what it is handed or not. Refused where it is not there, where no
-- connection has its number, and where the site has no bricks.
unfoldable pub step_line : SiteState → ℕ → Bool → Answer SiteState
step_line s n keeps =
    refused_if (is_beyond n) (or_refused s.sessions.store (λ store. step_over s n keeps store))
