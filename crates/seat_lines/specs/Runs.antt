-- Runs of a connection, and what each line about connections comes to.
use Rattle.std.specs.Prelude.{ℕ, ◌&&◌, not, Bool, true, false, if◌then◌else◌, List, [], ◌∷◌, ◌++◌, Option, Some, None, is_some}
use Rattle.scenario_text.specs.Answer.{Answer, Refused, Done}
use Rattle.scenario_text.specs.declared.seat_line.SeatLine.{SeatLine}
use Rattle.scenario_text.specs.declared.seat_line.SeatLine.TheVariants as lines
use Rattle.seat_steps.specs.declared.seat.Seat.{Seat}
use Rattle.shepherd.specs.Shepherds.{turn}
use Rattle.shepherd.specs.declared.shepherd.ShepherdTurn.{ShepherdTurn}
use Rattle.shepherd.specs.declared.shepherd.ShepherdTurn.TheVariants as turns
use Rattle.seat_lines.specs.Lines.{bytes_line, conn_line, end_line, is_beyond, step_line}
use Rattle.seat_lines.specs.Site.{SiteState, seat_at}

-- whether bytes are waited for at a turn
abbrev pub waits_for_bytes : ShepherdTurn → Bool
waits_for_bytes turns.Bytes = true
waits_for_bytes turns.Request = false
waits_for_bytes turns.Outside = false
waits_for_bytes turns.Windows = false
waits_for_bytes turns.Inside = false
waits_for_bytes turns.Program = false
waits_for_bytes turns.Own = false
waits_for_bytes turns.Output = false
waits_for_bytes turns.Item = false
waits_for_bytes (turns.Ended end) = false

-- whether a run is at its end: the connection waits for bytes, or is gone
abbrev pub rests : Option Seat → Bool
rests None = true
rests (Some seat) = waits_for_bytes (turn seat.connection)

-- The steps of a run from here on, behind this text, where the keeper replies so to one after the other: none is made
-- after its end. None where it is not at its end after these replies.
abbrev pub run_from : SiteState → List ℕ → ℕ → List Bool → Option (Answer SiteState)
run_from s text n [] = if rests (seat_at s.seats.seats n) then Some (Done s text) else None
run_from s text n (keeps ∷ more) =
    if rests (seat_at s.seats.seats n) then Some (Done s text) else
    (elim (step_line s n keeps) [
      | Refused ↦ Some Refused
      | Done t out ↦ run_from t (text ++ out) n more
    ])

-- the site after whole steps of a run, where the keeper replies so to them; None where it would go on past its end
abbrev pub steps_from : SiteState → ℕ → List Bool → Option SiteState
steps_from s n [] = Some s
steps_from s n (keeps ∷ more) =
    if rests (seat_at s.seats.seats n) then None else
    (elim (step_line s n keeps) [
      | Refused ↦ None
      | Done t out ↦ steps_from t n more
    ])

-- whether a run can begin: the connection is there, and the site has bricks
abbrev pub can_run : SiteState → ℕ → Bool
can_run s n = not (is_beyond n) && (is_some s.sessions.store && is_some (seat_at s.seats.seats n))

-- A connection makes steps, where the keeper replies so to one after the other, until it waits for bytes or is gone.
-- Refused where it is not there, where no connection has its number, and where the site has no bricks.
unfoldable pub run_line : SiteState → ℕ → List Bool → Option (Answer SiteState)
run_line s n replies = if can_run s n then run_from s [] n replies else Some Refused

-- a connection makes one step, where the keeper replies so first
abbrev pub step_by : SiteState → ℕ → List Bool → Option (Answer SiteState)
step_by s n [] = None
step_by s n (keeps ∷ more) = Some (step_line s n keeps)

-- What a line about connections comes to, where the keeper replies so to one step after the other. None where there are
-- too few replies.
abbrev pub seat_line : SiteState → SeatLine → List Bool → Option (Answer SiteState)
seat_line s (lines.Conn n) replies = Some (conn_line s n)
seat_line s (lines.Bytes n bytes) replies = Some (bytes_line s n bytes)
seat_line s (lines.End n) replies = Some (end_line s n)
seat_line s (lines.Step n) replies = step_by s n replies
seat_line s (lines.Run n) replies = run_line s n replies

-- the line by which a connection goes: a run, where it goes to its end, or a step
abbrev pub going : Bool → ℕ → SeatLine
going true n = lines.Run n
going false n = lines.Step n
