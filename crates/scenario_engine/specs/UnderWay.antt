-- Lines that are under way.
use Rattle.std.specs.Prelude.{◌≡◌, ◌⊎◌, ℕ, false, [], Some}
use Rattle.scenario_text.specs.Reading.{line_of}
use Rattle.scenario_text.specs.declared.line.Line.TheVariants as lines
use Rattle.scenario_text.specs.declared.seat_line.SeatLine.TheVariants as seats
use Rattle.seat_lines.specs.Runs.{rests}
use Rattle.seat_lines.specs.Site.{seat_at}
use Rattle.scenario_engine.specs.State.{RunningState, State, Running}
use Rattle.scenario_engine.specs.Transcript.{Turn}

-- A turn makes one more step of this connection than the keeper has replied to: its one step, or one of a run that is
-- not at its end after the steps which led to this state.
pub record MakesOneMore (turn : Turn) (mid : State) : Type 0 where
  pub number : ℕ
  pub running : RunningState
  pub state_is : mid ≡ Running running
  pub goes_on : ((line_of turn.line ≡ Some (lines.Seat (seats.Step number))) × (turn.replies.keeps ≡ []))
      ⊎ ((line_of turn.line ≡ Some (lines.Seat (seats.Run number)))
      × (rests (seat_at running.seats.seats number) ≡ false))
