-- What connections do with the bricks that sessions lend to their steps.
use Rattle.std.specs.Prelude.{ℕ, Bool, if◌then◌else◌, List, [], ◌∷◌, ◌++◌, Option, Some, None}
use Rattle.scenario_text.specs.Answer.{Refused, Done}
use Rattle.scenario_text.specs.declared.seat_line.SeatLine.{SeatLine}
use Rattle.scenario_text.specs.declared.seat_line.SeatLine.TheVariants as lines
use Rattle.seat_laws.specs.LentSteps.{lent_steps}
use Rattle.seat_lines.specs.Lines.{givens_of, step_line, world_of}
use Rattle.seat_lines.specs.Runs.{rests}
use Rattle.seat_lines.specs.Site.{SiteState, seat_at}
use Rattle.seat_steps.specs.Twinned.{way_in}
use Rattle.seat_steps.specs.declared.seat.Seat.{Seat}
use Rattle.send_windows.specs.Calls.{Spend}
use Rattle.send_windows.specs.declared.pass.Pass.{Pass}
use Rattle.session_lanes.specs.Lanes.{LanesState}
use Rattle.session_steps.specs.Lent.{LentStep, CallsWindows}
use Rattle.session_way.specs.Way.{held}
use Rattle.shepherd.specs.Shepherds.{turn}
use Rattle.shepherd.specs.declared.shepherd.ShepherdTurn.{ShepherdTurn}
use Rattle.shepherd.specs.declared.shepherd.ShepherdTurn.TheVariants as turns

-- what is done at a turn: a connection that waits for bytes or has ended makes no step
abbrev pub lends_at : ShepherdTurn → List LentStep → List LentStep
lends_at turns.Bytes steps = []
lends_at turns.Request steps = steps
lends_at turns.Outside steps = steps
lends_at turns.Windows steps = steps
lends_at turns.Inside steps = steps
lends_at turns.Program steps = steps
lends_at turns.Own steps = steps
lends_at turns.Output steps = steps
lends_at turns.Item steps = steps
lends_at (turns.Ended end) steps = []

-- what a step of a connection over a site does, if it is there, and there are bricks
abbrev pub lends_by : SiteState → ℕ → Bool → Option Seat → Option LanesState → List LentStep
lends_by s n keeps None store = []
lends_by s n keeps (Some seat) None = []
lends_by s n keeps (Some seat) (Some store) =
    lends_at (turn seat.connection) (lent_steps (givens_of s n keeps) seat (world_of s store))

-- what steps of a connection over a site do, where the keeper replies so to one after the other
abbrev pub steps_lend : SiteState → ℕ → List Bool → List LentStep
steps_lend s n [] = []
steps_lend s n (keeps ∷ more) =
    if rests (seat_at s.seats.seats n) then [] else
    (lends_by s n keeps (seat_at s.seats.seats n) s.sessions.store
    ++ (elim (step_line s n keeps) [ Refused ↦ [] | Done t out ↦ steps_lend t n more ]))

-- what a step does, where the keeper replies so first
abbrev pub step_lends : SiteState → ℕ → List Bool → List LentStep
step_lends s n [] = []
step_lends s n (keeps ∷ more) = steps_lend s n (keeps ∷ [])

-- What a line about connections does with the bricks, where the keeper replies so to one step after the other.
abbrev pub line_lends : SiteState → SeatLine → List Bool → List LentStep
line_lends s (lines.Conn n) replies = []
line_lends s (lines.Bytes n bytes) replies = []
line_lends s (lines.End n) replies = []
line_lends s (lines.Step n) replies = step_lends s n replies
line_lends s (lines.Run n) replies = steps_lend s n replies

-- what giving back passes does, if some are held
abbrev pub passes_lend : Option (List Pass) → List LentStep
passes_lend None = []
passes_lend (Some passes) = CallsWindows (Spend passes) ∷ []

-- what connections do that give back what they hold, in the order of their numbers
abbrev pub give_lends : List (Option Seat) → List LentStep
give_lends [] = []
give_lends (None ∷ seats) = give_lends seats
give_lends (Some seat ∷ seats) = passes_lend (held (way_in seat.connection.stage)) ++ give_lends seats
