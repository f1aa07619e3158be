-- What lines about connections yield: the bytes that connections put out, the items of requests, and the reports of
-- those that failed.
use Rattle.std.specs.Prelude.{ℕ, Bool, true, false, if◌then◌else◌, List, [], ◌∷◌, ◌++◌, map, Option, Some, None}
use Rattle.std.specs.List.{flat_map}
use Rattle.failure_scores.specs.declared.report.FailureReport.{FailureReport}
use Rattle.outcome_items.specs.declared.item.Item.{Item}
use Rattle.scenario_text.specs.Answer.{Refused, Done}
use Rattle.scenario_text.specs.declared.seat_line.SeatLine.{SeatLine}
use Rattle.scenario_text.specs.declared.seat_line.SeatLine.TheVariants as lines
use Rattle.seat_steps.specs.Seats.{SeatGivens, SeatOutcome, SeatWorld, seat_step}
use Rattle.seat_steps.specs.declared.seat.Seat.{Seat}
use Rattle.session_lanes.specs.Lanes.{LanesState}
use Rattle.shepherd.specs.Shepherds.{turn}
use Rattle.shepherd.specs.declared.shepherd.ShepherdTurn.{ShepherdTurn}
use Rattle.shepherd.specs.declared.shepherd.ShepherdTurn.TheVariants as turns
use Rattle.seat_lines.specs.Lines.{givens_of, is_beyond, moves, step_line, world_of}
use Rattle.seat_lines.specs.Runs.{rests}
use Rattle.seat_lines.specs.Site.{SiteState, seat_at}

-- whether bytes are put out at a turn
abbrev pub puts_out : ShepherdTurn → Bool
puts_out turns.Bytes = false
puts_out turns.Request = false
puts_out turns.Outside = false
puts_out turns.Windows = false
puts_out turns.Inside = false
puts_out turns.Program = false
puts_out turns.Own = false
puts_out turns.Output = true
puts_out turns.Item = false
puts_out (turns.Ended end) = false

-- the bytes that a step at a turn put out which left this, if it put out some
abbrev pub outs_at : ShepherdTurn → SeatOutcome → List (List ℕ)
outs_at turn o = if puts_out turn then o.bytes ∷ [] else []

-- the items that it yielded
abbrev pub items_at : ShepherdTurn → SeatOutcome → List Item
items_at turn o = if moves turn then o.items else []

-- a report, if there is one
abbrev pub reports_if : Option FailureReport → List FailureReport
reports_if None = []
reports_if (Some report) = report ∷ []

-- the reports that it made: at most one
abbrev pub reports_at : ShepherdTurn → SeatOutcome → List FailureReport
reports_at turn o = if moves turn then reports_if o.report else []

-- What a step says: bytes that it puts out, or a report.
pub data Said : Type 0 where
  PutOut : (bytes : List ℕ) → Said
  Reported : (report : FailureReport) → Said

-- what a step at a turn said which left this, in order
abbrev pub said_at : ShepherdTurn → SeatOutcome → List Said
said_at turn o = map PutOut (outs_at turn o) ++ map Reported (reports_at turn o)

-- what the step of a connection in a world yields, if it is there
abbrev pub place_yields : {A : Type 0} → (ShepherdTurn → SeatOutcome → List A) → SeatGivens → Option Seat → SeatWorld → List A
place_yields yields g None w = []
place_yields yields g (Some seat) w = yields (turn seat.connection) (seat_step g seat w)

-- what the step of a connection over these bricks yields, if there are some
abbrev pub over_yields : {A : Type 0} → (ShepherdTurn → SeatOutcome → List A) → SiteState → ℕ → Bool → Option LanesState → List A
over_yields yields s n keeps None = []
over_yields yields s n keeps (Some store) =
    place_yields yields (givens_of s n keeps) (seat_at s.seats.seats n) (world_of s store)

-- what the step of a connection yields, where the keeper keeps what it is handed or not
abbrev pub step_yields : {A : Type 0} → (ShepherdTurn → SeatOutcome → List A) → SiteState → ℕ → Bool → List A
step_yields yields s n keeps = if is_beyond n then [] else over_yields yields s n keeps s.sessions.store

-- what the first step yields, where the keeper replies so first
abbrev pub first_yields : {A : Type 0} → (ShepherdTurn → SeatOutcome → List A) → SiteState → ℕ → List Bool → List A
first_yields yields s n [] = []
first_yields yields s n (keeps ∷ more) = step_yields yields s n keeps

-- what a run yields from here on, in order, where the keeper replies so to one step after the other
abbrev pub run_yields : {A : Type 0} → (ShepherdTurn → SeatOutcome → List A) → SiteState → ℕ → List Bool → List A
run_yields yields s n [] = []
run_yields yields s n (keeps ∷ more) =
    if rests (seat_at s.seats.seats n) then [] else
    (elim (step_line s n keeps) [
      | Refused ↦ []
      | Done t out ↦ step_yields yields s n keeps ++ run_yields yields t n more
    ])

-- what a line about connections yields, in order, where the keeper replies so to one step after the other
abbrev pub line_yields : {A : Type 0} → (ShepherdTurn → SeatOutcome → List A) → SiteState → SeatLine → List Bool → List A
line_yields yields s (lines.Conn n) replies = []
line_yields yields s (lines.Bytes n bytes) replies = []
line_yields yields s (lines.End n) replies = []
line_yields yields s (lines.Step n) replies = first_yields yields s n replies
line_yields yields s (lines.Run n) replies = run_yields yields s n replies

-- The items that a line about connections yields, in order.
abbrev pub line_items : SiteState → SeatLine → List Bool → List Item
line_items s line replies = line_yields items_at s line replies

-- What its connection puts out by it, in order, each response for itself.
abbrev pub line_outs : SiteState → SeatLine → List Bool → List (List ℕ)
line_outs s line replies = line_yields outs_at s line replies

-- The reports that it makes, in order.
abbrev pub line_reports : SiteState → SeatLine → List Bool → List FailureReport
line_reports s line replies = line_yields reports_at s line replies

-- All that it says, in order.
abbrev pub line_says : SiteState → SeatLine → List Bool → List Said
line_says s line replies = line_yields said_at s line replies

-- the bytes among what was said, in order
abbrev pub out_in : Said → List (List ℕ)
out_in (PutOut bytes) = bytes ∷ []
out_in (Reported report) = []

abbrev pub outs_in : List Said → List (List ℕ)
outs_in said = flat_map out_in said

-- the reports among it, in order
abbrev pub report_in : Said → List FailureReport
report_in (PutOut bytes) = []
report_in (Reported report) = report ∷ []

abbrev pub reports_in : List Said → List FailureReport
reports_in said = flat_map report_in said
