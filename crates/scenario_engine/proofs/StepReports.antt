-- What steps of connections report, one after the other.
use Rattle.std.proofs.Common.{◌≡◌, ℕ, Bool, true, false, cond, List, [], ◌∷◌, ◌++◌, append-nil, map, Option, Some, None, refl, sym, ap, ◌∙◌}
use Rattle.std.specs.List.{flat_map}
use Rattle.std.specs.Option.{option_to_list}
use Rattle.std.proofs.lemmas.List.{map-append}
use Rattle.std.proofs.lemmas.List.Concat.{flat_map-append}
use Rattle.failure_scores.specs.declared.report.FailureReport.{FailureReport}
use Rattle.scenario_text.specs.Answer.{Done}
use Rattle.scenario_text.specs.declared.seat_line.SeatLine.{SeatLine}
use Rattle.scenario_text.specs.declared.seat_line.SeatLine.TheVariants as lines
use Rattle.seat_lines.proofs.Keeping.{given, line_by_steps, run_by_steps}
use Rattle.seat_lines.proofs.OneSeat.{answer_is}
use Rattle.seat_lines.specs.Items.{line_reports, reports_at, reports_if, step_yields}
use Rattle.seat_lines.specs.Lines.{givens_of, moves, step_line, world_of}
use Rattle.seat_lines.specs.Making.{StepMade, line_makes}
use Rattle.seat_lines.specs.Runs.{seat_line}
use Rattle.seat_lines.specs.Site.{SiteState, seat_at}
use Rattle.seat_steps.specs.Seats.{seat_step}
use Rattle.seat_steps.specs.declared.seat.Seat.{Seat}
use Rattle.session_lanes.specs.Lanes.{LanesState}
use Rattle.shepherd.specs.Shepherds.{turn}
use Rattle.scenario_engine.specs.Reports.{ReportMade, made_over, reports_by, step_reports}
use Rattle.scenario_engine.specs.Serving.{reported_by}

-- what a step reports
abbrev pub reports_in : StepMade → List FailureReport
reports_in step = step_yields reports_at step.site step.number step.keeps

over-site : (s : SiteState) (reports : List FailureReport) → reports_by (made_over s reports) ≡ reports
over-site s [] = refl
over-site s (report ∷ more) = ap (λ (x : List FailureReport). report ∷ x) (over-site s more)

pub reported-all : (steps : List StepMade) → reported_by steps ≡ flat_map reports_in steps
reported-all [] = refl
reported-all (step ∷ steps) =
    map-append (λ (m : ReportMade). m.report) (step_reports step) (flat_map step_reports steps)
    ∙ (ap (λ (x : List FailureReport). x ++ reported_by steps) (over-site step.site (reports_in step))
    ∙ ap (λ (x : List FailureReport). reports_in step ++ x) (reported-all steps))

-- one step more
pub reported-push : (steps : List StepMade) (step : StepMade) → reported_by (steps ++ step ∷ []) ≡ reported_by steps ++ reports_in step
reported-push steps step =
    ap reports_by (flat_map-append step_reports steps (step ∷ []))
    ∙ (map-append (λ (m : ReportMade). m.report) (flat_map step_reports steps) (flat_map step_reports (step ∷ []))
    ∙ ap (λ (x : List FailureReport). reported_by steps ++ x) (reported-all (step ∷ []) ∙ append-nil (reports_in step)))

if-list : (o : Option FailureReport) → reports_if o ≡ option_to_list o
if-list None = refl
if-list (Some report) = refl

module _ (s : SiteState) (n : ℕ) (keeps : Bool) (t : SiteState) (text : List ℕ) (is : step_line s n keeps ≡ Done t text) (seat : Seat) (there : seat_at s.seats.seats n ≡ Some seat) (st : LanesState) (bricks : s.sessions.store ≡ Some st) where
  -- one that moves a connection reports what its seat does
  pub moving-reports : moves (turn seat.connection) ≡ true → step_yields reports_at s n keeps ≡ option_to_list (seat_step (givens_of s n keeps) seat (world_of s st)).report
  moving-reports moving =
      given s n keeps t text is reports_at seat st there bricks
      ∙ (ap (λ (b : Bool). cond b (reports_if (seat_step (givens_of s n keeps) seat (world_of s st)).report) []) moving
      ∙ if-list (seat_step (givens_of s n keeps) seat (world_of s st)).report)

  -- one that does not reports nothing
  pub still-reports : moves (turn seat.connection) ≡ false → step_yields reports_at s n keeps ≡ []
  still-reports still =
      given s n keeps t text is reports_at seat st there bricks
      ∙ ap (λ (b : Bool). cond b (reports_if (seat_step (givens_of s n keeps) seat (world_of s st)).report) []) still

-- what the steps of a line report, step by step
line-steps : (s t : SiteState) (line : SeatLine) (replies : List Bool) (text : List ℕ) → seat_line s line replies ≡ Some (Done t text) → line_reports s line replies ≡ flat_map reports_in (line_makes s line replies)
line-steps s t (lines.Conn n) replies text is = refl
line-steps s t (lines.Bytes n bytes) replies text is = refl
line-steps s t (lines.End n) replies text is = refl
line-steps s t (lines.Step n) [] text is = refl
line-steps s t (lines.Step n) (keeps ∷ more) text is = line_by_steps reports_at n keeps more s t text (answer_is (step_line s n keeps) t text is)
line-steps s t (lines.Run n) replies text is = run_by_steps reports_at n replies s

-- What the steps of a line report is what the line reports.
pub line-reported : (s t : SiteState) (line : SeatLine) (replies : List Bool) (text : List ℕ) → seat_line s line replies ≡ Some (Done t text) → reported_by (line_makes s line replies) ≡ line_reports s line replies
line-reported s t line replies text is = reported-all (line_makes s line replies) ∙ sym (line-steps s t line replies text is)
