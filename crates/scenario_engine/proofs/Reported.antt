-- What a line `report` leaves: all but the manager is as it was.
use Rattle.std.proofs.Common.{ℕ, List, Option, Some, None}
use Rattle.failure_scores.specs.declared.report.FailureReport.{FailureReport}
use Rattle.recovery_manager.specs.Kept.{ManagerValue}
use Rattle.scenario_text.proofs.Leaving.{Leaves}
use Rattle.scenario_text.specs.declared.boot_line.BootLine.TheVariants as boots
use Rattle.scenario_engine.specs.Running.{boot_line, with_seats}
use Rattle.scenario_engine.specs.State.{RunningState}
use Rattle.scenario_text.specs.Answer.{or_refused, within}
use Rattle.seat_lines.specs.Hearing.{hears, manager_after, report_line, report_said}

-- the same boot with this manager
abbrev pub with_manager : RunningState → ManagerValue → RunningState
with_manager r manager = with_seats r (record (r.seats) { manager = manager })

-- what holds with any manager holds behind the line
pub leaves_report : (P : RunningState → Type 0) (r : RunningState) (names : List (List ℕ)) → ((manager : ManagerValue) → P (with_manager r manager)) → Leaves P (boot_line r (boots.Report names))
unfolding report_line
leaves_report P r names holds = go (report_said r.boot.start.deployment names r.sessions.moment)
  where
    go : (said : Option FailureReport) → Leaves P (within (with_seats r) (or_refused said (λ report. hears r.seats report)))
    go None = tt
    go (Some report) = holds (manager_after r.seats.manager (Some report))
