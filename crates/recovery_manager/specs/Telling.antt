-- What a manager makes of what it is told, by what it keeps.
use Rattle.std.specs.Prelude.{List, [], ◌∷◌, ◌++◌, length, filter}
use Rattle.crash_base.specs.declared.numbers.Level.TheVariants.{Process}
use Rattle.crash_base.specs.declared.numbers.Moment.{Moment}
use Rattle.deployment.specs.declared.parts.Parts.{Parts}
use Rattle.failure_scores.specs.declared.report.FailureReport.{FailureReport}
use Rattle.failure_scores.specs.declared.report.FailureReport.TheVariants.{Path, JournalFull}
use Rattle.failure_scores.specs.declared.report.PathReport.{PathReport}
use Rattle.failure_scores.specs.Scores as scores
use Rattle.recovery_manager.specs.declared.decision.Decision.{Decision}
use Rattle.recovery_manager.specs.declared.decision.Decision.TheVariants.{Reboot}
use Rattle.recovery_manager.specs.Events.{acts_by, unconsumed, no_earlier}
use Rattle.recovery_manager.specs.Kept.{ManagerValue, groups_of, known_report, kept_decision}
use Rattle.recovery_manager.specs.Levels.{is_recent}

-- a manager after it was told of something, and its decision
pub record Told : Type 0 where
  pub manager : ManagerValue
  pub decision : Decision

-- a manager of these parts that was told of nothing
unfoldable pub new_manager : Parts → ManagerValue
new_manager parts = record { groups = groups_of parts; reports = []; acts = []; latest = record { 0 = 0 } }

-- A manager that decided on an event at a moment, when it kept these reports: the decision is an act where it is one to
-- reboot. It keeps the reports and acts that are recent.
abbrev pub told_of : ManagerValue → List PathReport → Moment → Decision → Told
told_of m reports now decision = record {
  manager = record {
    groups = m.groups;
    reports = filter (scores.is_recent now) reports;
    acts = filter (is_recent now) (m.acts ++ acts_by now decision);
    latest = now;
  };
  decision = decision;
}

-- a manager that decided on the last of these reports, by those of them that it keeps
abbrev pub told_last : ManagerValue → List PathReport → Moment → Decision → Told
told_last m reports now decision = told_of m (unconsumed decision reports) now decision

-- What a manager makes of a report: it decides by the reports and the acts that it keeps, with this report's
-- components. Upon a full journal it reboots the process, whatever it keeps.
unfoldable pub told : ManagerValue → FailureReport → Told
told m (Path report) =
    let reports : List PathReport = m.reports ++ known_report (length m.groups) report ∷ [] in
    told_last m reports report.moment (kept_decision m.groups reports m.acts report.moment)
told m (JournalFull moment) = told_of m m.reports moment (Reboot Process)

-- a report as it is handed on: at no earlier a moment than the last event's
abbrev pub handed_on : ManagerValue → FailureReport → FailureReport
handed_on m report = no_earlier m.latest report
