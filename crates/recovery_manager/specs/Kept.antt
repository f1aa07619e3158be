-- What a manager keeps of all that it was told.
use Rattle.std.specs.Prelude.{◌≡◌, ℕ, ◌<◌, nat_lt, List, length, map, filter, slice_get, Option, Some, None, All}
use Rattle.std.specs.List.{range_with_len}
use Rattle.std.specs.Option.{option_and_then}
use Rattle.crash_base.specs.declared.numbers.ComponentNo.{ComponentNo}
use Rattle.crash_base.specs.declared.numbers.GroupNo.{GroupNo}
use Rattle.crash_base.specs.declared.numbers.Moment.{Moment}
use Rattle.deployment.specs.declared.parts.Parts.{Parts}
use Rattle.deployment.specs.Groups.{group_no, group_of}
use Rattle.failure_scores.specs.declared.report.PathReport.{PathReport}
use Rattle.failure_scores.specs.Scores as scores
use Rattle.recovery_manager.specs.declared.acts.Act.{Act}
use Rattle.recovery_manager.specs.declared.decision.Decision.{Decision}
use Rattle.recovery_manager.specs.declared.decision.Decision.TheVariants as decided
use Rattle.recovery_manager.specs.Decisions.{blamed}
use Rattle.recovery_manager.specs.Events.{ManagerEvent, acts_of, pending, last_moment}
use Rattle.recovery_manager.specs.Levels.{is_recent, next_level}

-- the group of each component
abbrev pub groups_of : Parts → List GroupNo
groups_of parts = map (λ (c : ℕ). group_no (group_of parts c)) (range_with_len 0 (length parts.components))

-- the group of each component, reports and acts, and the moment of the last event
pub record ManagerValue : Type 0 where
  pub groups : List GroupNo
  pub reports : List PathReport
  pub acts : List Act
  pub latest : Moment

-- the numbers on a path that are below a count
abbrev pub known_path : ℕ → List ComponentNo → List ComponentNo
known_path count path = filter (λ (c : ComponentNo). nat_lt c.0 count) path

-- a report with the components of a deployment alone on its path
abbrev pub known_report : ℕ → PathReport → PathReport
known_report count report = scores.report_of (known_path count report.path) report.moment

-- A manager of these parts keeps just what it does after these events.
pub record StandsFor (manager : ManagerValue) (parts : Parts) (events : List ManagerEvent) : Type 0 where
  pub groups : manager.groups ≡ groups_of parts
  pub reports : manager.reports
      ≡ filter (scores.is_recent (last_moment events))
      (map (known_report (length parts.components)) (pending events))
  pub acts : manager.acts ≡ filter (is_recent (last_moment events)) (acts_of events)
  pub latest : manager.latest ≡ last_moment events

-- on the paths of these reports are numbers below a count alone
abbrev pub AreKnown : ℕ → List PathReport → Type 0
AreKnown count reports = All (λ (r : PathReport). All (λ (c : ComponentNo). c.0 < count) r.path) reports

-- the decision for a group that is to be rebooted, if there is one
abbrev pub decision_at : List Act → Moment → Option GroupNo → Decision
decision_at acts now None = decided.None
decision_at acts now (Some group) = decided.Reboot (next_level acts group now)

-- The decision by what is kept: the group of each component, reports and acts.
abbrev pub kept_decision : List GroupNo → List PathReport → List Act → Moment → Decision
kept_decision groups reports acts now =
    decision_at acts now
    (option_and_then (λ (c : ComponentNo). slice_get groups c.0) (blamed (length groups) reports now))
