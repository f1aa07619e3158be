-- What is decided on a report, over any lists of reports and acts.
use Rattle.std.specs.Prelude.{ℕ, ◌&&◌, nat_le, Bool, List, length, map, find, Option, Some, None}
use Rattle.std.specs.List.{list_all, range_with_len}
use Rattle.crash_base.specs.declared.numbers.ComponentNo.{ComponentNo}
use Rattle.crash_base.specs.declared.numbers.GroupNo.{GroupNo}
use Rattle.crash_base.specs.declared.numbers.Moment.{Moment}
use Rattle.deployment.specs.declared.parts.Parts.{Parts}
use Rattle.deployment.specs.Groups.{group_no, group_of}
use Rattle.deployment.specs.Parts.{component_no}
use Rattle.failure_scores.specs.declared.report.PathReport.{PathReport}
use Rattle.failure_scores.specs.Scores.{score}
use Rattle.recovery_manager.specs.declared.acts.Act.{Act}
use Rattle.recovery_manager.specs.declared.decision.TheConstants.{REPORTS_TO_REBOOT}
use Rattle.recovery_manager.specs.declared.decision.Decision.{Decision}
use Rattle.recovery_manager.specs.declared.decision.Decision.TheVariants as decided
use Rattle.recovery_manager.specs.Levels.{next_level}

-- the components of a deployment of so many, in order of number
abbrev pub components_of : ℕ → List ComponentNo
components_of count = map component_no (range_with_len 0 count)

-- Whether one of so many components is to blame: three reports or more count for it, and for no component more.
abbrev pub is_to_blame : ℕ → List PathReport → Moment → ComponentNo → Bool
is_to_blame count reports now c =
    nat_le REPORTS_TO_REBOOT (score reports c now)
    && list_all (λ (d : ComponentNo). nat_le (score reports d now) (score reports c now)) (components_of count)

-- the component to blame among so many: of several the one with the least number
abbrev pub blamed : ℕ → List PathReport → Moment → Option ComponentNo
blamed count reports now = find (is_to_blame count reports now) (components_of count)

-- the group of a component
abbrev pub own_group : Parts → ComponentNo → GroupNo
own_group parts c = group_no (group_of parts c.0)

-- the decision for the component to blame, if there is one
abbrev pub decision_for : Parts → List Act → Moment → Option ComponentNo → Decision
decision_for parts acts now None = decided.None
decision_for parts acts now (Some c) = decided.Reboot (next_level acts (own_group parts c) now)

-- The decision: nothing where no component is to blame, and else a reboot of its group, or a wider one.
abbrev pub decision_of : Parts → List PathReport → List Act → Moment → Decision
decision_of parts reports acts now =
    decision_for parts acts now (blamed (length parts.components) reports now)
