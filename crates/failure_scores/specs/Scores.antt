-- What a component's score is, over any list of reports.
use Rattle.std.specs.Prelude.{ℕ, ◌-◌, ◌==◌, ◌&&◌, nat_le, Bool, List, length, filter}
use Rattle.std.specs.List.{list_any}
use Rattle.crash_base.specs.declared.numbers.ComponentNo.{ComponentNo}
use Rattle.crash_base.specs.declared.numbers.Moment.{Moment}
use Rattle.failure_scores.specs.declared.report.TheConstants.{SCORED_MILLISECONDS}
use Rattle.failure_scores.specs.declared.report.PathReport.{PathReport}

-- the report of a path, told at a moment
abbrev pub report_of : List ComponentNo → Moment → PathReport
report_of path moment = record { path = path; moment = moment }

-- whether no more than so many milliseconds passed from a moment until now
abbrev pub is_within : ℕ → Moment → Moment → Bool
is_within milliseconds moment now = nat_le (now.0 - moment.0) milliseconds

-- whether a component is on a path, however often
abbrev pub is_on : ComponentNo → List ComponentNo → Bool
is_on c path = list_any (λ (d : ComponentNo). d.0 == c.0) path

-- whether a report is recent: no more than ten seconds passed since
abbrev pub is_recent : Moment → PathReport → Bool
is_recent now report = is_within SCORED_MILLISECONDS report.moment now

-- whether a report counts for a component: it is recent, and the component is on its path
abbrev pub counts : ComponentNo → Moment → PathReport → Bool
counts c now report = is_recent now report && is_on c report.path

-- the score of a component now: how many of these reports count for it
abbrev pub score : List PathReport → ComponentNo → Moment → ℕ
score reports c now = length (filter (counts c now) reports)
