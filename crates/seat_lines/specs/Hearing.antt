-- What the manager hears of requests that failed, and what is written of its decisions.
use Rattle.std.specs.Prelude.{ℕ, nat_lt, if◌then◌else◌, List, [], ◌∷◌, length, Option, Some, None, option_map, option_and_then}
use Rattle.crash_base.specs.declared.numbers.ComponentNo.{ComponentNo}
use Rattle.crash_base.specs.declared.numbers.Moment.{Moment}
use Rattle.deployment.specs.Parts.{component_no, named}
use Rattle.deployment.specs.declared.parts.Parts.{Parts}
use Rattle.failure_scores.specs.declared.report.FailureReport.{FailureReport}
use Rattle.failure_scores.specs.declared.report.FailureReport.TheVariants.{Path}
use Rattle.recovery_manager.specs.Kept.{ManagerValue}
use Rattle.recovery_manager.specs.Telling.{handed_on, told}
use Rattle.scenario_text.specs.Answer.{Answer, Done, or_refused}
use Rattle.scenario_text.specs.declared.boot_line.TheConstants.{MAX_PATH}
use Rattle.seat_lines.specs.Site.{SeatsState}
use Rattle.seat_lines.specs.Texts.{decide_text}

-- the manager after it heard what was reported, if something was
abbrev pub manager_after : ManagerValue → Option FailureReport → ManagerValue
manager_after m None = m
manager_after m (Some report) = (told m (handed_on m report)).manager

-- what is written of its decision then
abbrev pub decided_text : ManagerValue → Option FailureReport → List ℕ
decided_text m None = []
decided_text m (Some report) = decide_text (told m (handed_on m report)).decision

-- the manager after it heard these reports, one after the other
abbrev pub manager_by : ManagerValue → List FailureReport → ManagerValue
manager_by m [] = m
manager_by m (report ∷ reports) = manager_by (manager_after m (Some report)) reports

-- the components of these names, if each is the name of one
abbrev pub path_of : Parts → List (List ℕ) → Option (List ComponentNo)
path_of parts [] = Some []
path_of parts (name ∷ names) =
    option_and_then
    (λ n. option_map (λ path. component_no n ∷ path) (path_of parts names))
    (named parts.components name)

-- The report of a line `report` at a moment: a request failed that went through the components of these names. None
-- where a name is no component's, or where they are more than `MAX_PATH`.
abbrev pub report_said : Parts → List (List ℕ) → Moment → Option FailureReport
report_said parts names now =
    if nat_lt MAX_PATH (length names) then None else
    option_map (λ path. Path (record { path = path; moment = now })) (path_of parts names)

-- The manager hears a report, and its decision is written.
abbrev pub hears : SeatsState → FailureReport → Answer SeatsState
hears s report =
    Done (record s { manager = manager_after s.manager (Some report) }) (decided_text s.manager (Some report))

-- A line `report`: the manager hears what it says. Refused where it says no report.
unfoldable pub report_line : Parts → SeatsState → List (List ℕ) → Moment → Answer SeatsState
report_line parts s names now = or_refused (report_said parts names now) (hears s)
