-- What a manager was told and what it decided, from the first event on.
use Rattle.std.specs.Prelude.{nat_lt, Bool, true, false, if◌then◌else◌, List, [], ◌∷◌, ◌++◌}
use Rattle.std.specs.List.{list_any, flat_map, fold}
use Rattle.crash_base.specs.declared.numbers.Level.TheVariants.{Process}
use Rattle.crash_base.specs.declared.numbers.Moment.{Moment}
use Rattle.deployment.specs.declared.parts.Parts.{Parts}
use Rattle.failure_scores.specs.declared.report.FailureReport.{FailureReport}
use Rattle.failure_scores.specs.declared.report.FailureReport.TheVariants.{Path, JournalFull}
use Rattle.failure_scores.specs.declared.report.PathReport.{PathReport}
use Rattle.failure_scores.specs.Scores.{report_of}
use Rattle.recovery_manager.specs.declared.acts.Act.{Act}
use Rattle.recovery_manager.specs.declared.decision.Decision.{Decision}
use Rattle.recovery_manager.specs.declared.decision.Decision.TheVariants.{None, Reboot}
use Rattle.recovery_manager.specs.Decisions.{decision_of}

-- a report with what was decided on it, or a journal that was full, upon which the process is rebooted
pub data ManagerEvent : Type 0 where
  Reported : (report : PathReport) (decision : Decision) → ManagerEvent
  JournalFilled : (moment : Moment) → ManagerEvent

-- the act of a decision at a moment, where it is one to reboot
abbrev pub acts_by : Moment → Decision → List Act
acts_by moment None = []
acts_by moment (Reboot level) = record { moment = moment; level = level } ∷ []

-- the act of an event, where it brought a reboot
abbrev pub acts_in : ManagerEvent → List Act
acts_in (Reported report decision) = acts_by report.moment decision
acts_in (JournalFilled moment) = record { moment = moment; level = Process } ∷ []

-- all acts, the first first
abbrev pub acts_of : List ManagerEvent → List Act
acts_of events = flat_map acts_in events

-- whether a decision is one to reboot
abbrev pub is_reboot : Decision → Bool
is_reboot None = false
is_reboot (Reboot level) = true

-- whether a report brought a reboot
abbrev pub consumes : ManagerEvent → Bool
consumes (Reported report decision) = is_reboot decision
consumes (JournalFilled moment) = false

-- the report of an event, where it is one
abbrev pub reports_in : ManagerEvent → List PathReport
reports_in (Reported report decision) = report ∷ []
reports_in (JournalFilled moment) = []

-- The reports that are not consumed: neither they nor a later report brought a reboot.
abbrev pub pending : List ManagerEvent → List PathReport
pending [] = []
pending (event ∷ events) =
    if list_any consumes (event ∷ events) then pending events else reports_in event ++ pending events

-- reports after a decision on the last of them
abbrev pub unconsumed : Decision → List PathReport → List PathReport
unconsumed None reports = reports
unconsumed (Reboot level) reports = []

-- when an event was
abbrev pub moment_of : ManagerEvent → Moment
moment_of (Reported report decision) = report.moment
moment_of (JournalFilled moment) = moment

-- when the last event was, and 0 before the first
abbrev pub last_moment : List ManagerEvent → Moment
last_moment events = fold (λ (before : Moment) (event : ManagerEvent). moment_of event) (record { 0 = 0 }) events

-- The decision on a report after these events: by the reports that are not consumed and this one, and by all acts.
abbrev pub decision_after : Parts → List ManagerEvent → PathReport → Decision
decision_after parts events report =
    decision_of parts (pending events ++ report ∷ []) (acts_of events) report.moment

-- the later of two moments
abbrev pub later : Moment → Moment → Moment
later a b = if nat_lt a.0 b.0 then b else a

-- a report at no earlier a moment than this one
unfoldable pub no_earlier : Moment → FailureReport → FailureReport
no_earlier moment (Path report) = Path (report_of report.path (later moment report.moment))
no_earlier moment (JournalFull at) = JournalFull (later moment at)

-- the event that a report is after these events
unfoldable pub event_on : Parts → List ManagerEvent → FailureReport → ManagerEvent
event_on parts events (Path report) = Reported report (decision_after parts events report)
event_on parts events (JournalFull moment) = JournalFilled moment

-- what was decided on
abbrev pub decided_in : ManagerEvent → Decision
decided_in (Reported report decision) = decision
decided_in (JournalFilled moment) = Reboot Process

-- these events, and a report at no earlier a moment than the last of them
abbrev pub events_and : Parts → List ManagerEvent → FailureReport → List ManagerEvent
events_and parts events report =
    events ++ event_on parts events (no_earlier (last_moment events) report) ∷ []

-- the events that reports come to, told one after the other
abbrev pub events_after : Parts → List FailureReport → List ManagerEvent
events_after parts reports = fold (events_and parts) [] reports
