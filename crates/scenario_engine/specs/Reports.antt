-- What is reported in a scenario of requests that failed, and what is decided on each report.
use Rattle.std.specs.Prelude.{◌≡◌, ℕ, nat_lt, if◌then◌else◌, List, [], ◌∷◌, ◌++◌, length, map, Option, Some, None}
use Rattle.std.specs.List.{flat_map}
use Rattle.deployment.specs.declared.parts.Parts.{Parts}
use Rattle.failure_scores.specs.declared.report.FailureReport.{FailureReport}
use Rattle.recovery_manager.specs.declared.decision.Decision.{Decision}
use Rattle.recovery_manager.specs.Events.{decided_in, event_on, events_after, last_moment, no_earlier}
use Rattle.recovery_manager.specs.Kept.{StandsFor}
use Rattle.recovery_manager.specs.Telling.{handed_on, told}
use Rattle.scenario_text.specs.Line.{is_event}
use Rattle.scenario_text.specs.Reading.{line_of}
use Rattle.scenario_text.specs.declared.boot_line.BootLine.TheVariants as boots
use Rattle.scenario_text.specs.declared.line.Line.{Line}
use Rattle.scenario_text.specs.declared.line.Line.TheVariants as lines
use Rattle.scenario_text.specs.declared.line.TheConstants.{MAX_LINE_BYTES}
use Rattle.seat_lines.specs.Hearing.{report_said}
use Rattle.seat_lines.specs.Items.{reports_at, reports_if, step_yields}
use Rattle.seat_lines.specs.Making.{StepMade}
use Rattle.seat_lines.specs.Site.{SiteState}
use Rattle.seat_lines.specs.Texts.{decide_text}
use Rattle.scenario_engine.specs.Connections.{turn_makes}
use Rattle.scenario_engine.specs.Engine.{Replies, Target, TheHead, TheBoot, TheUnstarted, target_of}
use Rattle.scenario_engine.specs.State.{RunningState, State, Heading, Running, RefusedIn, DoneTo, UnstartedIn, UnderWayIn, site_of}
use Rattle.scenario_engine.specs.Transcript.{Turn, first, end_from, last_state, turn_outcome}

-- A report of a request that failed, and the site over which it is made.
pub record ReportMade : Type 0 where
  pub site : SiteState
  pub report : FailureReport

-- these reports, made over this site
abbrev pub made_over : SiteState → List FailureReport → List ReportMade
made_over s [] = []
made_over s (report ∷ more) = record { site = s; report = report } ∷ made_over s more

-- what the step of a connection reports: of its request, if that failed
abbrev pub step_reports : StepMade → List ReportMade
step_reports step = made_over step.site (step_yields reports_at step.site step.number step.keeps)

-- what a line over a boot says of a request that failed
abbrev pub said_over : RunningState → Line → List ReportMade
said_over r (lines.Boot (boots.Report names)) =
    made_over (site_of r) (reports_if (report_said r.boot.start.deployment names r.sessions.moment))
said_over r line = []

-- the same of a line that is done to a target
abbrev pub said_on : Target → Line → List ReportMade
said_on (TheHead head) line = []
said_on (TheBoot r) line = said_over r line
said_on (TheUnstarted head cause) line = []

-- the same of a text that spells this line, or none
abbrev pub said_to : State → Option Line → Replies → List ReportMade
said_to s None replies = []
said_to s (Some line) replies = said_on (target_of s (is_event line) replies.first) line

-- The reports that a turn makes: the one that its line says, or those of the steps that a connection makes.
unfoldable pub turn_reports : State → Turn → List ReportMade
turn_reports s turn = said_to s (line_of turn.line) turn.replies ++ flat_map step_reports (turn_makes s turn)

-- The reports that turns make from here on, in order.
abbrev pub reports_from : State → List Turn → List ReportMade
reports_from s [] = []
reports_from s (turn ∷ turns) =
    if nat_lt MAX_LINE_BYTES (length turn.line) then [] else
    (turn_reports s turn ++ (elim (turn_outcome s turn) [
      | RefusedIn t ↦ []
      | DoneTo t text ↦ reports_from t turns
      | UnstartedIn t cause ↦ []
      | UnderWayIn t ↦ []
    ]))

-- what is reported by these
abbrev pub reports_by : List ReportMade → List FailureReport
reports_by made = map (λ (m : ReportMade). m.report) made

-- All that turns have reported from the first line on, over all boots.
abbrev pub reports_of : List Turn → List FailureReport
reports_of turns = reports_by (reports_from first turns)

-- The manager of a state has heard just these reports: it keeps what it does after them, from scratch. Before the first
-- boot none is made.
abbrev pub HasHeard : List FailureReport → State → Type 0
HasHeard reports (Heading head) = reports ≡ []
HasHeard reports (Running r) =
    StandsFor r.seats.manager r.boot.start.deployment (events_after r.boot.start.deployment reports)

-- what the manager of its site decides on a report: its `decide` line tells it
abbrev pub decided_on : ReportMade → Decision
decided_on made = (told made.site.seats.manager (handed_on made.site.seats.manager made.report)).decision

-- what is written of the decisions on these reports, in order
abbrev pub decisions_text : List ReportMade → List ℕ
decisions_text made = flat_map (λ (m : ReportMade). decide_text (decided_on m)) made

-- What is decided from scratch on a report after these, by all of them.
abbrev pub decided_by_all : Parts → List FailureReport → FailureReport → Decision
decided_by_all parts before report =
    (let events = events_after parts before in
    decided_in (event_on parts events (no_earlier (last_moment events) report)))

-- In these turns it was decided by all reports so far: the manager of each state that they lead to has heard just what
-- was reported by then (`heard`), and on each report it was decided from scratch by those before it and itself
-- (`decided`).
pub record HasDecided (turns : List Turn) : Type 0 where
  pub heard : (before more : List Turn) → turns ≡ before ++ more
      → HasHeard (reports_of before) (last_state (end_from first 1 before))
  pub decided : (before behind : List ReportMade) (made : ReportMade)
      → reports_from first turns ≡ before ++ made ∷ behind
      → decided_on made ≡ decided_by_all made.site.boot.start.deployment (reports_by before) made.report
