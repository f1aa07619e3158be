-- What the manager that decides on reboots is told of a request, by what became of it.
use Rattle.std.specs.Prelude.{List, Option, Some, None}
use Rattle.crash_base.specs.declared.numbers.ComponentNo.{ComponentNo}
use Rattle.crash_base.specs.declared.numbers.Moment.{Moment}
use Rattle.failure_scores.specs.declared.report.FailureReport.{FailureReport}
use Rattle.failure_scores.specs.declared.report.FailureReport.TheVariants as reports
use Rattle.request_tries.specs.declared.outcome.RequestOutcome.{RequestOutcome}
use Rattle.request_tries.specs.declared.outcome.RequestOutcome.TheVariants.{Page, Sentinel, Hung, Raised, Revoked, Conflict, JournalFull, KeeperFailed}
use Rattle.outcome_items.specs.declared.outcome.ItemOutcome.{ItemOutcome}
use Rattle.outcome_items.specs.declared.outcome.ItemOutcome.TheVariants.{Refused, SerialsSpent, Expired, Lost, Ended, Overload, Missed}

-- the report of a request that a component has failed, which went through these
abbrev pub path_report : Moment → List ComponentNo → FailureReport
path_report moment path = reports.Path (record { path = path; moment = moment })

-- what is reported of a request that came to an end in the container at a moment
abbrev pub report_of_end : Moment → RequestOutcome → Option FailureReport
report_of_end moment (Page place again) = None
report_of_end moment (Sentinel group down) = None
report_of_end moment (Hung component fault path) = Some (path_report moment path)
report_of_end moment (Raised component fault path) = Some (path_report moment path)
report_of_end moment (Revoked tries) = None
report_of_end moment (Conflict tries) = None
report_of_end moment (JournalFull full) = Some (reports.JournalFull moment)
report_of_end moment KeeperFailed = None

-- What is reported of a request with this moment: that a component has failed it, and which it went through; or that
-- the journal was full; and else nothing.
abbrev pub report_of : Moment → ItemOutcome → Option FailureReport
report_of moment (Refused why) = None
report_of moment (SerialsSpent seen) = None
report_of moment (Expired now expiry) = None
report_of moment (Lost causes) = None
report_of moment (Ended end) = report_of_end moment end
report_of moment (Overload place again full) = None
report_of moment (Missed place again causes) = None
