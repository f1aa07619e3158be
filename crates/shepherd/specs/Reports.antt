-- What a connection reports, right behind a step in the container, to the manager that decides on reboots.
use Rattle.std.specs.Prelude.{◌≡◌, ◌⊎◌, ℕ, List, Option, Some, None}
use Rattle.boot_core.specs.declared.boot.Start.{Start}
use Rattle.container_core.specs.declared.history.Event.{Event}
use Rattle.crash_base.specs.declared.numbers.ComponentNo.{ComponentNo}
use Rattle.crash_base.specs.declared.numbers.Moment.{Moment}
use Rattle.failure_scores.specs.declared.report.FailureReport.{FailureReport}
use Rattle.journal_model.specs.declared.limits.FullAt.{FullAt}
use Rattle.outcome_items.specs.Reports.{report_of, report_of_end}
use Rattle.outcome_items.specs.declared.outcome.ItemOutcome.TheVariants as item
use Rattle.request_tries.specs.Ends.{EndStands, Errand}
use Rattle.request_tries.specs.declared.outcome.Ended.{Ended}
use Rattle.request_tries.specs.declared.outcome.RequestOutcome.TheVariants.{Hung, Raised, JournalFull}
use Rattle.request_visit.specs.declared.visit.Visit.{Visit}
use Rattle.request_visit.specs.declared.visit.Work.{Work}
use Rattle.request_visit.specs.declared.visit.Work.TheVariants.{Reading, Opening, Serving as ServingBy, Committed, Decided, Answered, Left}
use Rattle.shepherd.specs.declared.shepherd.Stage.{Stage}
use Rattle.shepherd.specs.declared.shepherd.Stage.TheVariants.{Resting, Serving, Refusing, Over}

-- what is reported of a request with this moment that has come so far
abbrev pub report_by : {P : Type 0} → Moment → Work P → Option FailureReport
report_by moment Reading = None
report_by moment Opening = None
report_by moment (ServingBy tries program) = None
report_by moment (Committed place again shown) = None
report_by moment (Decided became) = report_of moment became
report_by moment (Answered fate bytes) = None
report_by moment (Left fate) = None

-- What is reported of the request that is open, by what became of it and with its moment, until its response is made.
unfoldable pub report_in : {P : Type 0} → Stage P → Option FailureReport
report_in Resting = None
report_in (Serving v call) = report_by v.facts.now v.work
report_in (Refusing why bytes) = None
report_in (Over end) = None

-- A component has failed a request with this moment: it did not come back, or it failed; and the request went through
-- these components.
pub record HasFailed {P : Type 0} (path : List ComponentNo) (moment : Moment) (v : Visit P) : Type 0 where
  pub component : ComponentNo
  pub fault : ℕ
  pub moment_is : v.facts.now ≡ moment
  pub became : (v.work ≡ Decided (item.Ended (Hung component fault path))) ⊎ (v.work ≡ Decided (item.Ended (Raised component fault path)))

-- A request with this moment found the journal full.
pub record FoundFull {P : Type 0} (moment : Moment) (v : Visit P) : Type 0 where
  pub full : FullAt
  pub moment_is : v.facts.now ≡ moment
  pub became : v.work ≡ Decided (item.Ended (JournalFull full))

-- This is reported of an end that stands in a history, of a request with this moment.
pub record TellsOfEnd (start : Start) (history : List Event) (errand : Errand) (moment : Moment) (report : FailureReport) : Type 0 where
  pub ended : Ended
  pub stands : EndStands start history errand ended
  pub tells : report_of_end moment ended.outcome ≡ Some report
