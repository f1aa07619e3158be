-- What a connection has reported of its requests that failed, by its items and by the request that is open.
use Rattle.std.specs.Prelude.{◌≡◌, List, [], ◌++◌}
use Rattle.std.specs.List.{flat_map}
use Rattle.std.specs.Option.{option_to_list}
use Rattle.auction_calls.specs.declared.action.ActionCall.{ActionCall}
use Rattle.crash_base.specs.declared.numbers.Moment.{Moment}
use Rattle.failure_scores.specs.declared.report.FailureReport.{FailureReport}
use Rattle.outcome_items.specs.Reports.{report_of}
use Rattle.outcome_items.specs.declared.item.Item.{Item}
use Rattle.request_visit.specs.Advancing.{outcome_in}
use Rattle.request_visit.specs.declared.visit.Work.{Work}
use Rattle.request_visit.specs.declared.visit.Work.TheVariants.{Reading, Opening, Serving as ServingBy, Committed, Decided, Answered, Left}
use Rattle.shepherd.specs.declared.shepherd.Stage.{Stage}
use Rattle.shepherd.specs.declared.shepherd.Stage.TheVariants.{Resting, Serving, Refusing, Over}

-- what is reported of the request of an item, by what became of it and with its moment: one report, or none
abbrev pub item_reports : Item → List FailureReport
item_reports i = option_to_list (report_of i.moment i.outcome)

-- what is reported of the requests of these items, in order
abbrev pub items_reports : List Item → List FailureReport
items_reports items = flat_map item_reports items

-- what has been reported of a request that has come so far: nothing, until it is known what became of it
abbrev pub work_reports : Moment → Work ActionCall → List FailureReport
work_reports moment Reading = []
work_reports moment Opening = []
work_reports moment (ServingBy tries program) = []
work_reports moment (Committed place again shown) = []
work_reports moment (Decided became) = option_to_list (report_of moment became)
work_reports moment (Answered fate bytes) = option_to_list (report_of moment (outcome_in fate))
work_reports moment (Left fate) = option_to_list (report_of moment (outcome_in fate))

-- What has been reported of the request that is open, if one is: one report at most. Its item is still to come.
abbrev pub open_reports : Stage ActionCall → List FailureReport
open_reports Resting = []
open_reports (Serving v call) = work_reports v.facts.now v.work
open_reports (Refusing why bytes) = []
open_reports (Over end) = []

-- A connection has reported its requests that failed, each once: its reports are those of its items, in order, and then
-- that of the request that is open, if that has failed.
abbrev pub HasReported : List FailureReport → List Item → Stage ActionCall → Type 0
HasReported reports items stage = reports ≡ items_reports items ++ open_reports stage
