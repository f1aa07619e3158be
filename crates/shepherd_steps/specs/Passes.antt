-- A step of a request in the windows, as a function of them.
use Rattle.std.specs.Prelude.{nat_lt, if◌then◌else◌, map, Option, Some, None, Result, Ok, Err}
use Rattle.request_visit.specs.Visits.{after_outcome, overloaded}
use Rattle.request_visit.specs.declared.visit.Visit.{Visit}
use Rattle.send_windows.specs.Facts.{full_facts, open_count}
use Rattle.send_windows.specs.Passes.{hushed}
use Rattle.send_windows.specs.Windows.{WindowsValue, after_spend, refused, taken}
use Rattle.session_cookie.specs.declared.cookie.Cookie.{Cookie}
use Rattle.session_way.specs.Way.{answer_held, passes_for}
use Rattle.session_way.specs.Writing.{passes_spent, write_begun}
use Rattle.session_way.specs.declared.session_write.WriteOrder.{WriteOrder}
use Rattle.session_way.specs.declared.session_write.WriteOutcome.{WriteOutcome}
use Rattle.session_way.specs.declared.session_write.WriteOutcome.TheVariants as outcome
use Rattle.session_way.specs.declared.way.SessionWay.{SessionWay}
use Rattle.session_way.specs.declared.way.SessionWay.TheVariants as way
use Rattle.ssm_stub.specs.declared.write_call.WriteRefusal.{WriteRefusal}
use Rattle.ssm_stub.specs.declared.write_call.WriteRefusal.TheVariants as refusal

-- what a write came to, by its answer, if it has one; without memory it came to nothing
abbrev pub outcome_of : Option (Result Cookie WriteRefusal) → Option WriteOutcome
outcome_of None = None
outcome_of (Some (Ok cookie)) = Some (outcome.Written cookie)
outcome_of (Some (Err (refusal.Missed causes))) = Some (outcome.Missed causes)
outcome_of (Some (Err refusal.OutOfMemory)) = None

-- a request on this way that is told what the write came to that it held, and the windows after
abbrev pub goes : {P : Type 0} → Visit P → SessionWay → WindowsValue → Visit P × WindowsValue
goes v to windows = (after_outcome (outcome_of (answer_held v.way)) (record v { way = to }), windows)

-- a request asked for passes: too few windows are open, and its session is not written; or its write begins
abbrev pub takes : {P : Type 0} → Visit P → WriteOrder → WindowsValue → Visit P × WindowsValue
takes v order windows =
    if nat_lt (open_count windows.facts) windows.wq
    then (record v { way = way.Resting; work = overloaded (full_facts windows.facts) v.work }, refused windows)
    else goes v (way.Writing (write_begun order windows.wq (passes_for order windows))) (taken windows (passes_for order windows))

-- the step of a request in the windows, by what is done with its session: it takes passes, or spends those that it
-- holds
abbrev pub windows_by : {P : Type 0} → Visit P → SessionWay → WindowsValue → Visit P × WindowsValue
windows_by v way.Resting windows = (v, windows)
windows_by v (way.Reading r) windows = (v, windows)
windows_by v (way.Ordered order) windows = takes v order windows
windows_by v (way.Writing w) windows = (v, windows)
windows_by v (way.Settling w) windows = goes v way.Resting (after_spend windows (passes_spent w))
windows_by v (way.Holding passes) windows = goes v way.Resting (after_spend windows (map hushed passes))

-- The step of a request in the windows.
unfoldable pub windows_step : {P : Type 0} → Visit P → WindowsValue → Visit P × WindowsValue
windows_step v windows = windows_by v v.way windows
