-- A request on its way: whose step is next, how it begins, and what it becomes by what it is told.
use Rattle.std.specs.Prelude.{List, Option, Some, None}
use Rattle.crash_base.specs.declared.numbers.ComponentNo.{ComponentNo}
use Rattle.outside.specs.declared.link.LinkCounts.{LinkCounts}
use Rattle.send_windows.specs.declared.fact.WindowFact.{WindowFact}
use Rattle.ssm_stub.specs.declared.cause.BrickCause.{BrickCause}
use Rattle.session_way.specs.declared.session_write.WriteOutcome.{WriteOutcome}
use Rattle.session_way.specs.declared.session_write.WriteOutcome.TheVariants as outcome
use Rattle.session_way.specs.declared.way.SessionWay.{SessionWay}
use Rattle.session_way.specs.declared.way.Wants.{Wants}
use Rattle.session_way.specs.declared.way.Wants.TheVariants as wanted
use Rattle.session_way.specs.Way.{wants}
use Rattle.request_tries.specs.Serving.{last_entered as tries_entered}
use Rattle.request_tries.specs.declared.outcome.RequestOutcome.TheVariants.{Page}
use Rattle.outcome_items.specs.declared.item.Holds.{Holds}
use Rattle.outcome_items.specs.declared.outcome.ItemOutcome.TheVariants as item
use Rattle.request_visit.specs.declared.facts.VisitFacts.{VisitFacts}
use Rattle.request_visit.specs.declared.visit.Fate.{Fate}
use Rattle.request_visit.specs.declared.visit.Fate.TheVariants.{Known, Writing}
use Rattle.request_visit.specs.declared.visit.Turn.{Turn}
use Rattle.request_visit.specs.declared.visit.Turn.TheVariants as turns
use Rattle.request_visit.specs.declared.visit.Visit.{Visit}
use Rattle.request_visit.specs.declared.visit.Work.{Work}
use Rattle.request_visit.specs.declared.visit.Work.TheVariants.{Reading, Opening, Serving, Committed, Decided, Answered, Left}

-- whose step is next for a session, and its request's own where it is nobody's
abbrev pub or_own : Wants → Turn
or_own wanted.Nothing = turns.Own
or_own wanted.Outside = turns.Outside
or_own wanted.Windows = turns.Windows

-- whose step is next for a session, after which nothing is left
abbrev pub or_over : Wants → Turn
or_over wanted.Nothing = turns.Over
or_over wanted.Outside = turns.Outside
or_over wanted.Windows = turns.Windows

-- whose step is next for a request that has come so far, where its session wants this
abbrev pub turn_by : {P : Type 0} → Work P → Wants → Turn
turn_by Reading w = or_own w
turn_by Opening w = turns.Program
turn_by (Serving tries program) w = turns.Inside
turn_by (Committed place again shown) w = or_own w
turn_by (Decided became) w = turns.Own
turn_by (Answered fate bytes) w = turns.Output
turn_by (Left fate) w = or_over w

-- Whose step is next for a request.
abbrev pub turn : {P : Type 0} → Visit P → Turn
turn v = turn_by v.work (wants v.way)

-- the component that the last step of a request entered, if it is served in the container and that step entered one
abbrev pub last_entered : {P : Type 0} → Work P → Option ComponentNo
last_entered Reading = None
last_entered Opening = None
last_entered (Serving tries program) = tries_entered tries
last_entered (Committed place again shown) = None
last_entered (Decided became) = None
last_entered (Answered fate bytes) = None
last_entered (Left fate) = None

-- how far the container had come for a request for which it was not held yet
abbrev pub unheld : VisitFacts → Holds
unheld facts = record { from = facts.front; front = facts.front; held = 0 }

-- a request that begins so
abbrev pub begun : {P : Type 0} → VisitFacts → LinkCounts → SessionWay → Work P → Visit P
begun facts counts way work = record {
  facts = facts;
  holds = unheld facts;
  counts = counts;
  lease = None;
  cookie = None;
  way = way;
  work = work;
}

-- what became of a request whose session was written
abbrev pub fate_written : Fate → Fate
fate_written (Known became) = Known became
fate_written (Writing place again) = Known (item.Ended (Page place again))

-- what became of a request whose session was not written, for these causes
abbrev pub fate_missed : List BrickCause → Fate → Fate
fate_missed causes (Known became) = Known became
fate_missed causes (Writing place again) = Known (item.Missed place again causes)

-- the work with another fate, where it has one
abbrev pub with_fate : {P : Type 0} → (Fate → Fate) → Work P → Work P
with_fate change Reading = Reading
with_fate change Opening = Opening
with_fate change (Serving tries program) = Serving tries program
with_fate change (Committed place again shown) = Committed place again shown
with_fate change (Decided became) = Decided became
with_fate change (Answered fate bytes) = Answered (change fate) bytes
with_fate change (Left fate) = Left (change fate)

-- the work of a request whose session cannot be written, since these windows are full
abbrev pub overloaded : {P : Type 0} → List WindowFact → Work P → Work P
overloaded full Reading = Reading
overloaded full Opening = Opening
overloaded full (Serving tries program) = Serving tries program
overloaded full (Committed place again shown) = Decided (item.Overload place again full)
overloaded full (Decided became) = Decided became
overloaded full (Answered fate bytes) = Answered fate bytes
overloaded full (Left fate) = Left fate

-- a request that is told what its write came to, if anything
abbrev pub after_outcome : {P : Type 0} → Option WriteOutcome → Visit P → Visit P
after_outcome None v = v
after_outcome (Some (outcome.Written cookie)) v = record v { cookie = Some cookie; work = with_fate fate_written v.work }
after_outcome (Some (outcome.Missed causes)) v = record v { work = with_fate (fate_missed causes) v.work }
