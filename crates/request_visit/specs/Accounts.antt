-- What a request has added to the history of the container so far, and what that shows of it.
use Rattle.std.specs.Prelude.{◌≡◌, List, [], ◌++◌, Some, take}
use Rattle.boot_core.specs.declared.boot.Start.{Start}
use Rattle.call_ticket.specs.declared.next.Answer.{Answer}
use Rattle.call_ticket.specs.declared.next.Next.{Next}
use Rattle.container_core.specs.Container.{ContainerValue, events_of}
use Rattle.container_core.specs.History.{entries_in}
use Rattle.container_core.specs.declared.history.Event.{Event}
use Rattle.request_tries.specs.Ends.{EndStands, Errand}
use Rattle.request_tries.specs.Serving.{errand_of}
use Rattle.request_tries.specs.declared.outcome.Ended.{Ended}
use Rattle.request_tries.specs.declared.outcome.RequestOutcome.{RequestOutcome}
use Rattle.request_tries.specs.declared.outcome.RequestOutcome.TheVariants.{Page}
use Rattle.outcome_items.specs.Traces.{events_of_end}
use Rattle.outcome_items.specs.declared.item.Holds.{Holds}
use Rattle.outcome_items.specs.declared.outcome.ItemOutcome.{ItemOutcome}
use Rattle.outcome_items.specs.declared.outcome.ItemOutcome.TheVariants as item
use Rattle.request_visit.specs.declared.facts.VisitFacts.{VisitFacts}
use Rattle.request_visit.specs.declared.visit.Fate.{Fate}
use Rattle.request_visit.specs.declared.visit.Fate.TheVariants.{Known, Writing}
use Rattle.request_visit.specs.declared.visit.Visit.{Visit}
use Rattle.request_visit.specs.declared.visit.Work.{Work}
use Rattle.request_visit.specs.declared.visit.Work.TheVariants.{Reading, Opening, Serving, Committed, Decided, Answered, Left}

-- A request has ended so in the container: its end stands in the history, and it added just these events.
pub record EndsWith (start : Start) (history : List Event) (errand : Errand) (facts : VisitFacts) (holds : Holds) (end : RequestOutcome) (own : List Event) : Type 0 where
  pub ended : Ended
  pub stands : EndStands start history errand ended
  pub outcome_is : ended.outcome ≡ end
  pub holds_is : holds ≡ record { from = ended.from; front = ended.front; held = ended.held }
  pub number_is : facts.request ≡ Some errand.request
  pub own_is : own ≡ events_of_end (entries_in (take holds.held history)) facts.request end

-- A request for which the container was not held has added nothing.
pub record IsUnheld (facts : VisitFacts) (holds : Holds) (own : List Event) : Type 0 where
  pub holds_are : holds ≡ record { from = facts.front; front = facts.front; held = 0 }
  pub own_is : own ≡ []

-- This became of a request, as the history shows: one that never came to the container added nothing; one whose
-- session could not be written was committed.
abbrev pub Became : Start → List Event → Errand → VisitFacts → Holds → List Event → ItemOutcome → Type 0
Became start history errand facts holds own (item.Refused why) = IsUnheld facts holds own
Became start history errand facts holds own (item.SerialsSpent seen) = IsUnheld facts holds own
Became start history errand facts holds own (item.Expired now expiry) = IsUnheld facts holds own
Became start history errand facts holds own (item.Lost causes) = IsUnheld facts holds own
Became start history errand facts holds own (item.Ended end) = EndsWith start history errand facts holds end own
Became start history errand facts holds own (item.Overload place again full) =
    EndsWith start history errand facts holds (Page place again) own
Became start history errand facts holds own (item.Missed place again causes) =
    EndsWith start history errand facts holds (Page place again) own

-- the same, of what is told of it so far
abbrev pub FateStands : Start → List Event → Errand → VisitFacts → Holds → List Event → Fate → Type 0
FateStands start history errand facts holds own (Known became) = Became start history errand facts holds own became
FateStands start history errand facts holds own (Writing place again) =
    EndsWith start history errand facts holds (Page place again) own

-- A request that is served by a program has added nothing yet, and asks for this.
pub record IsServed (errand now : Errand) (facts : VisitFacts) (holds : Holds) (own : List Event) : Type 0 where
  pub errand_is : errand ≡ now
  pub number_is : facts.request ≡ Some errand.request
  pub unheld_is : IsUnheld facts holds own

-- What a request has added so far, by how far it has come: nothing before it has ended in the container, and from
-- then on what its end tells.
abbrev pub AccountsOf : {P : Type 0} → (P → List Answer → Next) → Start → List Event → Errand → VisitFacts → Holds → List Event → Work P → Type 0
AccountsOf asks start history errand facts holds own Reading = IsUnheld facts holds own
AccountsOf asks start history errand facts holds own Opening = IsUnheld facts holds own
AccountsOf asks start history errand facts holds own (Serving tries program) =
    IsServed errand (errand_of tries (asks program)) facts holds own
AccountsOf asks start history errand facts holds own (Committed place again shown) =
    EndsWith start history errand facts holds (Page place again) own
AccountsOf asks start history errand facts holds own (Decided became) = Became start history errand facts holds own became
AccountsOf asks start history errand facts holds own (Answered fate bytes) = FateStands start history errand facts holds own fate
AccountsOf asks start history errand facts holds own (Left fate) = FateStands start history errand facts holds own fate

-- The request accounts for the events that it added to the history.
abbrev pub Accounts : {P : Type 0} → (P → List Answer → Next) → Start → List Event → Errand → List Event → Visit P → Type 0
Accounts asks start history errand own v = AccountsOf asks start history errand v.facts v.holds own v.work

-- A step in the container added these events, and the request accounts for them.
pub record AddsOwn {P : Type 0} (asks : P → List Answer → Next) (errand : Errand) (own : List Event) (container after : ContainerValue) (new : Visit P) : Type 0 where
  pub added : List Event
  pub grown : after.since ≡ container.since ++ added
  pub accounts : Accounts asks after.boot.start (events_of after) errand (own ++ added) new
