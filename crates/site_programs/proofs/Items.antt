-- How the requests of items ended.
use Rattle.std.proofs.Common.{◌≡◌, List, Some, subst}
use Rattle.boot_core.specs.declared.boot.Start.{Start}
use Rattle.container_core.specs.declared.history.Event.{Event}
use Rattle.outcome_items.specs.declared.item.Holds.{Holds}
use Rattle.outcome_items.specs.declared.outcome.ItemOutcome.{ItemOutcome}
use Rattle.outcome_items.specs.declared.outcome.ItemOutcome.TheVariants as item
use Rattle.request_tries.specs.Ends.{Errand}
use Rattle.request_tries.specs.declared.outcome.RequestOutcome.{RequestOutcome}
use Rattle.request_tries.specs.declared.outcome.RequestOutcome.TheVariants.{Page}
use Rattle.request_visit.specs.Accounts.{Became, EndsWith}
use Rattle.request_visit.specs.declared.facts.VisitFacts.{VisitFacts}
use Rattle.site_programs.specs.Pages.{end_in}

same_outcome : (a b : RequestOutcome) → Some a ≡ Some b → a ≡ b
same_outcome a b is = cc

pub ended_so : (start : Start) (history own : List Event) (errand : Errand) (facts : VisitFacts) (holds : Holds) (became : ItemOutcome) (outcome : RequestOutcome)
    → Became start history errand facts holds own became → end_in became ≡ Some outcome → EndsWith start history errand facts holds outcome own
ended_so start history own errand facts holds (item.Refused why) outcome stands is = absurd (cc)
ended_so start history own errand facts holds (item.SerialsSpent seen) outcome stands is = absurd (cc)
ended_so start history own errand facts holds (item.Expired now expiry) outcome stands is = absurd (cc)
ended_so start history own errand facts holds (item.Lost causes) outcome stands is = absurd (cc)
ended_so start history own errand facts holds (item.Ended end) outcome stands is =
    subst (λ (o : RequestOutcome). EndsWith start history errand facts holds o own) (same_outcome end outcome is) stands
ended_so start history own errand facts holds (item.Overload place again full) outcome stands is =
    subst (λ (o : RequestOutcome). EndsWith start history errand facts holds o own) (same_outcome (Page place again) outcome is) stands
ended_so start history own errand facts holds (item.Missed place again causes) outcome stands is =
    subst (λ (o : RequestOutcome). EndsWith start history errand facts holds o own) (same_outcome (Page place again) outcome is) stands
