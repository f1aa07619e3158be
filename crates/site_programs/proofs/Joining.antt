-- The item of a request of the site, and what the site means by the request's call.
use Rattle.std.proofs.Common.{◌≡◌, ℕ, false, List, Option, Some, refl, sym, ap, ◌∙◌, subst}
use Rattle.auction_calls.specs.Texts.{Spells}
use Rattle.auction_calls.specs.declared.action.ActionCall.{ActionCall}
use Rattle.auction_rows.specs.Parts.{site_parts}
use Rattle.auction_site.specs.Actions.{steps_of}
use Rattle.boot_core.specs.declared.boot.Start.{Start}
use Rattle.container_core.specs.History.{entries_in}
use Rattle.container_core.specs.declared.history.Event.{Event}
use Rattle.crash_base.specs.declared.numbers.Place.{Place}
use Rattle.outcome_items.specs.declared.item.Item.{Item}
use Rattle.outcome_items.specs.declared.outcome.ItemOutcome.{ItemOutcome}
use Rattle.outcome_items.specs.declared.outcome.ItemOutcome.TheVariants as item
use Rattle.outside.specs.declared.link.LinkEvent.{LinkEvent}
use Rattle.request_decisions.specs.Calls.{call_by}
use Rattle.request_intake.specs.declared.intake.Admission.{Admission}
use Rattle.request_intake.specs.declared.intake.Arrival.{Arrival}
use Rattle.request_intake.specs.declared.intake.Arrival.TheVariants.{Refused, SerialsSpent, Admitted}
use Rattle.request_tries.specs.Ends.{EndStands, Errand}
use Rattle.request_tries.specs.declared.outcome.Ended.{Ended}
use Rattle.request_tries.specs.declared.outcome.RequestOutcome.{RequestOutcome}
use Rattle.request_tries.specs.declared.outcome.RequestOutcome.TheVariants.{Page}
use Rattle.request_visit.specs.Accounts.{EndsWith}
use Rattle.served_items.specs.Attributing.{BecameBy, IsErrandOf, OnAdmitted, TakenIn}
use Rattle.served_items.specs.Served.{IsItemFor}
use Rattle.shepherd.specs.Accounting.{trace_in}
use Rattle.site_programs.proofs.Items.{ended_so}
use Rattle.site_programs.specs.Errands.{AsksSite, IsMadeOf}
use Rattle.site_programs.specs.Pages.{IsMeantThere, end_in}

-- What is so of an item of the site whose request has an entry of its own.
abbrev pub IsMeantFor : (start : Start) (history : List Event) (t : TakenIn) (i : Item) (place : Place) → Type 0
IsMeantFor start history t i place = (a : Admission) × (t.intake.arrival ≡ Admitted a)
    × (errand : Errand) × (errand.request ≡ a.request) × Spells errand.text (call_by a.call i.value)
    × IsMeantThere start.base (entries_in history) place errand (call_by a.call i.value)

-- that a page of its own is meant, as another law says it
abbrev pub OwnPages : Type 0
OwnPages = (start : Start) (events : List Event) (errand : Errand) (call : ActionCall) (e : Ended) (place : Place)
    → AsksSite start errand call → EndStands start events errand e → e.outcome ≡ Page place false
    → IsMeantThere start.base (entries_in events) place errand call

-- a request that came to the container was admitted, and this is so of its admission
came_admitted : (arrival : Arrival) (So : Admission → Type 0) (became : ItemOutcome) (outcome : RequestOutcome)
    → end_in became ≡ Some outcome → BecameBy arrival So became → OnAdmitted arrival So
came_admitted arrival So (item.Refused why) outcome is b = absurd (cc)
came_admitted arrival So (item.SerialsSpent seen) outcome is b = absurd (cc)
came_admitted arrival So (item.Expired now expiry) outcome is b = absurd (cc)
came_admitted arrival So (item.Lost causes) outcome is b = absurd (cc)
came_admitted arrival So (item.Ended end) outcome is b = b
came_admitted arrival So (item.Overload place again full) outcome is b = b
came_admitted arrival So (item.Missed place again causes) outcome is b = b

on_admitted : (arrival : Arrival) (So : Admission → Type 0) → OnAdmitted arrival So → (a : Admission) × (arrival ≡ Admitted a) × So a
on_admitted (Refused why) So on = absurd on
on_admitted (SerialsSpent request seen) So on = absurd on
on_admitted (Admitted a) So on = (a, refl, on)

-- what asks the site for a call, of an errand that was made of it
asks_site : (start : Start) (value : Option (List ℕ)) (errand : Errand) (a : Admission) → start.deployment ≡ site_parts
    → IsErrandOf steps_of IsMadeOf value errand a → AsksSite start errand (call_by a.call value)
asks_site start value errand a site e = record {
  parts_are = site;
  spelled = subst (λ (x : Errand). Spells x.text (call_by a.call value)) (sym e.errand_is) e.made.spelled;
  steps_are = ap (λ (x : Errand). x.asks) e.errand_is ∙ ap steps_of e.made.program_is;
}

pub item_meant : {L : Type 0} (own : OwnPages) (calls : L → LinkEvent → L → Type 0) (came : TakenIn → Type 0) (start : Start) (history : List Event) (t : TakenIn) (i : Item) (place : Place)
    → start.deployment ≡ site_parts → IsItemFor steps_of calls IsMadeOf came start history t i → end_in i.outcome ≡ Some (Page place false) → IsMeantFor start history t i place
item_meant own calls came start history t i place site s is =
    let on = on_admitted t.intake.arrival (λ a. IsErrandOf steps_of IsMadeOf i.value s.errand a)
    (came_admitted t.intake.arrival (λ a. IsErrandOf steps_of IsMadeOf i.value s.errand a) i.outcome (Page place false) is s.became_by) in
    let asks : AsksSite start s.errand (call_by (on.0).call i.value) = asks_site start i.value s.errand on.0 site on.2 in
    let ends : EndsWith start history s.errand s.facts i.holds (Page place false) (trace_in history i) =
    ended_so start history (trace_in history i) s.errand s.facts i.holds i.outcome (Page place false) s.became is in (
      on.0,
      on.1,
      s.errand,
      ap (λ (x : Errand). x.request) (on.2).errand_is,
      asks.spelled,
      own start history s.errand (call_by (on.0).call i.value) ends.ended place asks ends.stands ends.outcome_is,
    )
