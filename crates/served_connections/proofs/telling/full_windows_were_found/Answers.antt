use Rattle.std.proofs.Common.{◌≡◌, Bool, List, Some, ap}
use Rattle.std.proofs.lemmas.List.Elements.{All-weaker}
use Rattle.crash_base.specs.declared.numbers.Place.{Place}
use Rattle.outcome_items.specs.declared.item.Item.{Item}
use Rattle.outcome_items.specs.declared.outcome.ItemOutcome.TheVariants as item
use Rattle.send_windows.specs.declared.fact.WindowFact.{WindowFact}
use Rattle.served_connections.specs.Findings.{found_in_all}
use Rattle.served_connections.specs.Full.{full_in}
use Rattle.served_connections.proofs.Findings.{IsAmong, among_more, each_found}
use Rattle.served_connections.proofs.telling.full_windows_were_found.Goals as goal

pub returns : goal.returns
returns g c = λ service start begun history now course opened last own marks h.
    All-weaker (λ (i : Item). (full : List WindowFact) → full_in i.outcome ≡ Some full → IsAmong (found_in_all full_in course.items) full)
    (λ (i : Item). (place : Place) (again : Bool) (full : List WindowFact) → i.outcome ≡ item.Overload place again full → IsAmong course.full full)
    (λ i among place again full is. among_more full_in course.full (found_in_all full_in course.items) h.full.more full h.full.found_are (among full (ap full_in is))) course.items (each_found full_in course.items)
