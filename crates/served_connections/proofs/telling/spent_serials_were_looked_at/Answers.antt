use Rattle.std.proofs.Common.{◌≡◌, ℕ, Some, ap}
use Rattle.std.proofs.lemmas.List.Elements.{All-weaker}
use Rattle.outcome_items.specs.declared.item.Item.{Item}
use Rattle.outcome_items.specs.declared.outcome.ItemOutcome.TheVariants as item
use Rattle.served_connections.specs.Findings.{found_in_all}
use Rattle.served_connections.specs.Spent.{spent_in}
use Rattle.served_connections.proofs.Findings.{IsAmong, among_more, each_found}
use Rattle.served_connections.proofs.telling.spent_serials_were_looked_at.Goals as goal

pub returns : goal.returns
returns g c = λ service start begun history now course opened last own marks h.
    All-weaker (λ (i : Item). (seen : ℕ) → spent_in i.outcome ≡ Some seen → IsAmong (found_in_all spent_in course.items) seen) (λ (i : Item). (seen : ℕ) → i.outcome ≡ item.SerialsSpent seen → IsAmong course.looked seen)
    (λ i among seen is. among_more spent_in course.looked (found_in_all spent_in course.items) h.looked.more seen h.looked.found_are (among seen (ap spent_in is))) course.items (each_found spent_in course.items)
