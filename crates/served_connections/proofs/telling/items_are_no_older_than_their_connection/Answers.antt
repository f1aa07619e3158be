use Rattle.std.proofs.Common.{◌≡◌, ◌≢◌, ◌<◌, true, length, take, Some, refl}
use Rattle.std.specs.Prelude.{◌↔◌}
use Rattle.std.proofs.lemmas.List.Elements.{All-weaker}
use Rattle.container_core.specs.History.{entries_in}
use Rattle.crash_base.specs.declared.numbers.Place.{Place}
use Rattle.outcome_items.specs.Traces.{is_outside}
use Rattle.outcome_items.specs.declared.item.Item.{Item}
use Rattle.served_items.specs.Served.{committed_at}
use Rattle.served_connections.specs.Telling.{TellsHolds}
use Rattle.served_connections.proofs.telling.items_are_no_older_than_their_connection.Goals as goal

pub returns-clause-begun : goal.returns-clause-begun
returns-clause-begun g c = λ history now counts. (refl, refl, refl, refl)

pub returns-clause-risen : goal.returns-clause-risen
returns-clause-risen g c = λ counts later. (λ h. (h.hushed, h.got), λ both. record { hushed = both.0; got = both.1 })

pub returns-clause-seen : goal.returns-clause-seen
returns-clause-seen g c = λ service start begun history now course opened last own marks h. h.begin

pub returns-clause-held : goal.returns-clause-held
returns-clause-held g c = λ service start begun history now course opened last own marks h.
    All-weaker (TellsHolds history) (λ (i : Item). (i.holds.held ≡ 0) ↔ (is_outside i.outcome ≡ true)) (λ i tells. tells.unheld) course.items h.holds

pub returns-clause-front : goal.returns-clause-front
returns-clause-front g c = λ service start begun history now course opened last own marks h.
    All-weaker (TellsHolds history) (λ (i : Item). i.holds.held ≢ 0 → length (entries_in (take i.holds.held history)) ≡ i.holds.front.0) (λ i tells. tells.front_is) course.items h.holds

pub returns-clause-named : goal.returns-clause-named
returns-clause-named g c = λ service start begun history now course opened last own marks h.
    All-weaker (TellsHolds history) (λ (i : Item). (place : Place) → committed_at i.outcome ≡ Some place → place.0 < i.holds.front.0) (λ i tells. tells.below) course.items h.holds
