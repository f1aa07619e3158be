-- How items follow one another in the journal.
use Rattle.std.specs.Prelude.{◌≡◌, ◌≤◌, List, [], ◌∷◌}
use Rattle.crash_base.specs.declared.numbers.Place.{Place}
use Rattle.outcome_items.specs.declared.item.Item.{Item}

-- Items follow on one another behind this front: the journal was no shorter when the container was first held for each
-- than when it was last held for the one before, and no shorter at its last hold than at its first.
abbrev pub FollowOn : Place → List Item → Type 0
FollowOn front [] = Unit {0}
FollowOn front (i ∷ items) =
    (front.0 ≤ i.holds.from.0) × (i.holds.from.0 ≤ i.holds.front.0) × FollowOn i.holds.front items

-- Items keep this front: where the container was not held for a request, its item's places are that of the item before.
abbrev pub KeepFront : Place → List Item → Type 0
KeepFront front [] = Unit {0}
KeepFront front (i ∷ items) =
    (i.holds.held ≡ 0 → (i.holds.from ≡ front) × (i.holds.front ≡ front)) × KeepFront i.holds.front items
