-- A container is stopped once it was, and its seat has seen it.
use Rattle.std.proofs.Common.{◌≡◌, Bool, true, false, [], ◌∷◌, ◌++◌, ◌||◌, if◌then◌else◌, refl, ap, ◌∙◌}
use Rattle.std.proofs.lemmas.List.Folds.{list_any-append}
use Rattle.container_core.specs.Container.{ContainerValue, events_of}
use Rattle.container_core.specs.History.{is_stop, is_stopped}
use Rattle.container_core.specs.declared.history.Event.{Event}
use Rattle.container_core.specs.declared.history.Event.TheVariants.{Stopped}
use Rattle.turn_lock.specs.Seats.{SeatValue}
use Rattle.site_locks.specs.Holds.{Holds}
use Rattle.site_locks.specs.Steps.{after_stop}

or_true : (b : Bool) → (b || true) ≡ true
or_true true = refl
or_true false = refl

stopped_by : (c : ContainerValue) → is_stopped (events_of (after_stop c)) ≡ true
stopped_by c = by (is_stopped (events_of c)) refl where
  by : (b : Bool) → is_stopped (events_of c) ≡ b → is_stopped (events_of (if b then c else record c { since = c.since ++ Stopped ∷ [] })) ≡ true
  by true is = is
  by false is = list_any-append is_stop c.since (Stopped ∷ []) ∙ or_true (is_stopped c.since)

pub seen_stopped : (old new : SeatValue Event) (before after : ContainerValue) → Holds old new before after → after ≡ after_stop before → is_stopped new.seen ≡ true
seen_stopped old new before after holds is =
    ap (λ (s : SeatValue Event). is_stopped s.seen) holds.hold.seat ∙ (ap (λ (c : ContainerValue). is_stopped (events_of c)) is ∙ stopped_by before)
