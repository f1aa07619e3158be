-- What a seat has seen behind a hold: it begins with what it had seen before, and has the entries of the journal.
use Rattle.std.proofs.Common.{◌≡◌, ◌∙◌, ◌++◌, List, sym, ap}
use Rattle.std.proofs.lemmas.List.{append_assoc}
use mathlib.Core.List.{IsPrefix}
use Rattle.container_core.specs.Container.{ContainerValue}
use Rattle.container_core.specs.History.{entries_in}
use Rattle.container_core.specs.declared.history.Event.{Event}
use Rattle.turn_lock.specs.Seats.{SeatValue}
use Rattle.site_locks.specs.Holds.{Holds, IsHold}

pub seen_begins : {E : Type 0} (old new : SeatValue E) (before after : List E) → IsHold old new before after → IsPrefix old.seen new.seen
seen_begins {E} old new before after hold =
    let begun = hold.begun in
    let grown = hold.grown in
    (begun.0 ++ grown.0, sym (append_assoc old.seen begun.0 grown.0) ∙ (ap (λ (es : List E). es ++ grown.0) begun.1 ∙ (grown.1 ∙ sym (ap (λ (s : SeatValue E). s.seen) hold.seat))))

-- behind a hold that changes nothing a seat has seen the entries of the journal
pub entries_seen : (old new : SeatValue Event) (found : ContainerValue) → Holds old new found found → found.boot.entries ≡ entries_in new.seen
entries_seen old new found holds = sym holds.left.journal ∙ sym (ap (λ (s : SeatValue Event). entries_in s.seen) holds.hold.seat)
