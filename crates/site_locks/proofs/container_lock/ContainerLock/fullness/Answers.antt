use Rattle.std.proofs.Common.{◌∙◌, ap, refl}
use Rattle.container_core.specs.Container.{events_of}
use Rattle.journal_model.specs.Limits.{fullness}
use Rattle.site_locks.proofs.Seeing.{entries_seen, seen_begins}
use Rattle.site_locks.specs.Holds.{Holds}
use Rattle.site_locks.proofs.container_lock.ContainerLock.fullness.Goals as goal

pub returns : goal.returns
returns g c =
    let found = c.take-container.result in
    let holds : Holds c.args.seat.now c.give.new.seat found found = c.give.ensures c.args.seat.now found c.take-container.ensures (c.histories_grow.ensures.unchanged found) in
    record {
      held = (found, found, holds, refl);
      full = c.fullness-full.ensures ∙ (ap fullness c.journal.ensures.entries ∙ ap fullness (entries_seen c.args.seat.now c.give.new.seat found holds));
      seen = seen_begins c.args.seat.now c.give.new.seat (events_of found) (events_of found) holds.hold;
    }
