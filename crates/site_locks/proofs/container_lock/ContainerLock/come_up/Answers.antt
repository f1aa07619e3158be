use Rattle.container_core.specs.Container.{events_of}
use Rattle.site_locks.proofs.Rebooting.{over}
use Rattle.site_locks.proofs.Seeing.{seen_begins}
use Rattle.site_locks.specs.Holds.{Holds}
use Rattle.site_locks.proofs.container_lock.ContainerLock.come_up.Goals as goal

pub returns : goal.returns
returns g c =
    let found = c.take-container.result in
    let after = c.come_up-did.new.container in
    let holds : Holds c.args.seat.now c.give.new.seat found after = c.give.ensures c.args.seat.now found c.take-container.ensures c.come_up-did.ensures.grown in
    record {
      held = (found, after, holds, c.come_up-did.ensures.up);
      over = over c.args.seat.now c.give.new.seat c.args.down found after c.come_up-did.result holds c.come_up-did.ensures.up;
      seen = seen_begins c.args.seat.now c.give.new.seat (events_of found) (events_of after) holds.hold;
    }
