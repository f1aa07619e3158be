use Rattle.container_core.specs.Container.{events_of}
use Rattle.site_locks.proofs.Seeing.{seen_begins}
use Rattle.site_locks.proofs.container_lock.ContainerLock.drop_call.Goals as goal

pub returns-clause-seen : goal.returns-clause-seen
returns-clause-seen g c =
    let found = c.take-container.result in
    let after = c.drop_call.new.container in
    seen_begins c.args.seat.now c.give.new.seat (events_of found) (events_of after) (c.give.ensures c.args.seat.now found c.take-container.ensures c.drop_call.ensures.grown).hold
