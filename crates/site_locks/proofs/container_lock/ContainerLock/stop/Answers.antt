use Rattle.container_core.specs.Container.{events_of}
use Rattle.site_locks.proofs.Seeing.{seen_begins}
use Rattle.site_locks.proofs.Stopping.{seen_stopped}
use Rattle.site_locks.proofs.container_lock.ContainerLock.stop.Goals as goal

pub returns-clause-stopped : goal.returns-clause-stopped
returns-clause-stopped g c =
    let found = c.take-container.result in
    seen_stopped c.args.seat.now c.give.new.seat found c.stop.new.self (c.give.ensures c.args.seat.now found c.take-container.ensures c.stop.ensures.grown) c.stop.ensures.stopped

pub returns-clause-seen : goal.returns-clause-seen
returns-clause-seen g c =
    let found = c.take-container.result in
    let after = c.stop.new.self in
    seen_begins c.args.seat.now c.give.new.seat (events_of found) (events_of after) (c.give.ensures c.args.seat.now found c.take-container.ensures c.stop.ensures.grown).hold
