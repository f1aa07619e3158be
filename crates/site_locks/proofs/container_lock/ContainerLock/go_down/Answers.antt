use Rattle.container_core.specs.Container.{events_of}
use Rattle.site_locks.proofs.Rebooting.{down_stands}
use Rattle.site_locks.proofs.Seeing.{seen_begins}
use Rattle.site_locks.specs.Holds.{Holds}
use Rattle.site_locks.specs.Steps.{GoesDown}
use Rattle.site_locks.proofs.container_lock.ContainerLock.go_down.Goals as goal

pub returns : goal.returns
returns g c =
    let found = c.take-container.result in
    let after = c.begin_reboot-answer.new.self in
    let answer = c.begin_reboot-answer.ensures in
    let holds : Holds c.args.seat.now c.give.new.seat found after = c.give.ensures c.args.seat.now found c.take-container.ensures answer.grown in
    let goes : GoesDown c.args.scope found c.begin_reboot-answer.result after = record { answer = answer.answer; place = answer.place; down = answer.down; same = answer.same } in
    record {
      held = (found, after, holds, goes);
      down = down_stands c.args.seat.now c.give.new.seat c.args.scope found after c.begin_reboot-answer.result holds goes;
      seen = seen_begins c.args.seat.now c.give.new.seat (events_of found) (events_of after) holds.hold;
    }
