use Rattle.site_locks.proofs.Growing.{given_back}
use Rattle.site_locks.proofs.Seeing.{seen_begins}
use Rattle.site_locks.proofs.windows_lock.WindowsLock.drop_passes.Goals as goal

pub returns-clause-held : goal.returns-clause-held
returns-clause-held g c =
    let found = c.take-windows.result in
    let left = c.drop_passes.new.windows in
    let back = c.drop_passes.ensures.stage in
    (found, left, c.give.ensures c.args.seat.now found c.take-windows.ensures (given_back c.args.shepherd.now.stage c.drop_passes.new.self.stage found left back), back)

pub returns-clause-seen : goal.returns-clause-seen
returns-clause-seen g c =
    let found = c.take-windows.result in
    let left = c.drop_passes.new.windows in
    let grown = given_back c.args.shepherd.now.stage c.drop_passes.new.self.stage found left c.drop_passes.ensures.stage in
    seen_begins c.args.seat.now c.give.new.seat found.history left.history (c.give.ensures c.args.seat.now found c.take-windows.ensures grown).hold
