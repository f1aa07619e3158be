use Rattle.site_locks.proofs.Seeing.{seen_begins}
use Rattle.site_locks.proofs.windows_lock.WindowsLock.step.Goals as goal

pub returns-clause-held : goal.returns-clause-held
returns-clause-held g c = (
  c.take-windows.result,
  c.step_windows-answer.new.windows,
  c.give.ensures c.args.seat.now c.take-windows.result c.take-windows.ensures c.step_windows-answer.ensures.grown,
  c.step_windows-answer.ensures.step,
)

pub returns-clause-seen : goal.returns-clause-seen
returns-clause-seen g c =
    let found = c.take-windows.result in
    let after = c.step_windows-answer.new.windows in
    seen_begins c.args.seat.now c.give.new.seat found.history after.history (c.give.ensures c.args.seat.now found c.take-windows.ensures c.step_windows-answer.ensures.grown).hold
