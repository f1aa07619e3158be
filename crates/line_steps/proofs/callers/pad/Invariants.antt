use Rattle.std.proofs.Common.{◌≡◌, ◌+◌, ◌-◌, vec_len}
use Rattle.boot_core.specs.Boot.{BootValue}
use Rattle.line_steps.specs.Callers.{padded, AllFit}
use Rattle.line_steps.proofs.callers.pad.Given as goal

abbrev pub invariant-loop-callers : goal.invariant-loop-callers
invariant-loop-callers l =
    (padded l.callers.items l.number ≡ padded l.initial.callers.items l.number)
    × ((b : BootValue) → AllFit b l.initial.callers.items → AllFit b l.callers.items)

abbrev pub decreases-loop-callers : goal.decreases-loop-callers
decreases-loop-callers l = l.number + 1 - vec_len l.callers
