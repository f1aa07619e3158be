use Rattle.boot_core.specs.Fits.{FitsIn}
use Rattle.boot_tests.proofs.container_steps.do_steps.Given as goal

abbrev pub invariant-loop-step : goal.invariant-loop-step
invariant-loop-step g l = FitsIn l.container.boot l.ticket.call
