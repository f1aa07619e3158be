use Rattle.boot_core.specs.Boot.{HasGrown}
use Rattle.boot_core.specs.Fits.{FitsIn}
use Rattle.boot_tests.proofs.boot_steps.do_steps.Given as goal

abbrev pub invariant-loop-step : goal.invariant-loop-step
invariant-loop-step g l = FitsIn l.boot l.ticket.call × HasGrown l.fn.boot l.boot
