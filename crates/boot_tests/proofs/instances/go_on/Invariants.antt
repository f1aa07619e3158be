use Rattle.boot_core.specs.Fits.{FitsIn}
use Rattle.boot_tests.proofs.instances.go_on.Given as goal

abbrev pub invariant-loop-round : goal.invariant-loop-round
invariant-loop-round g l = FitsIn l.container.boot l.ticket.call
