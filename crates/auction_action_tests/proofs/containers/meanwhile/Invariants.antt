use Rattle.boot_core.specs.Fits.{FitsIn}
use Rattle.auction_action_tests.proofs.containers.meanwhile.Given as goal

abbrev pub invariant-loop-line : goal.invariant-loop-line
invariant-loop-line g l = FitsIn l.container.boot l.fn.held.call
