use Rattle.boot_core.specs.Fits.{FitsIn}
use Rattle.container_core.specs.Container.{IsButEntered}
use Rattle.auction_action_tests.proofs.containers.make_steps.Given as goal

abbrev pub invariant-steps : goal.invariant-steps
invariant-steps g l = FitsIn l.container.boot l.ticket.call × IsButEntered l.fn.container l.container
