use Rattle.std.proofs.Common.{subst}
use Rattle.lease_wheel.specs.Wheels.{AreInOrder}
use Rattle.lease_wheel.proofs.Order.{in_order}
use Rattle.lease_wheel.proofs.wheel.LeaseWheel.remove.Goals as goal

pub returns-clause-ordered : goal.returns-clause-ordered
returns-clause-ordered c = subst AreInOrder c.self.view_is (in_order c.self.inside.lists.entries c.unlink_at.ensures.ordered c.self.invariant)
