use Rattle.std.proofs.Common.{subst}
use Rattle.lease_wheel.specs.Wheels.{AreInOrder}
use Rattle.lease_wheel.proofs.Order.{in_order}
use Rattle.lease_wheel.proofs.wheel.LeaseWheel.pop_due.Goals as goal

pub returns-in-Some-clause-ordered : goal.returns-in-Some-clause-ordered
returns-in-Some-clause-ordered c = subst AreInOrder c.self.view_is (in_order c.self.inside.lists.entries c.first_due.ensures.ordered c.self.invariant)

pub returns-in-None-clause-ordered : goal.returns-in-None-clause-ordered
returns-in-None-clause-ordered c = subst AreInOrder c.self.view_is (in_order c.self.inside.lists.entries c.first_due.ensures.ordered c.self.invariant)
