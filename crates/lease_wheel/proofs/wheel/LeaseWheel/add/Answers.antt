use Rattle.lease_wheel.proofs.Order.{in_order}
use Rattle.lease_wheel.proofs.wheel.LeaseWheel.add.Goals as goal

pub returns-in_err-node-clause-ordered : goal.returns-in_err-node-clause-ordered
returns-in_err-node-clause-ordered c = in_order c.push_at.new.lists.entries c.push_at.ensures.ordered (c.push_at.ensures.sound c.self.invariant)

pub returns-clause-ordered : goal.returns-clause-ordered
returns-clause-ordered c = in_order c.push_at.new.lists.entries c.push_at.ensures.ordered (c.push_at.ensures.sound c.self.invariant)
