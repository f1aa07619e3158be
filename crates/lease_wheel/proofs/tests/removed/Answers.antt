use Rattle.lease_wheel.proofs.Adding.{stands_added}
use Rattle.lease_wheel.proofs.tests.removed.Goals as goal

pub remove-requires : goal.remove-requires
remove-requires c = stands_added c.in_ok-node.node c.item.result c.args.wheel.now c.add.new.self c.in_ok-node.ensures.ok
