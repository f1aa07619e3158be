use Rattle.std.proofs.Common.{None, ap}
use Rattle.deployment.specs.Groups.{group_of}
use Rattle.component_pool.specs.Pool.{new_component}
use Rattle.component_pool.proofs.Standing.{made_more}
use Rattle.component_pool.proofs.pool.new_components.Goals as goal

pub loop-number-preserved : goal.loop-number-preserved
loop-number-preserved c =
    made_more (group_of c.args.deployment.now) c.loop-number.components c.loop-number.number
    (record { group = c.group_of.result; entered = 0; generation = 0; widest = None })
    c.loop-number-test.true c.loop-number.invariant (ap new_component c.group_of.ensures)
