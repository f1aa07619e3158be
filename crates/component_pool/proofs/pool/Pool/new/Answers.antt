use Rattle.deployment.specs.Groups.{group_of}
use Rattle.component_pool.proofs.Counting.{counted_none}
use Rattle.component_pool.proofs.pool.Pool.new.Goals as goal

pub returns-clause-entered : goal.returns-clause-entered
returns-clause-entered c =
    counted_none c.new_components-components.result (group_of c.args.deployment.now)
    c.new_components-components.ensures.many c.new_components-components.ensures.new
