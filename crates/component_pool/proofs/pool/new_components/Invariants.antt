use Rattle.deployment.specs.Groups.{group_of}
use Rattle.component_pool.proofs.Standing.{AreMade}
use Rattle.component_pool.proofs.pool.new_components.Given as goal

abbrev pub invariant-loop-number : goal.invariant-loop-number
invariant-loop-number l = AreMade (group_of l.deployment) l.components l.number
