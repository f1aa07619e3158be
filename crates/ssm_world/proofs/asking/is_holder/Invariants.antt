use Rattle.std.proofs.Common.{◌≡◌, length}
use Rattle.std.specs.List.{list_any}
use Rattle.ssm_world.specs.Worlds.{same_brick, bricks_of}
use Rattle.ssm_world.proofs.asking.is_holder.Given as goal

abbrev pub invariant-loop-rest : goal.invariant-loop-rest
invariant-loop-rest l = list_any (same_brick l.brick) (bricks_of l.fn.holders) ≡ list_any (same_brick l.brick) (bricks_of l.rest)

abbrev pub decreases-loop-rest : goal.decreases-loop-rest
decreases-loop-rest l = length l.rest
