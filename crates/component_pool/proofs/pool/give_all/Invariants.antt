use Rattle.std.proofs.Common.{◌≡◌, length, vec_capacity}
use Rattle.component_pool.proofs.Giving.{GivesRest}
use Rattle.component_pool.proofs.pool.give_all.Given as goal

abbrev pub invariant-loop-instance : goal.invariant-loop-instance
invariant-loop-instance l =
    GivesRest l.components l.initial.taken.items l.taken.items l.initial.instances l.instances
    × (vec_capacity l.taken ≡ vec_capacity l.initial.taken)

abbrev pub decreases-loop-instance : goal.decreases-loop-instance
decreases-loop-instance l = length l.taken.items
