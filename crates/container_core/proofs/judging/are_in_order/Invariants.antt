use Rattle.std.proofs.Common.{length}
use Rattle.crash_base.specs.Rows.{AreOrdered}
use Rattle.container_core.proofs.judging.are_in_order.Given as goal

abbrev pub invariant-loop-rest : goal.invariant-loop-rest
invariant-loop-rest l = AreOrdered l.rest → AreOrdered l.rows

abbrev pub decreases-loop-rest : goal.decreases-loop-rest
decreases-loop-rest l = length l.rest
