use Rattle.std.proofs.Common.{◌≡◌, length}
use Rattle.crash_base.specs.Rows.{row_in}
use Rattle.container_core.proofs.judging.bytes_of.Given as goal

abbrev pub invariant-loop-rest : goal.invariant-loop-rest
invariant-loop-rest l = row_in l.rest l.id ≡ row_in l.rows l.id

abbrev pub decreases-loop-rest : goal.decreases-loop-rest
decreases-loop-rest l = length l.rest
