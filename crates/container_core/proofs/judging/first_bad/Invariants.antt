use Rattle.std.proofs.Common.{◌≡◌, take, drop}
use Rattle.container_core.specs.Start.{first_bad, first_bad_after}
use Rattle.container_core.proofs.judging.first_bad.Given as goal

abbrev pub invariant-loop-i : goal.invariant-loop-i
invariant-loop-i l = first_bad_after (take l.i l.rows) (drop l.i l.rows) ≡ first_bad l.rows
