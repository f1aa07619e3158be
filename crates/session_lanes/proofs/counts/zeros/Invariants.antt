use Rattle.std.proofs.Common.{◌≡◌}
use lib.ListN.{replicate}
use Rattle.session_lanes.proofs.counts.zeros.Given as goal

abbrev pub invariant-loop : goal.invariant-loop
invariant-loop l = l.counts.items ≡ replicate l.counter 0
