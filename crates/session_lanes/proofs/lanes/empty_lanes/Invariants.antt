use Rattle.std.proofs.Common.{◌≡◌}
use lib.ListN.{replicate}
use Rattle.session_lanes.specs.Lane.{new_lane}
use Rattle.session_lanes.proofs.lanes.empty_lanes.Given as goal

abbrev pub invariant-loop : goal.invariant-loop
invariant-loop l = l.lanes.items ≡ replicate l.counter new_lane
