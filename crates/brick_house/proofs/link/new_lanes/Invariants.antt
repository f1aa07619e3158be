use Rattle.std.proofs.Common.{◌≡◌, replicate}
use Rattle.brick_house.specs.HouseLinks.{empty_lane}
use Rattle.brick_house.proofs.link.new_lanes.Given as goal

abbrev pub invariant-loop-at : goal.invariant-loop-at
invariant-loop-at l = l.lanes.items ≡ replicate l.at empty_lane
