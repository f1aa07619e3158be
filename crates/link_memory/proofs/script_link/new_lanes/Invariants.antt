use Rattle.std.proofs.Common.{◌≡◌}
use Rattle.link_memory.specs.Script.{new_lanes}
use Rattle.link_memory.proofs.script_link.new_lanes.Given as goal

abbrev pub invariant-loop-at : goal.invariant-loop-at
invariant-loop-at l = l.lanes.items ≡ new_lanes l.at
