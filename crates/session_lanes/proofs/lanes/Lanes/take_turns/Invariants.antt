use Rattle.std.proofs.Common.{◌≡◌}
use Rattle.session_lanes.specs.Lanes.{turns}
use Rattle.session_lanes.proofs.lanes.Lanes.take_turns.Given as goal

abbrev pub invariant-loop-left : goal.invariant-loop-left
invariant-loop-left l = turns l.left l.self l.call ≡ turns l.most l.initial.self l.call

abbrev pub decreases-loop-left : goal.decreases-loop-left
decreases-loop-left l = l.left
