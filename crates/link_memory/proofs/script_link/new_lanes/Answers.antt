use Rattle.std.proofs.Common.{arith, ◌+◌, sym}
use Rattle.std.proofs.lemmas.List.FromFn.{map-range_with_len_more}
use Rattle.link_memory.specs.Lane.{new_lane}
use Rattle.link_memory.proofs.script_link.new_lanes.Goals as goal

pub loop-at-preserved : goal.loop-at-preserved
loop-at-preserved c =
    let more = map-range_with_len_more new_lane 1 c.loop-at.at (c.loop-at.at + 1) (omega arith) in
    rw (c.in_ok-push.ensures.items, c.new.ensures, c.loop-at.invariant) (sym more)
