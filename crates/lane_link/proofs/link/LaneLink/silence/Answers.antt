use Rattle.std.proofs.Common.{rules}
use Rattle.lane_link.proofs.link.LaneLink.silence.Goals as goal

pub returns : goal.returns
returns c = search rules
