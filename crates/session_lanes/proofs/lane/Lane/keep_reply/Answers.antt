use Rattle.std.proofs.Common.{rules}
use Rattle.session_lanes.proofs.lane.Lane.keep_reply.Goals as goal

pub returns-then-self-gt0 : goal.returns-then-self-gt0
returns-then-self-gt0 c = search rules
