use Rattle.std.proofs.Common.{rules}
use Rattle.lane_link.proofs.link.hears_from.Goals as goal

pub returns-in-Some-Receive : goal.returns-in-Some-Receive
returns-in-Some-Receive c = search rules
