use Rattle.std.proofs.Common.{rules}
use Rattle.session_steps.proofs.lane_lines.mark_of.Goals as goal

pub returns-in-Silent : goal.returns-in-Silent
returns-in-Silent c = search rules
