use Rattle.session_steps.proofs.Between.{lines_leave}
use Rattle.session_steps.proofs.laws.lines_leave_calls.Goals as goal

pub returns : goal.returns
returns c = lines_leave
