use Rattle.std.proofs.Common.{rules}
use Rattle.send_windows.proofs.windows.refuse.Goals as goal

pub returns-clause-mark : goal.returns-clause-mark
returns-clause-mark c = search rules
