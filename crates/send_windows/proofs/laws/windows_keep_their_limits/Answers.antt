use Rattle.send_windows.proofs.Keeping.{new_keeps, call_keeps}
use Rattle.send_windows.proofs.laws.windows_keep_their_limits.Goals as goal

pub returns-clause-new : goal.returns-clause-new
returns-clause-new c = new_keeps

pub returns-clause-call : goal.returns-clause-call
returns-clause-call c = call_keeps
