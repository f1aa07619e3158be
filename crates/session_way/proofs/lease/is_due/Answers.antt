use Rattle.std.proofs.Common.{rules}
use Rattle.session_way.proofs.lease.is_due.Goals as goal

pub returns : goal.returns
returns c = search rules
