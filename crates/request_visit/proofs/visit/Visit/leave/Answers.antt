use Rattle.std.proofs.Common.{rules}
use Rattle.request_visit.proofs.visit.Visit.leave.Goals as goal

pub returns-clause-left : goal.returns-clause-left
returns-clause-left g c = search rules
