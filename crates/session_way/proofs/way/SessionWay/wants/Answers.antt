use Rattle.std.proofs.Common.{rules}
use Rattle.session_way.proofs.way.SessionWay.wants.Goals as goal

pub returns-in-Settling : goal.returns-in-Settling
returns-in-Settling c = search rules
