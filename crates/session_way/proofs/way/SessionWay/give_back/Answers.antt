use Rattle.std.proofs.Common.{rules}
use Rattle.session_way.proofs.way.SessionWay.give_back.Goals as goal

pub returns-in-Settling-clause-windows : goal.returns-in-Settling-clause-windows
returns-in-Settling-clause-windows c = search rules

pub returns-in-Settling-clause-marks : goal.returns-in-Settling-clause-marks
returns-in-Settling-clause-marks c = search rules
