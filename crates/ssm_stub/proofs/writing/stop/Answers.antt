use Rattle.std.proofs.Common.{rules}
use Rattle.ssm_stub.proofs.writing.stop.Goals as goal

pub returns-clause-marks : goal.returns-clause-marks
returns-clause-marks c = search rules
