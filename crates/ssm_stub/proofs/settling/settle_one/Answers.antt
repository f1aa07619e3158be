use Rattle.std.proofs.Common.{rules}
use Rattle.ssm_stub.proofs.settling.settle_one.Goals as goal

pub returns-in-Err : goal.returns-in-Err
returns-in-Err g c = search rules
