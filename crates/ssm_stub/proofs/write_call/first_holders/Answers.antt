use Rattle.std.proofs.Common.{rules}
use Rattle.ssm_stub.proofs.write_call.first_holders.Goals as goal

pub returns : goal.returns
returns c = search rules
