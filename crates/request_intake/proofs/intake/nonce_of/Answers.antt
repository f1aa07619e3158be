use Rattle.std.proofs.Common.{rules}
use Rattle.request_intake.proofs.intake.nonce_of.Goals as goal

pub returns : goal.returns
returns c = search rules
