use Rattle.std.proofs.Common.{arith}
use Rattle.std.proofs.lemmas.Grind.{common_steps}
use Rattle.session_cookie.proofs.hmac.block_of.Goals as goal

pub returns-after-loop-i : goal.returns-after-loop-i
returns-after-loop-i c = grind (arith, common_steps)
