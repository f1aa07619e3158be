use Rattle.std.proofs.Common.{rules}
use Rattle.request_decisions.proofs.deciding.by_token.Goals as goal

pub returns-then-request-boot : goal.returns-then-request-boot
returns-then-request-boot c = search rules
