use Rattle.std.proofs.Common.{rules}
use Rattle.request_decisions.proofs.deciding.by_method.Goals as goal

pub returns-in_ok-token-in-Post : goal.returns-in_ok-token-in-Post
returns-in_ok-token-in-Post c = search rules
