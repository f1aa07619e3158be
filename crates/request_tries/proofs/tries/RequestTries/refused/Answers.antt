use Rattle.std.proofs.Common.{rules}
use Rattle.request_tries.proofs.tries.RequestTries.refused.Goals as goal

pub returns-in-Already-clause-refused : goal.returns-in-Already-clause-refused
returns-in-Already-clause-refused c = search rules
