use Rattle.std.proofs.Common.{rules}
use Rattle.request_tries.proofs.tries.RequestTries.begin.Goals as goal

pub returns-clause-begun : goal.returns-clause-begun
returns-clause-begun g c = search rules
