use Rattle.std.proofs.Common.{rules}
use Rattle.shepherd.proofs.opening.open.Goals as goal

pub returns-clause-opened : goal.returns-clause-opened
returns-clause-opened g c = search rules
