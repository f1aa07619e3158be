use Rattle.std.proofs.Common.{rules}
use Rattle.shepherd.proofs.shepherd.Shepherd.take_item.Goals as goal

pub returns-clause-rest : goal.returns-clause-rest
returns-clause-rest g c = search rules
