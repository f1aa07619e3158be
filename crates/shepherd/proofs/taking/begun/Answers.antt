use Rattle.std.proofs.Common.{rules}
use Rattle.shepherd.proofs.taking.begun.Goals as goal

pub returns-in-Refused : goal.returns-in-Refused
returns-in-Refused g c = search rules
