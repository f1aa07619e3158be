use Rattle.std.proofs.Common.{rules}
use Rattle.naming_table.proofs.binding.binding_of.Goals as goal

pub returns-in-Some : goal.returns-in-Some
returns-in-Some c = search rules
