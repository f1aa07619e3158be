use Rattle.std.proofs.Common.{rules}
use Rattle.row_store.proofs.rows.Rows.new.Goals as goal

pub invariant_of-result : goal.invariant_of-result
invariant_of-result c = search rules

pub returns-clause-journal : goal.returns-clause-journal
returns-clause-journal c = search rules
