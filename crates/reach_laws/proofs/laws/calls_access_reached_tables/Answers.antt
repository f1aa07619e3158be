use Rattle.reach_laws.proofs.Accessed.{accessed, puts_so}
use Rattle.reach_laws.proofs.laws.calls_access_reached_tables.Goals as goal

pub returns-clause-accesses : goal.returns-clause-accesses
returns-clause-accesses c = accessed

pub returns-clause-puts : goal.returns-clause-puts
returns-clause-puts c = puts_so
