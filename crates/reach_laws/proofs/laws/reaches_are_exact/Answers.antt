use Rattle.reach_laws.proofs.Exact.{methods_exact, uses_exact}
use Rattle.reach_laws.proofs.laws.reaches_are_exact.Goals as goal

pub returns-clause-uses : goal.returns-clause-uses
returns-clause-uses c = uses_exact

pub returns-clause-methods : goal.returns-clause-methods
returns-clause-methods c = methods_exact
