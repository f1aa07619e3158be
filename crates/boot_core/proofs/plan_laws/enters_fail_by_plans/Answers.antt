use Rattle.boot_core.proofs.Entering.{barred_first, raises, hangs, passes}
use Rattle.boot_core.proofs.plan_laws.enters_fail_by_plans.Goals as goal

pub returns-clause-barred : goal.returns-clause-barred
returns-clause-barred c = barred_first

pub returns-clause-raised : goal.returns-clause-raised
returns-clause-raised c = raises

pub returns-clause-hung : goal.returns-clause-hung
returns-clause-hung c = hangs

pub returns-clause-entered : goal.returns-clause-entered
returns-clause-entered c = passes
