use Rattle.component_pool.proofs.Curing.{active_exactly, cured_for_good, active_still}
use Rattle.component_pool.proofs.laws.plans_are_active_until_cured.Goals as goal

pub returns-clause-active : goal.returns-clause-active
returns-clause-active c = active_exactly

pub returns-clause-cured : goal.returns-clause-cured
returns-clause-cured c = cured_for_good

pub returns-clause-kept : goal.returns-clause-kept
returns-clause-kept c = active_still
