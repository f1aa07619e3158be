use Rattle.component_pool.proofs.Finding.{active_found, first_found, none_active, active_none}
use Rattle.component_pool.proofs.laws.active_plans_are_found.Goals as goal

pub returns-clause-found : goal.returns-clause-found
returns-clause-found c = λ plans n entered reboots number kind. (active_found plans n entered reboots number kind, first_found plans n entered reboots number kind)

pub returns-clause-none : goal.returns-clause-none
returns-clause-none c = λ plans n entered reboots. (none_active plans n entered reboots, active_none plans n entered reboots)
