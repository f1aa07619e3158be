use Rattle.unhindered_requests.proofs.Sparing.{works_so, works_unplanned}
use Rattle.unhindered_requests.proofs.laws.components_fail_by_plans_alone.Goals as goal

pub returns-clause-spared : goal.returns-clause-spared
returns-clause-spared c = λ boot x spared. works_so c.active_plans_are_found.ensures.found boot x spared

pub returns-clause-unplanned : goal.returns-clause-unplanned
returns-clause-unplanned c = λ boot x none. works_unplanned c.active_plans_are_found.ensures.found boot x none
