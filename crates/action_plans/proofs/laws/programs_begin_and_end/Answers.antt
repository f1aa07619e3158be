use Rattle.action_plans.proofs.Ending.{begins_at_the_gateway, has_left_all}
use Rattle.action_plans.proofs.laws.programs_begin_and_end.Goals as goal

pub returns-clause-begin : goal.returns-clause-begin
returns-clause-begin c = begins_at_the_gateway

pub returns-clause-end : goal.returns-clause-end
returns-clause-end c = has_left_all
