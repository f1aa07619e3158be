use Rattle.request_tries.proofs.Once.{commit_ends, step_ends}
use Rattle.request_tries.proofs.laws.single_calls_are_made_once.Goals as goal

pub returns-clause-step : goal.returns-clause-step
returns-clause-step c = step_ends

pub returns-clause-commit : goal.returns-clause-commit
returns-clause-commit c = commit_ends
