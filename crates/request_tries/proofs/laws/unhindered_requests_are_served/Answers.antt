use Rattle.request_tries.proofs.Unhindered.{commit_ends_by_page, step_goes_on}
use Rattle.request_tries.proofs.laws.unhindered_requests_are_served.Goals as goal

pub returns-clause-step : goal.returns-clause-step
returns-clause-step c = step_goes_on

pub returns-clause-commit : goal.returns-clause-commit
returns-clause-commit c = commit_ends_by_page
