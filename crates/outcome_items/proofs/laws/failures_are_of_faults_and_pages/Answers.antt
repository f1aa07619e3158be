use Rattle.outcome_items.proofs.Tables.{fails}
use Rattle.outcome_items.proofs.laws.failures_are_of_faults_and_pages.Goals as goal

pub returns-clause-failed : goal.returns-clause-failed
returns-clause-failed c = fails
