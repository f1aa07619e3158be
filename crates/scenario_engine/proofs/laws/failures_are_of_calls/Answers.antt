use Rattle.scenario_engine.proofs.Calls.{failed_among}
use Rattle.scenario_engine.proofs.Committing.{called_where_failed}
use Rattle.scenario_engine.proofs.Unhanded.{failed_handed, unhanded_alike}
use Rattle.scenario_engine.proofs.laws.failures_are_of_calls.Goals as goal

pub returns-clause-commits : goal.returns-clause-commits
returns-clause-commits c = called_where_failed

pub returns-clause-calls : goal.returns-clause-calls
returns-clause-calls c = failed_among

pub returns-clause-steps : goal.returns-clause-steps
returns-clause-steps c = unhanded_alike c.replies_matter_where_handed.ensures

pub returns-clause-handed : goal.returns-clause-handed
returns-clause-handed c = failed_handed
