use Rattle.request_tries.proofs.Ending.{answers_longer, end_longer}
use Rattle.request_tries.proofs.Trying.{serves_unbegun, serving_longer}
use Rattle.request_tries.proofs.laws.ends_stay_true.Goals as goal

pub returns-clause-unbegun : goal.returns-clause-unbegun
returns-clause-unbegun c = serves_unbegun

pub returns-clause-ends : goal.returns-clause-ends
returns-clause-ends c = end_longer

pub returns-clause-answers : goal.returns-clause-answers
returns-clause-answers c = answers_longer

pub returns-clause-serving : goal.returns-clause-serving
returns-clause-serving c = serving_longer
