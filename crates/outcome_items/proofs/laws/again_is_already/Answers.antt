use Rattle.outcome_items.proofs.Hearing.{again, own}
use Rattle.outcome_items.proofs.laws.again_is_already.Goals as goal

pub returns-clause-again : goal.returns-clause-again
returns-clause-again c = again

pub returns-clause-own : goal.returns-clause-own
returns-clause-own c = own
