use Rattle.outcome_items.proofs.Tables.{one_response}
use Rattle.outcome_items.proofs.laws.responses_are_one.Goals as goal

pub returns : goal.returns
returns c = one_response
