use Rattle.std.proofs.Common.{rules}
use Rattle.outcome_items.proofs.answering.response_to.Goals as goal

pub returns-in-Lost : goal.returns-in-Lost
returns-in-Lost c = search rules
