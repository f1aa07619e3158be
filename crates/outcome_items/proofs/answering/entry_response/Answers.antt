use Rattle.std.proofs.Common.{rules}
use Rattle.outcome_items.proofs.answering.entry_response.Goals as goal

pub returns-in-Some : goal.returns-in-Some
returns-in-Some c = search rules
