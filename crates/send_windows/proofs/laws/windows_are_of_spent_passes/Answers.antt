use Rattle.send_windows.proofs.Moving.{facts_by_calls}
use Rattle.send_windows.proofs.laws.windows_are_of_spent_passes.Goals as goal

pub returns-clause-facts : goal.returns-clause-facts
returns-clause-facts c = facts_by_calls
