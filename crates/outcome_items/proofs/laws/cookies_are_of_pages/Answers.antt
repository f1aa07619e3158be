use Rattle.outcome_items.proofs.Tables.{clears, sets}
use Rattle.outcome_items.proofs.laws.cookies_are_of_pages.Goals as goal

pub returns-clause-set : goal.returns-clause-set
returns-clause-set c = sets

pub returns-clause-clear : goal.returns-clause-clear
returns-clause-clear c = clears
