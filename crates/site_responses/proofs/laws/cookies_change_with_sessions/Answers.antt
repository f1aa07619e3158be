use Rattle.site_responses.proofs.Changes.{when_cleared, when_set}
use Rattle.site_responses.proofs.laws.cookies_change_with_sessions.Goals as goal

pub returns-clause-set : goal.returns-clause-set
returns-clause-set c = when_set

pub returns-clause-clear : goal.returns-clause-clear
returns-clause-clear c = when_cleared
