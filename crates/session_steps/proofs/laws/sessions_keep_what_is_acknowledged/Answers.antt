use Rattle.session_steps.proofs.Origins.{key_acknowledged, stays_acknowledged}
use Rattle.session_steps.proofs.laws.sessions_keep_what_is_acknowledged.Goals as goal

pub returns-clause-later : goal.returns-clause-later
returns-clause-later c = stays_acknowledged c.acknowledged_cookies_stay_acknowledged.ensures

pub returns-clause-kept : goal.returns-clause-kept
returns-clause-kept c = key_acknowledged c.acknowledged_cookies_stay_acknowledged.ensures
