use Rattle.session_steps.proofs.Origins.{write_told}
use Rattle.session_steps.proofs.laws.writes_say_whether_they_are_acknowledged.Goals as goal

pub returns-clause-told : goal.returns-clause-told
returns-clause-told c = write_told c.acknowledged_cookies_stay_acknowledged.ensures
