use Rattle.session_steps.proofs.Origins.{fetch_of_write, fetched_askable}
use Rattle.session_steps.proofs.Promised.{fetch_right, written_version}
use Rattle.session_steps.proofs.laws.fetches_answer_what_was_written.Goals as goal

pub returns-clause-each : goal.returns-clause-each
returns-clause-each c = fetch_of_write

pub returns-clause-right : goal.returns-clause-right
returns-clause-right c = fetch_right c.acknowledged_cookies_stay_acknowledged.ensures

pub returns-clause-bricks : goal.returns-clause-bricks
returns-clause-bricks c = fetched_askable c.acknowledged_cookies_stay_acknowledged.ensures

pub returns-clause-lease : goal.returns-clause-lease
returns-clause-lease c = λ setup boot story. (written_version c.acknowledged_cookies_stay_acknowledged.ensures setup boot story).0

pub returns-clause-version : goal.returns-clause-version
returns-clause-version c = λ setup boot story. (written_version c.acknowledged_cookies_stay_acknowledged.ensures setup boot story).1
