use Rattle.session_steps.proofs.Origins.{fetch_refused}
use Rattle.session_steps.proofs.laws.fetches_with_new_nonces_are_done.Goals as goal

pub returns : goal.returns
returns c = fetch_refused c.acknowledged_cookies_stay_acknowledged.ensures
