use Rattle.session_steps.proofs.Origins.{cookie_from}
use Rattle.session_steps.proofs.laws.cookies_come_from_writes.Goals as goal

pub returns : goal.returns
returns c = cookie_from
