use Rattle.ssm_world.proofs.Origins.{names_who_stored}
use Rattle.ssm_world.proofs.laws.acknowledged_cookies_name_who_stored.Goals as goal

pub returns : goal.returns
returns c = names_who_stored
