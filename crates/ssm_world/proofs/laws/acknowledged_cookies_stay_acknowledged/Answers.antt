use Rattle.ssm_world.proofs.Origins.{acknowledged_stays}
use Rattle.ssm_world.proofs.laws.acknowledged_cookies_stay_acknowledged.Goals as goal

pub returns : goal.returns
returns c = acknowledged_stays c.answers_stay.ensures.write
