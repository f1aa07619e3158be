use Rattle.ssm_world.proofs.Askable.{acknowledged_askable, acknowledged_holders}
use Rattle.ssm_world.proofs.laws.acknowledged_cookies_may_be_read.Goals as goal

pub returns-clause-asked : goal.returns-clause-asked
returns-clause-asked c = acknowledged_askable

pub returns-clause-holders : goal.returns-clause-holders
returns-clause-holders c = acknowledged_holders
