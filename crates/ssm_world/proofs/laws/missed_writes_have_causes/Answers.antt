use Rattle.ssm_world.proofs.Missing.{missed_for}
use Rattle.ssm_world.proofs.laws.missed_writes_have_causes.Goals as goal

pub returns : goal.returns
returns c = missed_for
