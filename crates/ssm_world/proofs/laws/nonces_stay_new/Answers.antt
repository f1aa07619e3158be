use Rattle.ssm_world.proofs.NewNonces.{stays_new}
use Rattle.ssm_world.proofs.laws.nonces_stay_new.Goals as goal

pub returns : goal.returns
returns c = stays_new
