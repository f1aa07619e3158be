use Rattle.session_steps.proofs.Nonces.{others_stay_new}
use Rattle.session_steps.proofs.laws.other_nonces_stay_new.Goals as goal

pub returns : goal.returns
returns c = others_stay_new
