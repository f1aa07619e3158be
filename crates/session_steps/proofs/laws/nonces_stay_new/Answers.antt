use Rattle.session_steps.proofs.Nonces.{nonce_new}
use Rattle.session_steps.proofs.laws.nonces_stay_new.Goals as goal

pub returns-clause-new : goal.returns-clause-new
returns-clause-new c = nonce_new
