use Rattle.session_lanes.proofs.StayingNew.{stays_new}
use Rattle.session_lanes.proofs.laws.nonces_stay_new.Goals as goal

pub returns : goal.returns
returns c = stays_new c.nonces_stay_new.ensures
