use Rattle.turn_laws.proofs.Placing.{added_stand}
use Rattle.turn_laws.proofs.laws.holds_add_at_new_places.Goals as goal

pub returns : goal.returns
returns g c = added_stand
