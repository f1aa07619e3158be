use Rattle.seat_laws.proofs.Lends.{seat-lends}
use Rattle.seat_laws.proofs.laws.seats_lend.Goals as goal

pub returns : goal.returns
returns c = seat-lends c.steps_are_turns_of_twins.ensures
