use Rattle.seat_laws.proofs.ReadingRightly.{seat-missed}
use Rattle.seat_laws.proofs.reading.seats_miss_for_causes.Goals as goal

pub returns : goal.returns
returns c = seat-missed c.missed_writes_have_causes.ensures
