use Rattle.seat_laws.proofs.ReadingRightly.{seat-acknowledged}
use Rattle.seat_laws.proofs.reading.seats_acknowledge_what_they_wrote.Goals as goal

pub returns : goal.returns
returns c = seat-acknowledged c.worlds_are_sound.ensures.sound
