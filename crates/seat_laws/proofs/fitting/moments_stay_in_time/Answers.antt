use Rattle.seat_laws.proofs.Timing.{line-in-time}
use Rattle.seat_laws.proofs.fitting.moments_stay_in_time.Goals as goal

pub returns-clause-lines : goal.returns-clause-lines
returns-clause-lines c = line-in-time
