use Rattle.seat_steps.proofs.Sounding.{gone-sound, step-sound}
use Rattle.seat_steps.proofs.laws.bricks_stay_sound.Goals as goal

pub returns-clause-step : goal.returns-clause-step
returns-clause-step c = step-sound c.lent_bricks_stay_sound.ensures

pub returns-clause-gone : goal.returns-clause-gone
returns-clause-gone c = gone-sound
