use Rattle.session_lanes.proofs.Keeping.{new_is_sound, step_keeps, steps_keep}
use Rattle.session_lanes.proofs.laws.lanes_stay_sound.Goals as goal

pub returns-clause-new : goal.returns-clause-new
returns-clause-new c = new_is_sound

pub returns-clause-step : goal.returns-clause-step
returns-clause-step c = step_keeps

pub returns-clause-all : goal.returns-clause-all
returns-clause-all c = steps_keep
