use Rattle.session_lanes.proofs.Keeping.{windows_keep}
use Rattle.lane_link.proofs.Beginning.{steps_by_events, silence_sound}
use Rattle.lane_link.proofs.laws.lanes_go_by_events.Goals as goal

pub returns-clause-steps : goal.returns-clause-steps
returns-clause-steps c = steps_by_events

pub returns-clause-windows : goal.returns-clause-windows
returns-clause-windows c = windows_keep

pub returns-clause-silence : goal.returns-clause-silence
returns-clause-silence c = silence_sound
