use Rattle.lane_link.proofs.Twinning.{step_turns}
use Rattle.lane_link.proofs.laws.steps_are_turns_of_twins.Goals as goal

pub returns : goal.returns
returns c = step_turns
