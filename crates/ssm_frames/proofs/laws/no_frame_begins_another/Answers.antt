use Rattle.ssm_frames.proofs.ExactFrames.{none_begins}
use Rattle.ssm_frames.proofs.laws.no_frame_begins_another.Goals as goal

pub returns : goal.returns
returns c = none_begins
