use Rattle.ssm_frames.proofs.ExactFrames.{decoded_back}
use Rattle.ssm_frames.proofs.laws.frames_decode_back.Goals as goal

pub returns : goal.returns
returns c = decoded_back
