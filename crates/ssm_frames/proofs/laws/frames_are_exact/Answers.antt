use Rattle.ssm_frames.proofs.ExactFrames.{decoded_spells, spelled_decodes, none_spelled}
use Rattle.ssm_frames.proofs.laws.frames_are_exact.Goals as goal

pub returns-clause-some : goal.returns-clause-some
returns-clause-some c = λ bytes frame are. (decoded_spells bytes frame are, spelled_decodes bytes frame)

pub returns-clause-none : goal.returns-clause-none
returns-clause-none c = none_spelled
