use Rattle.ssm_frames.proofs.Short.{spelling_short, longest}
use Rattle.ssm_frames.proofs.laws.frames_are_short.Goals as goal

pub returns-clause-short : goal.returns-clause-short
returns-clause-short c = spelling_short

pub returns-clause-longest : goal.returns-clause-longest
returns-clause-longest c = longest
