use Rattle.std.proofs.Common.{rules}
use Rattle.ssm_frames.specs.Reading.{sender_at}
use Rattle.ssm_frames.proofs.fields.sender_at.Goals as goal

pub returns : goal.returns
unfolding sender_at
returns c = search rules
