use Rattle.std.proofs.Common.{rules}
use Rattle.ssm_frames.specs.Reading.{value_at}
use Rattle.ssm_frames.proofs.fields.value_at.Goals as goal

pub returns-clause-value : goal.returns-clause-value
unfolding value_at
returns-clause-value c = search rules

pub returns-clause-few : goal.returns-clause-few
returns-clause-few c = search rules
