use Rattle.failure_scores.proofs.Best.{tops_agree}
use Rattle.failure_scores.proofs.laws.one_component_is_top.Goals as goal

pub returns : goal.returns
returns c = tops_agree
