use Rattle.failure_scores.proofs.Counting.{score_one, score_old, score_elsewhere}
use Rattle.failure_scores.proofs.laws.scores_are_counts.Goals as goal

pub returns-clause-one : goal.returns-clause-one
returns-clause-one c = score_one

pub returns-clause-old : goal.returns-clause-old
returns-clause-old c = score_old

pub returns-clause-elsewhere : goal.returns-clause-elsewhere
returns-clause-elsewhere c = score_elsewhere
