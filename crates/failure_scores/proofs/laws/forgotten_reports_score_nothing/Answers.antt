use Rattle.failure_scores.proofs.Counting.{score_kept}
use Rattle.failure_scores.proofs.laws.forgotten_reports_score_nothing.Goals as goal

pub returns : goal.returns
returns c = score_kept
