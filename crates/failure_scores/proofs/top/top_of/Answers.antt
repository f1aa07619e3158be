use Rattle.failure_scores.proofs.Best.{best_is_top}
use Rattle.failure_scores.proofs.top.top_of.Goals as goal

pub returns : goal.returns
returns c = best_is_top c.args.reports.now c.args.now c.best_of.result c.best_of.ensures
