use Rattle.std.proofs.Common.{rules}
use Rattle.std.proofs.lemmas.Fn.{filter_same}
use Rattle.failure_scores.specs.Scores.{is_recent}
use Rattle.failure_scores.proofs.scores.forget.Goals as goal

pub returns : goal.returns
returns c = filter_same _ (is_recent c.args.now) _ (λ report recent f' t. search rules) c.args.reports.now.items c.retain.new.self.items c.retain.ensures.filtered
