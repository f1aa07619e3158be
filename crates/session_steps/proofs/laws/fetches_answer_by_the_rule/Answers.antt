use Rattle.session_steps.proofs.Promised.{fetch_by_rule}
use Rattle.session_steps.proofs.laws.fetches_answer_by_the_rule.Goals as goal

pub returns : goal.returns
returns c = fetch_by_rule
