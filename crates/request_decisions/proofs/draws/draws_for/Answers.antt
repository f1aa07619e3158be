use Rattle.std.proofs.Common.{rules}
use Rattle.request_decisions.specs.Draws.{drawn_for}
use Rattle.request_decisions.proofs.draws.draws_for.Goals as goal

pub returns : goal.returns
unfolding drawn_for
returns c = search rules
