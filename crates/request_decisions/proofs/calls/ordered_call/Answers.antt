use Rattle.std.proofs.Common.{rules}
use Rattle.request_decisions.specs.Calls.{ordered_call}
use Rattle.request_decisions.proofs.calls.ordered_call.Goals as goal

pub returns-clause-call : goal.returns-clause-call
unfolding ordered_call
returns-clause-call c = search rules
