use Rattle.std.proofs.Common.{rules}
use Rattle.request_decisions.proofs.deciding.by_form.Goals as goal

pub returns : goal.returns
returns c = search rules
