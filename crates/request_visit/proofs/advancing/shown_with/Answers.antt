use Rattle.std.proofs.Common.{rules}
use Rattle.request_visit.proofs.advancing.shown_with.Goals as goal

pub returns-in-None : goal.returns-in-None
returns-in-None c = search rules
