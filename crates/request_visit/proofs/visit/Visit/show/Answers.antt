use Rattle.std.proofs.Common.{rules}
use Rattle.request_visit.proofs.visit.Visit.show.Goals as goal

pub returns-in-Write : goal.returns-in-Write
returns-in-Write g c = search rules
