use Rattle.call_attempts.proofs.UnderWay.{begins, stays}
use Rattle.call_attempts.proofs.laws.attempts_stay_under_way.Goals as goal

pub returns-clause-begun : goal.returns-clause-begun
returns-clause-begun c = begins

pub returns-clause-meanwhile : goal.returns-clause-meanwhile
returns-clause-meanwhile c = stays
