use Rattle.session_lanes.proofs.CallsEnd.{ends, ends_gone}
use Rattle.session_lanes.proofs.laws.calls_end.Goals as goal

pub returns-clause-gone : goal.returns-clause-gone
returns-clause-gone c = ends_gone

pub returns-clause-between : goal.returns-clause-between
returns-clause-between c = ends
