use Rattle.std.proofs.Common.{rules}
use Rattle.session_lanes.proofs.lanes.Lanes.turn.Goals as goal

pub returns-in-Some-Ended-clause-more : goal.returns-in-Some-Ended-clause-more
returns-in-Some-Ended-clause-more c = search rules

pub returns-in-Some-Ended-2-clause-more : goal.returns-in-Some-Ended-2-clause-more
returns-in-Some-Ended-2-clause-more c = search rules
