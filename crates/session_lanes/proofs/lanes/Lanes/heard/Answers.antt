use Rattle.std.proofs.Common.{rules}
use Rattle.session_lanes.proofs.lanes.Lanes.heard.Goals as goal

pub returns-clause-passes : goal.returns-clause-passes
returns-clause-passes c = search rules
