use Rattle.lane_link.proofs.Beginning.{twin_stays, twin_settles}
use Rattle.lane_link.proofs.laws.twins_stay.Goals as goal

pub returns-clause-steps : goal.returns-clause-steps
returns-clause-steps c = twin_stays

pub returns-clause-windows : goal.returns-clause-windows
returns-clause-windows c = λ st windows number way twin. record { held = twin.held; holds = twin.holds; there = twin.there }

pub returns-clause-silence : goal.returns-clause-silence
returns-clause-silence c = λ st brick number way twin. record { held = twin.held; holds = twin.holds; there = twin.there }

pub returns-clause-settle : goal.returns-clause-settle
returns-clause-settle c = twin_settles
