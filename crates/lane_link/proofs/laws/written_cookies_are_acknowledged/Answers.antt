use Rattle.lane_link.proofs.Beginning.{written_acknowledged}
use Rattle.lane_link.proofs.laws.written_cookies_are_acknowledged.Goals as goal

pub returns : goal.returns
returns c = written_acknowledged
