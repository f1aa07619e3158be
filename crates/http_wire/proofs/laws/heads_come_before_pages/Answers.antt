use Rattle.http_wire.proofs.OneLine.{page_behind}
use Rattle.http_wire.proofs.Sized.{sized}
use Rattle.http_wire.proofs.laws.heads_come_before_pages.Goals as goal

pub returns-clause-sized : goal.returns-clause-sized
returns-clause-sized c = sized

pub returns-clause-same : goal.returns-clause-same
returns-clause-same c = page_behind
