use Rattle.http_wire.proofs.OneLine.{same_breaks}
use Rattle.http_wire.proofs.laws.values_add_no_lines.Goals as goal

pub returns : goal.returns
returns c = same_breaks
