use Rattle.std.proofs.Common.{rules}
use Rattle.shepherd.proofs.shepherd.Stage.into_item.Goals as goal

pub returns : goal.returns
returns g c = search rules
