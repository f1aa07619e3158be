use Rattle.std.proofs.Common.{rules}
use Rattle.shepherd.proofs.shepherd.Stage.drop_passes.Goals as goal

pub returns-in-Serving : goal.returns-in-Serving
returns-in-Serving g c = search rules
