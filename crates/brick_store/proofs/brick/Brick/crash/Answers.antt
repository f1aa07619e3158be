use Rattle.std.proofs.Common.{rules}
use Rattle.brick_store.proofs.brick.Brick.crash.Goals as goal

pub returns-clause-value : goal.returns-clause-value
returns-clause-value c = search rules
