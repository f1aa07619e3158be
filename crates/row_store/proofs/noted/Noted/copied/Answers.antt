use Rattle.std.proofs.Common.{rules}
use Rattle.row_store.proofs.noted.Noted.copied.Goals as goal

pub returns : goal.returns
returns c = search rules
