use Rattle.std.proofs.Common.{rules}
use Rattle.auction_rows.proofs.fields.check_end.Goals as goal

pub returns : goal.returns
returns c = search rules
