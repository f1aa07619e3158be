use Rattle.std.proofs.Common.{rules}
use Rattle.auction_rows.proofs.ExactRows.{category_within}
use Rattle.auction_rows.proofs.categories.CategoryRowTableRow.decode.Goals as goal

pub returns-clause-within : goal.returns-clause-within
returns-clause-within c = category_within c.args.bytes.now c.in_ok-found.found c.bytes_are_in_range.ensures (search rules)
