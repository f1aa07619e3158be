use Rattle.std.proofs.Common.{rules}
use Rattle.auction_rows.proofs.ExactRows.{user_within}
use Rattle.auction_rows.proofs.users.UserRowTableRow.decode.Goals as goal

pub returns-clause-within : goal.returns-clause-within
returns-clause-within c = user_within c.args.bytes.now c.in_ok-found.found c.bytes_are_in_range.ensures (search rules)
