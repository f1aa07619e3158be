use Rattle.auction_rows.proofs.AnyRow.{row_spelled, spelled_read, none_spelled}
use Rattle.auction_rows.proofs.laws.rows_are_exact.Goals as goal

pub returns-clause-some : goal.returns-clause-some
returns-clause-some c = λ table bytes row are. (row_spelled table bytes row are, spelled_read table bytes row)

pub returns-clause-none : goal.returns-clause-none
returns-clause-none c = none_spelled
