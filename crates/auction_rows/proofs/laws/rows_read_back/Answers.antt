use Rattle.auction_rows.proofs.AnyRow.{row_again}
use Rattle.auction_rows.proofs.laws.rows_read_back.Goals as goal

pub returns : goal.returns
returns c = row_again
