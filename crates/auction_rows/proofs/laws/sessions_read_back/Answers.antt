use Rattle.auction_rows.proofs.Values.{read_back}
use Rattle.auction_rows.proofs.laws.sessions_read_back.Goals as goal

pub returns : goal.returns
returns c = read_back
