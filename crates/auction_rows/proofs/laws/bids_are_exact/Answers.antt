use Rattle.auction_rows.proofs.Exact.{exactly}
use Rattle.auction_rows.proofs.ExactRows.{bid_exact}
use Rattle.auction_rows.proofs.laws.bids_are_exact.Goals as goal

pub returns-clause-exact : goal.returns-clause-exact
returns-clause-exact c = exactly bid_exact

pub returns-clause-back : goal.returns-clause-back
returns-clause-back c = bid_exact.again
