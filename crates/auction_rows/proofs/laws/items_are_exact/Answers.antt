use Rattle.auction_rows.proofs.Exact.{exactly}
use Rattle.auction_rows.proofs.ExactRows.{item_exact}
use Rattle.auction_rows.proofs.laws.items_are_exact.Goals as goal

pub returns-clause-exact : goal.returns-clause-exact
returns-clause-exact c = exactly item_exact

pub returns-clause-back : goal.returns-clause-back
returns-clause-back c = item_exact.again
