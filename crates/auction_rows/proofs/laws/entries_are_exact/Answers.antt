use Rattle.auction_rows.proofs.Exact.{exactly}
use Rattle.auction_rows.proofs.ExactRows.{entry_exact}
use Rattle.auction_rows.proofs.laws.entries_are_exact.Goals as goal

pub returns-clause-exact : goal.returns-clause-exact
returns-clause-exact c = exactly entry_exact

pub returns-clause-back : goal.returns-clause-back
returns-clause-back c = entry_exact.again
