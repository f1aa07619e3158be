use Rattle.auction_rows.proofs.Exact.{exactly}
use Rattle.auction_rows.proofs.ExactRows.{name_exact}
use Rattle.auction_rows.proofs.laws.names_are_exact.Goals as goal

pub returns-clause-exact : goal.returns-clause-exact
returns-clause-exact c = exactly name_exact

pub returns-clause-back : goal.returns-clause-back
returns-clause-back c = name_exact.again
