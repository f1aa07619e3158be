use Rattle.auction_rows.proofs.Exact.{exactly}
use Rattle.auction_rows.proofs.ExactRows.{counter_exact}
use Rattle.auction_rows.proofs.laws.counters_are_exact.Goals as goal

pub returns-clause-exact : goal.returns-clause-exact
returns-clause-exact c = exactly counter_exact

pub returns-clause-back : goal.returns-clause-back
returns-clause-back c = counter_exact.again
