use Rattle.auction_rows.proofs.Exact.{exactly}
use Rattle.auction_rows.proofs.ExactRows.{category_exact}
use Rattle.auction_rows.proofs.laws.categories_are_exact.Goals as goal

pub returns-clause-exact : goal.returns-clause-exact
returns-clause-exact c = exactly category_exact

pub returns-clause-back : goal.returns-clause-back
returns-clause-back c = category_exact.again
