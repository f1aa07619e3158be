use Rattle.auction_rows.proofs.Exact.{exactly}
use Rattle.auction_rows.proofs.ExactRows.{user_exact}
use Rattle.auction_rows.proofs.laws.users_are_exact.Goals as goal

pub returns-clause-exact : goal.returns-clause-exact
returns-clause-exact c = exactly user_exact

pub returns-clause-back : goal.returns-clause-back
returns-clause-back c = user_exact.again
