use Rattle.auction_rows.proofs.Exact.{exactly}
use Rattle.auction_rows.proofs.ExactRows.{feedback_exact}
use Rattle.auction_rows.proofs.laws.feedback_is_exact.Goals as goal

pub returns-clause-exact : goal.returns-clause-exact
returns-clause-exact c = exactly feedback_exact

pub returns-clause-back : goal.returns-clause-back
returns-clause-back c = feedback_exact.again
