use Rattle.reach_laws.proofs.Once.{once_is_buy}
use Rattle.reach_laws.proofs.laws.purchases_enter_once.Goals as goal

pub returns : goal.returns
returns c = once_is_buy
