use Rattle.request_decisions.proofs.Orders.{orders_exact}
use Rattle.request_decisions.proofs.laws.orders_are_exact.Goals as goal

pub returns : goal.returns
returns c = orders_exact
