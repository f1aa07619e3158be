use Rattle.request_decisions.proofs.Orders.{in_range}
use Rattle.request_decisions.proofs.laws.orders_are_in_range.Goals as goal

pub returns : goal.returns
returns c = in_range c.actions_are_at_their_paths.ensures.action c.actions_are_read_exactly.ensures
