use Rattle.seat_laws.proofs.OwnOrders.{step-begins-held, step-orders}
use Rattle.seat_laws.proofs.Owing.{orders-begins}
use Rattle.seat_laws.proofs.owned_writes.requests_order_their_own_writes.Goals as goal

pub returns-clause-step : goal.returns-clause-step
returns-clause-step c = step-orders

pub returns-clause-begins : goal.returns-clause-begins
returns-clause-begins c = orders-begins

pub returns-clause-alone : goal.returns-clause-alone
returns-clause-alone c = step-begins-held
