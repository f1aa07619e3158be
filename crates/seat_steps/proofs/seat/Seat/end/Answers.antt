use Rattle.std.proofs.Common.{ap}
use Rattle.auction_calls.specs.declared.action.ActionCall.{ActionCall}
use Rattle.shepherd.specs.declared.shepherd.Shepherd.{Shepherd}
use Rattle.seat_steps.proofs.seat.Seat.end.Goals as goal

pub returns-clause-goes : goal.returns-clause-goes
returns-clause-goes c = λ container goes. record {
  goes_on = c.connections_go_on.ensures.still container c.args.self.now.connection c.end.new.self
      (ap (λ (s : Shepherd ActionCall). s.stage) c.end.ensures) (ap (λ (s : Shepherd ActionCall). s.front) c.end.ensures)
      (ap (λ (s : Shepherd ActionCall). s.wants_memory) c.end.ensures) goes.goes_on;
}
