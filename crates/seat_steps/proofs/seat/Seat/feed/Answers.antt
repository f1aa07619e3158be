use Rattle.std.proofs.Common.{ap}
use Rattle.auction_calls.specs.declared.action.ActionCall.{ActionCall}
use Rattle.shepherd.specs.declared.shepherd.Shepherd.{Shepherd}
use Rattle.seat_steps.proofs.seat.Seat.feed.Goals as goal

pub returns-in-Ok-clause-goes : goal.returns-in-Ok-clause-goes
returns-in-Ok-clause-goes c = λ container goes. record {
  goes_on = c.connections_go_on.ensures.still container c.args.self.now.connection c.feed.new.self
      (ap (λ (s : Shepherd ActionCall). s.stage) c.in-Ok.ensures.fed) (ap (λ (s : Shepherd ActionCall). s.front) c.in-Ok.ensures.fed)
      (ap (λ (s : Shepherd ActionCall). s.wants_memory) c.in-Ok.ensures.fed) goes.goes_on;
}

pub returns-in-Err-clause-goes : goal.returns-in-Err-clause-goes
returns-in-Err-clause-goes c = λ container goes. record {
  goes_on = c.connections_go_on.ensures.wants container c.feed.new.self (ap (λ (s : Shepherd ActionCall). s.wants_memory) c.in-Err.ensures.want);
}
