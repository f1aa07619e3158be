use Rattle.std.proofs.Common.{ap}
use Rattle.auction_calls.specs.declared.action.ActionCall.{ActionCall}
use Rattle.shepherd.specs.declared.shepherd.Shepherd.{Shepherd}
use Rattle.memory_site.proofs.surroundings.Surroundings.end.Goals as goal

pub returns-clause-goes : goal.returns-clause-goes
returns-clause-goes c = record {
  goes_on = c.connections_go_on.ensures.still c.args.self.now.container c.args.shepherd.now c.end.new.self
      (ap (λ (s : Shepherd ActionCall). s.stage) c.end.ensures) (ap (λ (s : Shepherd ActionCall). s.front) c.end.ensures)
      (ap (λ (s : Shepherd ActionCall). s.wants_memory) c.end.ensures) c.requires.goes_on;
}
