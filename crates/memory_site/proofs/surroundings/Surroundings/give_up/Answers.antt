use Rattle.std.proofs.Common.{ap, subst}
use Rattle.auction_calls.specs.declared.action.ActionCall.{ActionCall}
use Rattle.container_core.specs.Container.{ContainerValue}
use Rattle.shepherd.specs.Steps.{GivesBack}
use Rattle.shepherd.specs.declared.shepherd.Shepherd.{Shepherd}
use Rattle.shepherd.specs.declared.shepherd.Stage.{Stage}
use Rattle.memory_site.specs.Steps.{SurroundingsValue, value_of}
use Rattle.memory_site.proofs.surroundings.Surroundings.give_up.Goals as goal

pub returns-clause-given : goal.returns-clause-given
returns-clause-given c =
    let after : ContainerValue → SurroundingsValue = λ k. record (value_of c.args.self.now) { container = k; windows = c.drop_passes.new.windows } in
    record {
      stage = c.drop_passes.new.self.stage;
      back = subst (λ (stage : Stage ActionCall). GivesBack stage c.args.self.now.windows c.drop_passes.new.self.stage c.drop_passes.new.windows)
          (ap (λ (s : Shepherd ActionCall). s.stage) c.drop_call.ensures.stage) c.drop_passes.ensures.stage;
      left = c.item_left-item.ensures;
      rest = ap after c.drop_call.ensures.same;
    }
