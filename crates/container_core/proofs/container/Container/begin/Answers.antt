use Rattle.std.proofs.Common.{◌∙◌}
use Rattle.container_core.proofs.Prefixes.{grown_same}
use Rattle.container_core.proofs.container.Container.begin.Goals as goal

pub returns-clause-grown : goal.returns-clause-grown
returns-clause-grown g c =
    rw (← c.self.view_is) (grown_same c.self.inside.boot.value c.begin.new.self c.self.inside.history.marks (g.K.Keeper.told c.self.inside.keeper) (g.K.Keeper.faults c.self.inside.keeper) (c.begin.ensures.same ∙ c.deref_mut.ensures.value))
