use Rattle.container_core.proofs.Kept.{kept_stop, stopped_as, grown_by_stop, of_parts}
use Rattle.container_core.proofs.container.Container.stop.Goals as goal

pub invariant_of-self : goal.invariant_of-self
invariant_of-self g c =
    kept_stop c.self.inside.boot.value c.self.inside.history.marks c.stop.new.self.marks (g.K.Keeper.told c.self.inside.keeper) (record { 0 = c.entry_count.result }) c.entry_count.ensures.value c.stop.ensures c.self.invariant

pub returns-clause-stopped : goal.returns-clause-stopped
returns-clause-stopped g c =
    rw (← c.self.view_is) (stopped_as c.self.inside.boot.value c.self.inside.history.marks c.stop.new.self.marks (g.K.Keeper.told c.self.inside.keeper) (g.K.Keeper.faults c.self.inside.keeper) (record { 0 = c.entry_count.result }) c.entry_count.ensures.value c.stop.ensures c.self.invariant.marked)

pub returns-clause-grown : goal.returns-clause-grown
returns-clause-grown g c =
    grown_by_stop c.args.self.now (of_parts c.self.inside.boot.value c.stop.new.self.marks (g.K.Keeper.told c.self.inside.keeper) (g.K.Keeper.faults c.self.inside.keeper)) (returns-clause-stopped g c)
