use Rattle.container_core.proofs.Laid.{journal_is, history_is}
use Rattle.container_core.proofs.container.Container.as_boot.Goals as goal

pub returns-clause-events : goal.returns-clause-events
returns-clause-events g c =
    rw (← c.self.view_is) (journal_is c.self.inside.boot.value.entries c.self.inside.history.marks c.self.invariant.marked)

pub returns-clause-history : goal.returns-clause-history
returns-clause-history g c =
    rw (← c.self.view_is) (history_is c.self.inside.boot.value.entries c.self.inside.history.marks c.self.invariant.stops)
