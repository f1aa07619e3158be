use Rattle.journal_model.specs.Statuses.{came_up}
use Rattle.journal_model.proofs.Following.{ChangedBelow}
use Rattle.journal_model.proofs.statuses.GroupStatuses.set_scope_up.Given as goal

abbrev pub invariant-loop-number : goal.invariant-loop-number
invariant-loop-number l = ChangedBelow l.scope came_up l.initial.self l.self l.number
