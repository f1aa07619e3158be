use Rattle.journal_model.specs.Statuses.{went_down}
use Rattle.journal_model.proofs.Following.{ChangedBelow}
use Rattle.journal_model.proofs.statuses.GroupStatuses.set_scope_down.Given as goal

abbrev pub invariant-loop-number : goal.invariant-loop-number
invariant-loop-number l = ChangedBelow l.scope (went_down l.down) l.initial.self l.self l.number
