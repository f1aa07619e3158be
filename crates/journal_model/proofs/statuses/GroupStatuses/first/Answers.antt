use Rattle.std.proofs.Common.{refl}
use Rattle.journal_model.specs.Statuses.{statuses_first}
use Rattle.journal_model.proofs.Following.{statuses_at_first}
use Rattle.journal_model.proofs.statuses.GroupStatuses.first.Goals as goal

pub returns-clause-journal : goal.returns-clause-journal
unfolding statuses_first
returns-clause-journal c = statuses_at_first statuses_first refl
