use Rattle.recovery_manager.proofs.Widening.{next_old, next_elsewhere}
use Rattle.recovery_manager.proofs.laws.old_acts_do_not_count.Goals as goal

pub returns-clause-old : goal.returns-clause-old
returns-clause-old c = next_old

pub returns-clause-elsewhere : goal.returns-clause-elsewhere
returns-clause-elsewhere c = next_elsewhere
