use Rattle.boot_core.proofs.Busy.{busy_least, busy_none, least_busy}
use Rattle.boot_core.proofs.laws.least_group_is_busy.Goals as goal

pub returns-clause-some : goal.returns-clause-some
returns-clause-some c = busy_least

pub returns-clause-none : goal.returns-clause-none
returns-clause-none c = busy_none

pub returns-clause-found : goal.returns-clause-found
returns-clause-found c = least_busy
