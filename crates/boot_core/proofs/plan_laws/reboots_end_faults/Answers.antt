use Rattle.std.proofs.Common.{◌+◌}
use Rattle.std.proofs.lemmas.List.{get_or-set_other, get_or-set_same}
use Rattle.component_pool.specs.Plans.{counted}
use Rattle.component_pool.specs.Pool.{times}
use Rattle.boot_core.proofs.Ending.{ended_by, same_beside, same_after_up, same_after_commit, same_after_others}
use Rattle.boot_core.proofs.plan_laws.reboots_end_faults.Goals as goal

pub returns-clause-down : goal.returns-clause-down
returns-clause-down c = ended_by

pub returns-clause-beside : goal.returns-clause-beside
returns-clause-beside c = same_beside

pub returns-clause-up : goal.returns-clause-up
returns-clause-up c = same_after_up

pub returns-clause-commit : goal.returns-clause-commit
returns-clause-commit c = same_after_commit

pub returns-clause-others : goal.returns-clause-others
returns-clause-others c = same_after_others

pub returns-clause-counted : goal.returns-clause-counted
returns-clause-counted c = λ b x within. get_or-set_same b.entered x.0 (counted (times b.entered x.0 + 1)) 0 within

pub returns-clause-uncounted : goal.returns-clause-uncounted
returns-clause-uncounted c = λ b d x other. get_or-set_other b.entered x.0 d.0 (counted (times b.entered x.0 + 1)) 0 other
