use Rattle.std.proofs.Common.{refl}
use Rattle.deployment.specs.Groups.{group_of}
use Rattle.boot_core.proofs.Stepping.{one_step, one_enter, rows_stay}
use Rattle.boot_core.proofs.program_laws.boot_steps_follow.Goals as goal

pub returns-clause-enter : goal.returns-clause-enter
returns-clause-enter c = λ b ticket x m. (refl, (b.entries, group_of b.start.deployment x.0, refl))

pub returns-clause-one : goal.returns-clause-one
returns-clause-one c = one_step

pub returns-clause-opened : goal.returns-clause-opened
returns-clause-opened c = one_enter

pub returns-clause-meanwhile : goal.returns-clause-meanwhile
returns-clause-meanwhile c = rows_stay
