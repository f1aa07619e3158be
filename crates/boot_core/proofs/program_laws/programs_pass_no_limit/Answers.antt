use Rattle.boot_core.proofs.Allowed.{enter_allowed, read_allowed, list_allowed, put_allowed, exit_allowed}
use Rattle.boot_core.proofs.program_laws.programs_pass_no_limit.Goals as goal

pub returns-clause-enter : goal.returns-clause-enter
returns-clause-enter c = enter_allowed

pub returns-clause-read : goal.returns-clause-read
returns-clause-read c = read_allowed

pub returns-clause-list : goal.returns-clause-list
returns-clause-list c = list_allowed

pub returns-clause-put : goal.returns-clause-put
returns-clause-put c = put_allowed

pub returns-clause-exit : goal.returns-clause-exit
returns-clause-exit c = exit_allowed
