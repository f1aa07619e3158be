use Rattle.journal_model.proofs.OneDown.{only_undone, down_of_scope}
use Rattle.journal_model.proofs.Undone.{found_of, none_of, no_undone}
use Rattle.journal_model.proofs.reboot_laws.undone_downs_are_found.Goals as goal

pub returns-clause-found : goal.returns-clause-found
returns-clause-found c = found_of

pub returns-clause-none : goal.returns-clause-none
returns-clause-none c = λ es s. (none_of es s, no_undone es s)

pub returns-clause-only : goal.returns-clause-only
returns-clause-only c = only_undone

pub returns-clause-down : goal.returns-clause-down
returns-clause-down c = down_of_scope
