use Rattle.journal_model.proofs.OneDown.{one_down, only_down}
use Rattle.journal_model.proofs.Undone.{found_down, none_down_by, none_found}
use Rattle.journal_model.proofs.reboot_laws.downs_are_found.Goals as goal

pub returns-clause-found : goal.returns-clause-found
returns-clause-found c = found_down

pub returns-clause-up : goal.returns-clause-up
returns-clause-up c = λ es g. (none_down_by es g, none_found es g)

pub returns-clause-one : goal.returns-clause-one
returns-clause-one c = one_down

pub returns-clause-only : goal.returns-clause-only
returns-clause-only c = only_down
