use Rattle.std.proofs.Common.{◌∷◌, [], arith, length-append}
use Rattle.journal_model.specs.declared.entry.Entry.TheVariants.{Commit, Down, Up}
use Rattle.journal_model.proofs.Filling.{bytes_of-push, undone_downs-commit, undone_downs-down, undone_downs-up}
use Rattle.journal_model.proofs.Growing.{turns_push}
use Rattle.journal_model.proofs.Undone.{undone_counted}
use Rattle.journal_model.proofs.reboot_laws.journals_fill.Goals as goal

pub returns-clause-bytes : goal.returns-clause-bytes
returns-clause-bytes c = bytes_of-push

pub returns-clause-commit : goal.returns-clause-commit
returns-clause-commit c = λ es e. omega (arith, undone_downs-commit es e, length-append es (Commit e ∷ []))

pub returns-clause-down : goal.returns-clause-down
returns-clause-down c = λ es s. omega (arith, undone_downs-down es s, length-append es (Down s ∷ []))

pub returns-clause-up : goal.returns-clause-up
returns-clause-up c = λ es s turns may. omega (arith, undone_downs-up es s turns may, length-append es (Up s ∷ []))

pub returns-clause-turns : goal.returns-clause-turns
returns-clause-turns c = turns_push

pub returns-clause-counted : goal.returns-clause-counted
returns-clause-counted c = undone_counted
