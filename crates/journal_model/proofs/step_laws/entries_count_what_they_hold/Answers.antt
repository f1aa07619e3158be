use Rattle.std.proofs.Common.{Some, None, arith}
use Rattle.journal_model.proofs.Counting.{counts_nothing, counts_mark, counts_write, counts_action, counts_session}
use Rattle.journal_model.proofs.step_laws.entries_count_what_they_hold.Goals as goal

pub returns-clause-nothing : goal.returns-clause-nothing
returns-clause-nothing c = counts_nothing

pub returns-clause-value : goal.returns-clause-value
returns-clause-value c = λ e read bytes. counts_mark e (record { read = read; value = Some bytes })

pub returns-clause-absent : goal.returns-clause-absent
returns-clause-absent c = λ e read. omega (arith, counts_mark e (record { read = read; value = None }))

pub returns-clause-write : goal.returns-clause-write
returns-clause-write c = counts_write

pub returns-clause-action : goal.returns-clause-action
returns-clause-action c = counts_action

pub returns-clause-session : goal.returns-clause-session
returns-clause-session c = counts_session
