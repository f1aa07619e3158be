use Rattle.journal_model.specs.declared.entry.Entry.TheVariants.{Commit}
use Rattle.journal_model.specs.Calls.{entry_of}
use Rattle.journal_model.specs.Conflicts.{conflict_of}
use Rattle.journal_model.specs.Limits.{entry_bytes, full_for}
use Rattle.journal_model.specs.Requests.{commit_of}
use Rattle.journal_model.specs.Stale.{stale_in}
use Rattle.boot_core.proofs.Ordering.{first_is, none_is}
use Rattle.boot_core.proofs.laws.commits_are_refused_in_order.Goals as goal

pub returns-clause-first : goal.returns-clause-first
returns-clause-first c = λ limits es call action cause.
    first_is (commit_of es call.request) (stale_in es call.touched) (conflict_of es call) (full_for limits es 1 (entry_bytes (Commit (entry_of call action)))) cause

pub returns-clause-none : goal.returns-clause-none
returns-clause-none c = λ limits es call action.
    none_is (commit_of es call.request) (stale_in es call.touched) (conflict_of es call) (full_for limits es 1 (entry_bytes (Commit (entry_of call action))))
