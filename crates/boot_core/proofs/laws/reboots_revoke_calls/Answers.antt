use Rattle.journal_model.proofs.Revoking.{stale_in-beside}
use Rattle.boot_core.proofs.Revoking.{down_revokes, revoked_lasts, exit_beside, read_beside, list_beside, put_beside, enter_beside, enter_up_beside, commit_beside, commit_up, enter_up}
use Rattle.boot_core.proofs.laws.reboots_revoke_calls.Goals as goal

pub returns-clause-down : goal.returns-clause-down
returns-clause-down c = down_revokes

pub returns-clause-lasting : goal.returns-clause-lasting
returns-clause-lasting c = revoked_lasts

pub returns-clause-beside : goal.returns-clause-beside
returns-clause-beside c = λ es e call. stale_in-beside es e call.touched

pub returns-clause-exit : goal.returns-clause-exit
returns-clause-exit c = exit_beside

pub returns-clause-read : goal.returns-clause-read
returns-clause-read c = read_beside

pub returns-clause-list : goal.returns-clause-list
returns-clause-list c = list_beside

pub returns-clause-put : goal.returns-clause-put
returns-clause-put c = put_beside

pub returns-clause-enter_down : goal.returns-clause-enter_down
returns-clause-enter_down c = enter_beside

pub returns-clause-enter_up : goal.returns-clause-enter_up
returns-clause-enter_up c = enter_up_beside

pub returns-clause-commit : goal.returns-clause-commit
returns-clause-commit c = commit_beside

pub returns-clause-commit_up : goal.returns-clause-commit_up
returns-clause-commit_up c = commit_up

pub returns-clause-up : goal.returns-clause-up
returns-clause-up c = enter_up
