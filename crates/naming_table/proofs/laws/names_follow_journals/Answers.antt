use Rattle.std.proofs.Common.{arith}
use Rattle.journal_model.proofs.Following.{statuses_commit, may_go_down, generations_within, may_come_up}
use Rattle.naming_table.proofs.laws.names_follow_journals.Goals as goal

pub returns-clause-commit : goal.returns-clause-commit
returns-clause-commit c = λ names parts es e follows. record { bound = follows.bound; statuses = statuses_commit names.statuses es e follows.statuses }

pub returns-clause-up : goal.returns-clause-up
returns-clause-up c = λ names parts es scope follows. may_go_down names.statuses es scope follows.statuses

pub returns-clause-few : goal.returns-clause-few
returns-clause-few c = λ names parts es scope follows few g within held. omega (arith, generations_within names.statuses es g follows.statuses within)

pub returns-clause-down : goal.returns-clause-down
returns-clause-down c = λ names parts es scope follows. may_come_up names.statuses es scope follows.statuses
