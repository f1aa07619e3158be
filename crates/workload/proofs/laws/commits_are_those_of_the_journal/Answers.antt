use Rattle.workload.proofs.Commits.{commits_counted, commits_written}
use Rattle.workload.proofs.laws.commits_are_those_of_the_journal.Goals as goal

pub returns-clause-counted : goal.returns-clause-counted
returns-clause-counted c = commits_counted

pub returns-clause-written : goal.returns-clause-written
returns-clause-written c = commits_written
