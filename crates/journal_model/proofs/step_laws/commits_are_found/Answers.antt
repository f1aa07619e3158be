use Rattle.journal_model.proofs.Found.{commit_there, none_is}
use Rattle.journal_model.proofs.step_laws.commits_are_found.Goals as goal

pub returns-clause-some : goal.returns-clause-some
returns-clause-some c = commit_there

pub returns-clause-none : goal.returns-clause-none
returns-clause-none c = none_is
