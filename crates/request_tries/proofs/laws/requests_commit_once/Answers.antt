use Rattle.request_tries.proofs.Once.{commits_once}
use Rattle.request_tries.proofs.laws.requests_commit_once.Goals as goal

pub returns : goal.returns
returns c = commits_once
