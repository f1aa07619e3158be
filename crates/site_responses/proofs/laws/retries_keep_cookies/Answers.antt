use Rattle.site_responses.proofs.Changes.{when_retried}
use Rattle.site_responses.proofs.laws.retries_keep_cookies.Goals as goal

pub returns-clause-when : goal.returns-clause-when
returns-clause-when c = when_retried
