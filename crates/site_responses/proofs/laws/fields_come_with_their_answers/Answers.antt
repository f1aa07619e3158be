use Rattle.site_responses.proofs.Changes.{bytes_say, last_closes, when_allowed, when_forbidden}
use Rattle.site_responses.proofs.laws.fields_come_with_their_answers.Goals as goal

pub returns-clause-allow : goal.returns-clause-allow
returns-clause-allow c = when_allowed

pub returns-clause-forbidden : goal.returns-clause-forbidden
returns-clause-forbidden c = when_forbidden

pub returns-clause-last : goal.returns-clause-last
returns-clause-last c = last_closes

pub returns-clause-bytes : goal.returns-clause-bytes
returns-clause-bytes c = bytes_say
