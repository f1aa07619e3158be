use Rattle.std.proofs.Common.{rules}
use Rattle.site_responses.proofs.responses.response_of.Goals as goal

pub returns-in-Page : goal.returns-in-Page
returns-in-Page c = search rules

pub returns-in-Lost : goal.returns-in-Lost
returns-in-Lost c = search rules
