use Rattle.std.proofs.Common.{rules}
use Rattle.site_responses.proofs.responses.untaken_response.Goals as goal

pub returns-in-TooLong : goal.returns-in-TooLong
returns-in-TooLong c = search rules
