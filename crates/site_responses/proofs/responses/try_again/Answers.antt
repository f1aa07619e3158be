use Rattle.std.proofs.Common.{rules}
use Rattle.site_responses.specs.Responses.{bytes_of}
use Rattle.site_responses.proofs.responses.try_again.Goals as goal

pub returns : goal.returns
unfolding bytes_of
returns c = search rules
