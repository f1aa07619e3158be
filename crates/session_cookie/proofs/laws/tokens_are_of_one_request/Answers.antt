use Rattle.session_cookie.proofs.OneRequest.{one_request}
use Rattle.session_cookie.proofs.laws.tokens_are_of_one_request.Goals as goal

pub returns : goal.returns
returns c = one_request
