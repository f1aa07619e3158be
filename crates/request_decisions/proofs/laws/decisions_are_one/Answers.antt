use Rattle.request_decisions.proofs.One.{one_decision}
use Rattle.request_decisions.proofs.laws.decisions_are_one.Goals as goal

pub returns : goal.returns
returns c = one_decision c.cookies_decode_back.ensures c.tokens_are_of_one_request.ensures
