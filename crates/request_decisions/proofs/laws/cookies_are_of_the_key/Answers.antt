use Rattle.request_decisions.proofs.Orders.{cookie_of_text, text_of_cookie}
use Rattle.request_decisions.proofs.laws.cookies_are_of_the_key.Goals as goal

pub returns-clause-accepted : goal.returns-clause-accepted
returns-clause-accepted c = text_of_cookie

pub returns-clause-taken : goal.returns-clause-taken
returns-clause-taken c = cookie_of_text c.cookies_decode_back.ensures
