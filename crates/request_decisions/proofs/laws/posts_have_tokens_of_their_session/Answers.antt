use Rattle.request_decisions.proofs.Orders.{posts_have_tokens}
use Rattle.request_decisions.proofs.laws.posts_have_tokens_of_their_session.Goals as goal

pub returns : goal.returns
returns c = posts_have_tokens
