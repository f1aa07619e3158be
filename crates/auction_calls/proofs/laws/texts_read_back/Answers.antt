use Rattle.auction_calls.proofs.ExactCalls.{read_back}
use Rattle.auction_calls.proofs.laws.texts_read_back.Goals as goal

pub returns : goal.returns
returns c = read_back
