use Rattle.auction_calls.proofs.ExactCalls.{one_call}
use Rattle.auction_calls.proofs.laws.texts_spell_one_call.Goals as goal

pub returns : goal.returns
returns c = one_call
