use Rattle.auction_calls.proofs.ExactCalls.{read_spells, spelled_read, none_spelled}
use Rattle.auction_calls.proofs.laws.texts_are_exact.Goals as goal

pub returns-clause-some : goal.returns-clause-some
returns-clause-some c = λ text call are. (read_spells text call are, spelled_read text call)

pub returns-clause-none : goal.returns-clause-none
returns-clause-none c = none_spelled
