use Rattle.auction_calls.proofs.FirstBad.{none_is_call, bad_is_first}
use Rattle.auction_calls.proofs.laws.bad_fields_are_first.Goals as goal

pub returns-clause-none : goal.returns-clause-none
returns-clause-none c = none_is_call

pub returns-clause-some : goal.returns-clause-some
returns-clause-some c = bad_is_first
