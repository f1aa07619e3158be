use Rattle.auction_calls.proofs.Names.{user_name_utf8}
use Rattle.auction_calls.proofs.laws.user_names_are_utf8.Goals as goal

pub returns : goal.returns
returns c = user_name_utf8
