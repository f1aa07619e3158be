use Rattle.auction_site.proofs.Repeating.{buy_does_not, others_repeat}
use Rattle.auction_site.proofs.shop_laws.only_buying_is_not_repeated.Goals as goal

pub returns-clause-buy : goal.returns-clause-buy
returns-clause-buy c = buy_does_not

pub returns-clause-others : goal.returns-clause-others
returns-clause-others c = others_repeat
