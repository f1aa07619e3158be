use Rattle.std.proofs.Common.{refl}
use Rattle.auction_calls.specs.declared.action.Action.TheVariants.{Bid, Buy, Close, Feedback}
use Rattle.auction_site.proofs.Repeating.{goes_through}
use Rattle.auction_site.proofs.shop_laws.actions_go_through_their_components.Goals as goal

pub returns-clause-bid : goal.returns-clause-bid
returns-clause-bid c = λ call item amount. goes_through call (Bid item amount) 5 0 refl

pub returns-clause-buy : goal.returns-clause-buy
returns-clause-buy c = λ call item. goes_through call (Buy item) 6 1 refl

pub returns-clause-close : goal.returns-clause-close
returns-clause-close c = λ call item. goes_through call (Close item) 6 0 refl

pub returns-clause-feedback : goal.returns-clause-feedback
returns-clause-feedback c = λ call item good text. goes_through call (Feedback item good text) 7 0 refl
