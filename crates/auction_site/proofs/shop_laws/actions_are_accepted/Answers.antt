use Rattle.auction_site.specs.Actions.{offer_of}
use Rattle.auction_site.proofs.Exactly.{register_accepted, sign_in_accepted, add_category_accepted, sell_accepted, bid_accepted, buy_accepted, close_accepted, feedback_accepted}
use Rattle.auction_site.proofs.shop_laws.actions_are_accepted.Goals as goal

pub returns-clause-register : goal.returns-clause-register
returns-clause-register c = λ call name password. register_accepted name password call.fresh call.now.0

pub returns-clause-sign_in : goal.returns-clause-sign_in
returns-clause-sign_in c = λ call name password. sign_in_accepted name password call.now.0

pub returns-clause-add_category : goal.returns-clause-add_category
returns-clause-add_category c = λ call. add_category_accepted call.user

pub returns-clause-sell : goal.returns-clause-sell
returns-clause-sell c = λ call title category start buy_now hours.
    sell_accepted call.user call.now.0 (offer_of title category start buy_now hours)

pub returns-clause-bid : goal.returns-clause-bid
returns-clause-bid c = λ call. bid_accepted c.bid_refusals_are_exact.ensures.none call.user call.now.0

pub returns-clause-buy : goal.returns-clause-buy
returns-clause-buy c = λ call. buy_accepted c.buy_refusals_are_exact.ensures.none call.user call.now.0

pub returns-clause-close : goal.returns-clause-close
returns-clause-close c = λ call. close_accepted c.close_refusals_are_exact.ensures.none call.user

pub returns-clause-feedback : goal.returns-clause-feedback
returns-clause-feedback c = λ call. feedback_accepted c.feedback_refusals_are_exact.ensures.none call.user
