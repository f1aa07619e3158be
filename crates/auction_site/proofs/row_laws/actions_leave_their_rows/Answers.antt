use Rattle.auction_site.proofs.LeftRows.{category_left, categories_left, offer_left, good_more, bad_more, bid_left, bought_left, closed_left, feedback_left}
use Rattle.auction_site.proofs.row_laws.actions_leave_their_rows.Goals as goal

pub returns-clause-category : goal.returns-clause-category
returns-clause-category c = category_left

pub returns-clause-sell : goal.returns-clause-sell
returns-clause-sell c = offer_left

pub returns-clause-bid : goal.returns-clause-bid
returns-clause-bid c = bid_left

pub returns-clause-buy : goal.returns-clause-buy
returns-clause-buy c = bought_left

pub returns-clause-close : goal.returns-clause-close
returns-clause-close c = closed_left

pub returns-clause-feedback : goal.returns-clause-feedback
returns-clause-feedback c = feedback_left

pub returns-clause-categories : goal.returns-clause-categories
returns-clause-categories c = categories_left

pub returns-clause-good : goal.returns-clause-good
returns-clause-good c = good_more

pub returns-clause-bad : goal.returns-clause-bad
returns-clause-bad c = bad_more
