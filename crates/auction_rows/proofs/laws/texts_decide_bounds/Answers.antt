use Rattle.auction_rows.proofs.Sizes.{user_bounds, name_bounds, counter_few, item_bounds, category_bounds, bid_few, entry_few, feedback_bounds, own_item_few}
use Rattle.auction_rows.proofs.laws.texts_decide_bounds.Goals as goal

pub returns-clause-user : goal.returns-clause-user
returns-clause-user c = user_bounds

pub returns-clause-name : goal.returns-clause-name
returns-clause-name c = name_bounds

pub returns-clause-counter : goal.returns-clause-counter
returns-clause-counter c = counter_few

pub returns-clause-item : goal.returns-clause-item
returns-clause-item c = item_bounds

pub returns-clause-category : goal.returns-clause-category
returns-clause-category c = category_bounds

pub returns-clause-bid : goal.returns-clause-bid
returns-clause-bid c = bid_few

pub returns-clause-entry : goal.returns-clause-entry
returns-clause-entry c = entry_few

pub returns-clause-feedback : goal.returns-clause-feedback
returns-clause-feedback c = feedback_bounds

pub returns-clause-own_item : goal.returns-clause-own_item
returns-clause-own_item c = own_item_few
