-- The plan of each action: it reads one row or table after the other, is refused or goes on, and gives its outcome.
use Rattle.std.specs.Prelude.{ℕ, ◌+◌, ◌-◌, ◌*◌, ◌==◌, not, nat_le, min, Bool, List, bytes_eq}
use Rattle.crash_base.specs.declared.rows.RowWrite.{RowWrite}
use Rattle.action_plans.specs.declared.plan.Outcome.{Outcome}
use Rattle.action_plans.specs.Plans.{Plan, Gives, ◌>>=◌}
use Rattle.auction_rows.specs.declared.rows.TheConstants.{CATEGORY_TABLE}
use Rattle.auction_rows.specs.Ids.{user_id, name_id, users_counter, items_counter, categories_counter, category_counter, item_id, category_id, entry_id, own_item_id}
use Rattle.auction_rows.specs.Reading.{user_of, name_of, item_of, category_of, entry_of, own_item_of}
use Rattle.auction_rules.specs.Rules.{bid_refusal, buy_refusal, close_refusal, feedback_refusal, other_side}
use Rattle.auction_site.specs.declared.limits.TheConstants.{LAST_NUMBER, LAST_BID, LAST_FEEDBACK, PAGE_ITEMS, CATEGORY_EDITOR}
use Rattle.auction_site.specs.Answers.{sign_in_first, no_more_numbers, name_taken, wrong_password, not_allowed, bad_buy_now, no_such_category}
use Rattle.auction_site.specs.Numbers.{count_up, count_down}
use Rattle.auction_site.specs.Outcomes.{registered, digest_of, signed_in, category_link, categories_shown, category_added, priced_link, category_shown, item_shown, user_shown, item_link, user_items_shown, Offer, offered, bid_made, bought, closed, feedback_given}
use Rattle.auction_site.specs.Pieces.{refuses_if, refuses_by, decoded, asks_row_or, asks_row, asks_no_row, asks_counter, asks_table, asks_each}
use Rattle.auction_site.specs.Rules.{sells_too_low}
use Rattle.page_text.specs.declared.page_line.PageLine.{PageLine}

-- Register: where no row has the name's id, and a number is left for a user.
unfoldable pub register_plan : List ℕ → List ℕ → ℕ → ℕ → Plan Outcome
register_plan name password fresh now = do
  free ← asks_no_row name_of (name_id name) name_taken
  users ← asks_counter users_counter
  numbered ← refuses_if (nat_le LAST_NUMBER users) no_more_numbers
  Gives (registered name password fresh now (users + 1))

-- Sign in: as the user who has the name and the password.
unfoldable pub sign_in_plan : List ℕ → List ℕ → ℕ → Plan Outcome
sign_in_plan name password now = do
  found ← asks_row_or name_of (name_id name) wrong_password
  named ← refuses_if (not (bytes_eq found.name name)) wrong_password
  user ← asks_row_or user_of (user_id found.user) wrong_password
  known ← refuses_if (not (bytes_eq (digest_of user.salt password) user.digest)) wrong_password
  Gives (signed_in name now found.user)

-- the link of a row of a category
unfoldable pub category_link_plan : RowWrite → Plan PageLine
category_link_plan row = do
  category ← decoded row.id (category_of row.bytes)
  Gives (category_link row.id.key category)

-- Categories: all, in the order of the rows.
unfoldable pub categories_plan : Plan Outcome
categories_plan = do
  rows ← asks_table CATEGORY_TABLE
  links ← asks_each category_link_plan rows
  Gives (categories_shown links)

-- Add category: by the user who may add categories.
unfoldable pub add_category_plan : ℕ → List ℕ → Plan Outcome
add_category_plan user name = do
  signed ← refuses_if (user == 0) sign_in_first
  allowed ← refuses_if (not (user == CATEGORY_EDITOR)) not_allowed
  categories ← asks_counter categories_counter
  numbered ← refuses_if (nat_le LAST_NUMBER categories) no_more_numbers
  Gives (category_added name (categories + 1))

-- the link of an entry of a category
unfoldable pub entry_link_plan : ℕ → ℕ → Plan PageLine
entry_link_plan category n = do
  entry ← asks_row entry_of (entry_id category n)
  item ← asks_row item_of (item_id entry.item)
  Gives (priced_link entry.item item)

-- Browse: the entries of a category that are on a page, 16 a page.
unfoldable pub browse_plan : ℕ → ℕ → Plan Outcome
browse_plan category page = do
  found ← asks_row category_of (category_id category)
  entries ← asks_counter (category_counter category)
  links ← asks_each (entry_link_plan category)
      (count_up (PAGE_ITEMS * page + 1) (min PAGE_ITEMS (entries - PAGE_ITEMS * page)))
  Gives (category_shown found links)

-- Item: with the name of its seller.
unfoldable pub show_item_plan : ℕ → Plan Outcome
show_item_plan number = do
  item ← asks_row item_of (item_id number)
  seller ← asks_row user_of (user_id item.seller)
  Gives (item_shown item seller)

-- User: with the feedback about the user.
unfoldable pub show_user_plan : ℕ → Plan Outcome
show_user_plan number = do
  user ← asks_row user_of (user_id number)
  Gives (user_shown user)

-- the link of an own item of a user
unfoldable pub own_item_link_plan : ℕ → ℕ → Plan PageLine
own_item_link_plan user n = do
  own ← asks_row own_item_of (own_item_id user n)
  item ← asks_row item_of (item_id own.item)
  Gives (item_link own.item item)

-- About: the last 16 items that the user offered, the newest first.
unfoldable pub show_own_items_plan : ℕ → Plan Outcome
show_own_items_plan number = do
  signed ← refuses_if (number == 0) sign_in_first
  user ← asks_row user_of (user_id number)
  links ← asks_each (own_item_link_plan number) (count_down user.items (min PAGE_ITEMS user.items))
  Gives (user_items_shown user links)

-- an item of this number offered, where numbers are left for its entry and the own item
unfoldable pub offer_plan : ℕ → ℕ → Offer → ℕ → Plan Outcome
offer_plan seller now offer item = do
  entries ← asks_counter (category_counter offer.category)
  entered ← refuses_if (nat_le LAST_NUMBER entries) no_more_numbers
  user ← asks_row user_of (user_id seller)
  owned ← refuses_if (nat_le LAST_NUMBER user.items) no_more_numbers
  Gives (offered seller now offer item (entries + 1) user)

-- Sell: in a category that is there, where numbers are left for the item, its entry and the own item.
unfoldable pub sell_plan : ℕ → ℕ → Offer → Plan Outcome
sell_plan seller now offer = do
  signed ← refuses_if (seller == 0) sign_in_first
  priced ← refuses_if (sells_too_low offer) bad_buy_now
  category ← asks_row_or category_of (category_id offer.category) no_such_category
  items ← asks_counter items_counter
  numbered ← refuses_if (nat_le LAST_NUMBER items) no_more_numbers
  offer_plan seller now offer (items + 1)

-- Bid: on an item that is running and another's, more than was bid before and not less than the start.
unfoldable pub bid_plan : ℕ → ℕ → ℕ → ℕ → Plan Outcome
bid_plan user now number amount = do
  signed ← refuses_if (user == 0) sign_in_first
  item ← asks_row item_of (item_id number)
  allowed ← refuses_by (bid_refusal item user amount now)
  numbered ← refuses_if (nat_le LAST_BID item.bids) no_more_numbers
  Gives (bid_made user now number amount item)

-- Buy: an item that is running, another's, and still sold at once.
unfoldable pub buy_plan : ℕ → ℕ → ℕ → Plan Outcome
buy_plan user now number = do
  signed ← refuses_if (user == 0) sign_in_first
  item ← asks_row item_of (item_id number)
  allowed ← refuses_by (buy_refusal item user now)
  Gives (bought user number item)

-- Close: an own item that was neither closed nor sold.
unfoldable pub close_plan : ℕ → ℕ → Plan Outcome
close_plan user number = do
  signed ← refuses_if (user == 0) sign_in_first
  item ← asks_row item_of (item_id number)
  allowed ← refuses_by (close_refusal item user)
  Gives (closed number item)

-- Feedback: by the buyer or the seller of an item that is sold, once each, about the other.
unfoldable pub give_feedback_plan : ℕ → ℕ → Bool → List ℕ → Plan Outcome
give_feedback_plan user number good text = do
  signed ← refuses_if (user == 0) sign_in_first
  item ← asks_row item_of (item_id number)
  allowed ← refuses_by (feedback_refusal item user)
  about ← asks_row user_of (user_id (other_side item user))
  numbered ← refuses_if (nat_le LAST_FEEDBACK (about.good + about.bad)) no_more_numbers
  Gives (feedback_given user number good text item about)
