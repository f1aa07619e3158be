-- What each action does, by all rows of the site: the first refusal that holds, or else its outcome.
use Rattle.std.specs.Prelude.{ℕ, ◌+◌, ◌-◌, ◌*◌, ◌==◌, ◌&&◌, not, nat_le, nat_lt, min, Bool, List, map, bytes_eq, Ok}
use Rattle.crash_base.specs.declared.rows.RowWrite.{RowWrite}
use Rattle.journal_model.specs.Snapshots.{table_rows}
use Rattle.action_plans.specs.declared.plan.Outcome.{Outcome}
use Rattle.auction_rows.specs.declared.rows.TheConstants.{CATEGORY_TABLE}
use Rattle.auction_rows.specs.Ids.{user_id, name_id, users_counter, items_counter, categories_counter, category_counter, item_id, category_id, entry_id, own_item_id}
use Rattle.auction_rows.specs.Reading.{user_of, name_of, item_of, category_of, entry_of, own_item_of}
use Rattle.auction_rules.specs.Rules.{bid_refusal, buy_refusal, close_refusal, feedback_refusal, other_side}
use Rattle.auction_site.specs.declared.limits.TheConstants.{LAST_NUMBER, LAST_BID, LAST_FEEDBACK, PAGE_ITEMS, CATEGORY_EDITOR}
use Rattle.auction_site.specs.Answers.{sign_in_first, no_more_numbers, name_taken, wrong_password, not_allowed, bad_buy_now, no_such_category}
use Rattle.auction_site.specs.Found.{Found, ◌>>=◌, refused_if, refused_by, spelled, row_or, the_row, no_row, the_counter, collected}
use Rattle.auction_site.specs.Numbers.{count_up, count_down}
use Rattle.auction_site.specs.Outcomes.{registered, digest_of, signed_in, category_link, categories_shown, category_added, priced_link, category_shown, item_shown, user_shown, item_link, user_items_shown, Offer, offered, bid_made, bought, closed, feedback_given}
use Rattle.page_text.specs.declared.page_line.PageLine.{PageLine}

-- Register: where no row has the name's id, and a number is left for a user.
unfoldable pub register : List ℕ → List ℕ → ℕ → ℕ → List RowWrite → Found Outcome
register name password fresh now rows = do
  free ← no_row rows name_of (name_id name) name_taken
  users ← the_counter rows users_counter
  numbered ← refused_if (nat_le LAST_NUMBER users) no_more_numbers
  Ok (registered name password fresh now (users + 1))

-- Sign in: as the user who has the name and the password.
unfoldable pub sign_in : List ℕ → List ℕ → ℕ → List RowWrite → Found Outcome
sign_in name password now rows = do
  found ← row_or rows name_of (name_id name) wrong_password
  named ← refused_if (not (bytes_eq found.name name)) wrong_password
  user ← row_or rows user_of (user_id found.user) wrong_password
  known ← refused_if (not (bytes_eq (digest_of user.salt password) user.digest)) wrong_password
  Ok (signed_in name now found.user)

-- the link of a row of a category
abbrev pub category_line : RowWrite → Found PageLine
category_line row = do
  category ← spelled row.id (category_of row.bytes)
  Ok (category_link row.id.key category)

-- Categories: all, in the order of the rows.
unfoldable pub categories : List RowWrite → Found Outcome
categories rows = do
  links ← collected (map category_line (table_rows CATEGORY_TABLE rows))
  Ok (categories_shown links)

-- Add category: by the user who may add categories.
unfoldable pub add_category : ℕ → List ℕ → List RowWrite → Found Outcome
add_category user name rows = do
  signed ← refused_if (user == 0) sign_in_first
  allowed ← refused_if (not (user == CATEGORY_EDITOR)) not_allowed
  categories ← the_counter rows categories_counter
  numbered ← refused_if (nat_le LAST_NUMBER categories) no_more_numbers
  Ok (category_added name (categories + 1))

-- the link of an entry of a category
abbrev pub entry_line : List RowWrite → ℕ → ℕ → Found PageLine
entry_line rows category n = do
  entry ← the_row rows entry_of (entry_id category n)
  item ← the_row rows item_of (item_id entry.item)
  Ok (priced_link entry.item item)

-- Browse: the entries of a category that are on a page, 16 a page.
unfoldable pub browse : ℕ → ℕ → List RowWrite → Found Outcome
browse category page rows = do
  found ← the_row rows category_of (category_id category)
  entries ← the_counter rows (category_counter category)
  links ← collected (map (entry_line rows category)
      (count_up (PAGE_ITEMS * page + 1) (min PAGE_ITEMS (entries - PAGE_ITEMS * page))))
  Ok (category_shown found links)

-- Item: with the name of its seller.
unfoldable pub show_item : ℕ → List RowWrite → Found Outcome
show_item number rows = do
  item ← the_row rows item_of (item_id number)
  seller ← the_row rows user_of (user_id item.seller)
  Ok (item_shown item seller)

-- User: with the feedback about the user.
unfoldable pub show_user : ℕ → List RowWrite → Found Outcome
show_user number rows = do
  user ← the_row rows user_of (user_id number)
  Ok (user_shown user)

-- the link of an own item of a user
abbrev pub own_item_line : List RowWrite → ℕ → ℕ → Found PageLine
own_item_line rows user n = do
  own ← the_row rows own_item_of (own_item_id user n)
  item ← the_row rows item_of (item_id own.item)
  Ok (item_link own.item item)

-- About: the last 16 items that the user offered, the newest first.
unfoldable pub show_own_items : ℕ → List RowWrite → Found Outcome
show_own_items number rows = do
  signed ← refused_if (number == 0) sign_in_first
  user ← the_row rows user_of (user_id number)
  links ← collected (map (own_item_line rows number) (count_down user.items (min PAGE_ITEMS user.items)))
  Ok (user_items_shown user links)

-- whether an offer is sold at once for less than its least bid
abbrev pub sells_too_low : Offer → Bool
sells_too_low offer = not (offer.buy_now == 0) && nat_lt offer.buy_now offer.start

-- Sell: in a category that is there, where numbers are left for the item, its entry and the own item.
unfoldable pub sell : ℕ → ℕ → Offer → List RowWrite → Found Outcome
sell seller now offer rows = do
  signed ← refused_if (seller == 0) sign_in_first
  priced ← refused_if (sells_too_low offer) bad_buy_now
  category ← row_or rows category_of (category_id offer.category) no_such_category
  items ← the_counter rows items_counter
  numbered ← refused_if (nat_le LAST_NUMBER items) no_more_numbers
  entries ← the_counter rows (category_counter offer.category)
  entered ← refused_if (nat_le LAST_NUMBER entries) no_more_numbers
  user ← the_row rows user_of (user_id seller)
  owned ← refused_if (nat_le LAST_NUMBER user.items) no_more_numbers
  Ok (offered seller now offer (items + 1) (entries + 1) user)

-- Bid: on an item that is running and another's, more than was bid before and not less than the start.
unfoldable pub bid : ℕ → ℕ → ℕ → ℕ → List RowWrite → Found Outcome
bid user now number amount rows = do
  signed ← refused_if (user == 0) sign_in_first
  item ← the_row rows item_of (item_id number)
  allowed ← refused_by (bid_refusal item user amount now)
  numbered ← refused_if (nat_le LAST_BID item.bids) no_more_numbers
  Ok (bid_made user now number amount item)

-- Buy: an item that is running, another's, and still sold at once.
unfoldable pub buy : ℕ → ℕ → ℕ → List RowWrite → Found Outcome
buy user now number rows = do
  signed ← refused_if (user == 0) sign_in_first
  item ← the_row rows item_of (item_id number)
  allowed ← refused_by (buy_refusal item user now)
  Ok (bought user number item)

-- Close: an own item that was neither closed nor sold.
unfoldable pub close : ℕ → ℕ → List RowWrite → Found Outcome
close user number rows = do
  signed ← refused_if (user == 0) sign_in_first
  item ← the_row rows item_of (item_id number)
  allowed ← refused_by (close_refusal item user)
  Ok (closed number item)

-- Feedback: by the buyer or the seller of an item that is sold, once each, about the other.
unfoldable pub give_feedback : ℕ → ℕ → Bool → List ℕ → List RowWrite → Found Outcome
give_feedback user number good text rows = do
  signed ← refused_if (user == 0) sign_in_first
  item ← the_row rows item_of (item_id number)
  allowed ← refused_by (feedback_refusal item user)
  about ← the_row rows user_of (user_id (other_side item user))
  numbered ← refused_if (nat_le LAST_FEEDBACK (about.good + about.bad)) no_more_numbers
  Ok (feedback_given user number good text item about)
