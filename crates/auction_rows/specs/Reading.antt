-- The rows that bytes spell, read from the first byte to the last.
use Rattle.std.specs.Prelude.{ℕ, ◌==◌, nat_lt, if◌then◌else◌, true, false, List, length, Option, Some, None}
use Rattle.std.specs.Int.{w32, w64}
use Rattle.std.specs.Option.{option_map}
use Rattle.crash_base.specs.declared.rows.TheConstants.{MAX_ROW_BYTES}
unfoldable pub use Rattle.byte_fields.specs.Reading.{bytes_at, number_at, u8_at, id_at, text_at}
pub use Rattle.byte_fields.specs.Reading.{◌>>=◌, Field, flag_of, byte_as}
use Rattle.auction_rows.specs.declared.item_parts.ItemAmounts.{ItemAmounts}
use Rattle.auction_rows.specs.declared.item_parts.ItemEnd.{ItemEnd}
use Rattle.auction_rows.specs.declared.item_parts.ItemHead.{ItemHead}
use Rattle.auction_rows.specs.declared.rows.AuctionRow.{AuctionRow}
use Rattle.auction_rows.specs.declared.rows.AuctionRow.TheVariants as row
use Rattle.auction_rows.specs.declared.rows.BidRow.{BidRow}
use Rattle.auction_rows.specs.declared.rows.CategoryRow.{CategoryRow}
use Rattle.auction_rows.specs.declared.rows.CounterRow.{CounterRow}
use Rattle.auction_rows.specs.declared.rows.EntryRow.{EntryRow}
use Rattle.auction_rows.specs.declared.rows.FeedbackRow.{FeedbackRow}
use Rattle.auction_rows.specs.declared.rows.GivenFeedback.{GivenFeedback}
use Rattle.auction_rows.specs.declared.rows.ItemRow.{ItemRow}
use Rattle.auction_rows.specs.declared.rows.ItemState.{ItemState}
use Rattle.auction_rows.specs.declared.rows.ItemState.TheVariants.{Running, Closed, Sold}
use Rattle.auction_rows.specs.declared.rows.NameRow.{NameRow}
use Rattle.auction_rows.specs.declared.rows.OwnItemRow.{OwnItemRow}
use Rattle.auction_rows.specs.declared.rows.TheConstants.{USER_TABLE, NAME_TABLE, COUNTER_TABLE, ITEM_TABLE, CATEGORY_TABLE, BID_TABLE, ENTRY_TABLE, FEEDBACK_TABLE, OWN_ITEM_TABLE}
use Rattle.auction_rows.specs.declared.rows.UserRow.{UserRow}
use Rattle.auction_rows.specs.declared.users.UserTail.{UserTail}

-- the state of this number
abbrev pub state_of : ℕ → Option ItemState
state_of n =
    if n == 0 then Some Running else (
    if n == 1 then Some Closed else (
    if n == 2 then Some Sold else None))

-- who has given feedback, by number
abbrev pub given_of : ℕ → Option GivenFeedback
given_of n =
    if n == 0 then Some (record { by_buyer = false; by_seller = false }) else (
    if n == 1 then Some (record { by_buyer = true; by_seller = false }) else (
    if n == 2 then Some (record { by_buyer = false; by_seller = true }) else (
    if n == 3 then Some (record { by_buyer = true; by_seller = true }) else None)))

-- what a user has behind its name
unfoldable pub user_tail_at : Field UserTail
user_tail_at bytes = do
  salt ← bytes_at 8 bytes
  digest ← bytes_at 32 salt.1
  good ← number_at w32 digest.1
  bad ← number_at w32 good.1
  items ← number_at w32 bad.1
  Some (record { salt = salt.0; digest = digest.0; good = good.0; bad = bad.0; items = items.0 }, items.1)

-- a user at the front of bytes
unfoldable pub user_at : Field UserRow
user_at bytes = do
  name ← text_at bytes
  tail ← user_tail_at name.1
  Some (record { name = name.0; salt = tail.0.salt; digest = tail.0.digest; good = tail.0.good; bad = tail.0.bad; items = tail.0.items }, tail.1)

-- a name at the front of bytes
unfoldable pub name_at : Field NameRow
name_at bytes = do
  name ← text_at bytes
  user ← id_at name.1
  Some (record { name = name.0; user = user.0 }, user.1)

-- a counter at the front of bytes
unfoldable pub counter_at : Field CounterRow
counter_at bytes = do
  count ← number_at w64 bytes
  Some (record { count = count.0 }, count.1)

-- what an item has up to its category
unfoldable pub item_head_at : Field ItemHead
item_head_at bytes = do
  state ← byte_as state_of bytes
  seller ← id_at state.1
  category ← id_at seller.1
  Some (record { state = state.0; seller = seller.0; category = category.0 }, category.1)

-- the prices of an item, and its bids
unfoldable pub item_amounts_at : Field ItemAmounts
item_amounts_at bytes = do
  start ← number_at w64 bytes
  buy_now ← number_at w64 start.1
  best ← number_at w64 buy_now.1
  best_bidder ← id_at best.1
  bids ← number_at w32 best_bidder.1
  Some (record { start = start.0; buy_now = buy_now.0; best = best.0; best_bidder = best_bidder.0; bids = bids.0 }, bids.1)

-- when an item ends, its buyer, and the feedback given
unfoldable pub item_end_at : Field ItemEnd
item_end_at bytes = do
  ends ← number_at w64 bytes
  buyer ← id_at ends.1
  given ← byte_as given_of buyer.1
  Some (record { ends = record { 0 = ends.0 }; buyer = buyer.0; given = given.0 }, given.1)

-- an item at the front of bytes
unfoldable pub item_at : Field ItemRow
item_at bytes = do
  head ← item_head_at bytes
  amounts ← item_amounts_at head.1
  end ← item_end_at amounts.1
  title ← text_at end.1
  Some (record { state = head.0.state; seller = head.0.seller; category = head.0.category; start = amounts.0.start; buy_now = amounts.0.buy_now; best = amounts.0.best; best_bidder = amounts.0.best_bidder; bids = amounts.0.bids; ends = end.0.ends; buyer = end.0.buyer; given = end.0.given; title = title.0 }, title.1)

-- a category at the front of bytes
unfoldable pub category_at : Field CategoryRow
category_at bytes = do
  name ← text_at bytes
  Some (record { name = name.0 }, name.1)

-- a bid at the front of bytes
unfoldable pub bid_at : Field BidRow
bid_at bytes = do
  bidder ← id_at bytes
  amount ← number_at w64 bidder.1
  moment ← number_at w64 amount.1
  Some (record { bidder = bidder.0; amount = amount.0; moment = record { 0 = moment.0 } }, moment.1)

-- an entry at the front of bytes
unfoldable pub entry_at : Field EntryRow
entry_at bytes = do
  item ← id_at bytes
  Some (record { item = item.0 }, item.1)

-- feedback at the front of bytes
unfoldable pub feedback_at : Field FeedbackRow
feedback_at bytes = do
  from ← id_at bytes
  item ← id_at from.1
  good ← byte_as flag_of item.1
  text ← text_at good.1
  Some (record { from = from.0; item = item.0; good = good.0; text = text.0 }, text.1)

-- an own item at the front of bytes
unfoldable pub own_item_at : Field OwnItemRow
own_item_at bytes = do
  item ← id_at bytes
  Some (record { item = item.0 }, item.1)

-- what all of the bytes spell, which are at most 4,096
abbrev pub whole : {A : Type 0} → Field A → List ℕ → Option A
whole field bytes = do
  found ← if nat_lt MAX_ROW_BYTES (length bytes) then None else field bytes
  if length found.1 == 0 then Some found.0 else None

-- the user that bytes spell
unfoldable pub user_of : List ℕ → Option UserRow
user_of bytes = whole user_at bytes

-- the name that bytes spell
unfoldable pub name_of : List ℕ → Option NameRow
name_of bytes = whole name_at bytes

-- the counter that bytes spell
unfoldable pub counter_of : List ℕ → Option CounterRow
counter_of bytes = whole counter_at bytes

-- the item that bytes spell
unfoldable pub item_of : List ℕ → Option ItemRow
item_of bytes = whole item_at bytes

-- the category that bytes spell
unfoldable pub category_of : List ℕ → Option CategoryRow
category_of bytes = whole category_at bytes

-- the bid that bytes spell
unfoldable pub bid_of : List ℕ → Option BidRow
bid_of bytes = whole bid_at bytes

-- the entry that bytes spell
unfoldable pub entry_of : List ℕ → Option EntryRow
entry_of bytes = whole entry_at bytes

-- the feedback that bytes spell
unfoldable pub feedback_of : List ℕ → Option FeedbackRow
feedback_of bytes = whole feedback_at bytes

-- the own item that bytes spell
unfoldable pub own_item_of : List ℕ → Option OwnItemRow
own_item_of bytes = whole own_item_at bytes

-- The row of a table that bytes spell.
unfoldable pub row_of : ℕ → List ℕ → Option AuctionRow
row_of table bytes =
    if table == USER_TABLE then option_map row.User (user_of bytes) else (
    if table == NAME_TABLE then option_map row.Name (name_of bytes) else (
    if table == COUNTER_TABLE then option_map row.Counter (counter_of bytes) else (
    if table == ITEM_TABLE then option_map row.Item (item_of bytes) else (
    if table == CATEGORY_TABLE then option_map row.Category (category_of bytes) else (
    if table == BID_TABLE then option_map row.Bid (bid_of bytes) else (
    if table == ENTRY_TABLE then option_map row.Entry (entry_of bytes) else (
    if table == FEEDBACK_TABLE then option_map row.Feedback (feedback_of bytes) else (
    if table == OWN_ITEM_TABLE then option_map row.OwnItem (own_item_of bytes) else None))))))))
