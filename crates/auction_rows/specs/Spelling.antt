-- The bytes that spell rows: their fields in order, whose numbers are big-endian.
use Rattle.std.specs.Prelude.{ℕ, ◌+◌, ◌*◌, List, ◌++◌}
unfoldable pub use Rattle.byte_fields.specs.Spelling.{u8_bytes, u32_bytes, u64_bytes, text16}
pub use Rattle.byte_fields.specs.Spelling.{flag}
use Rattle.auction_rows.specs.declared.rows.AuctionRow.{AuctionRow}
use Rattle.auction_rows.specs.declared.rows.AuctionRow.TheVariants as row
use Rattle.auction_rows.specs.declared.rows.BidRow.{BidRow}
use Rattle.auction_rows.specs.declared.rows.CategoryRow.{CategoryRow}
use Rattle.auction_rows.specs.declared.rows.CounterRow.{CounterRow}
use Rattle.auction_rows.specs.declared.rows.EntryRow.{EntryRow}
use Rattle.auction_rows.specs.declared.rows.FeedbackRow.{FeedbackRow}
use Rattle.auction_rows.specs.declared.rows.GivenFeedback.{GivenFeedback}
use Rattle.auction_rows.specs.declared.rows.ItemRow.{ItemRow}
use Rattle.auction_rows.specs.declared.rows.ItemState.{ItemState}
use Rattle.auction_rows.specs.declared.rows.ItemState.TheVariants.{Running, Closed, Sold}
use Rattle.auction_rows.specs.declared.rows.NameRow.{NameRow}
use Rattle.auction_rows.specs.declared.rows.OwnItemRow.{OwnItemRow}
use Rattle.auction_rows.specs.declared.rows.TheConstants.{USER_TABLE, NAME_TABLE, COUNTER_TABLE, ITEM_TABLE, CATEGORY_TABLE, BID_TABLE, ENTRY_TABLE, FEEDBACK_TABLE, OWN_ITEM_TABLE}
use Rattle.auction_rows.specs.declared.rows.UserRow.{UserRow}

-- the number of an item's state
abbrev pub state_number : ItemState → ℕ
state_number Running = 0
state_number Closed = 1
state_number Sold = 2

-- the number of who has given feedback: 1 for the buyer, and 2 more for the seller
abbrev pub given_number : GivenFeedback → ℕ
given_number given = flag given.by_buyer + 2 * flag given.by_seller

-- the bytes of a user
unfoldable pub user_bytes : UserRow → List ℕ
user_bytes user =
    text16 user.name ++ user.salt ++ user.digest
    ++ u32_bytes user.good ++ u32_bytes user.bad ++ u32_bytes user.items

-- the bytes of a name
unfoldable pub name_bytes : NameRow → List ℕ
name_bytes name = text16 name.name ++ u64_bytes name.user

-- the bytes of a counter
unfoldable pub counter_bytes : CounterRow → List ℕ
counter_bytes counter = u64_bytes counter.count

-- the bytes of an item up to its category
unfoldable pub item_to_category : ItemRow → List ℕ
item_to_category item =
    u8_bytes (state_number item.state) ++ u64_bytes item.seller ++ u64_bytes item.category

-- the bytes of an item up to its bids
unfoldable pub item_to_bids : ItemRow → List ℕ
item_to_bids item =
    item_to_category item ++ u64_bytes item.start ++ u64_bytes item.buy_now ++ u64_bytes item.best
    ++ u64_bytes item.best_bidder ++ u32_bytes item.bids

-- the bytes of an item up to its title
unfoldable pub item_numbers : ItemRow → List ℕ
item_numbers item =
    item_to_bids item ++ u64_bytes item.ends.0 ++ u64_bytes item.buyer
    ++ u8_bytes (given_number item.given)

-- the bytes of an item
unfoldable pub item_bytes : ItemRow → List ℕ
item_bytes item = item_numbers item ++ text16 item.title

-- the bytes of a category
unfoldable pub category_bytes : CategoryRow → List ℕ
category_bytes category = text16 category.name

-- the bytes of a bid
unfoldable pub bid_bytes : BidRow → List ℕ
bid_bytes bid = u64_bytes bid.bidder ++ u64_bytes bid.amount ++ u64_bytes bid.moment.0

-- the bytes of an entry
unfoldable pub entry_bytes : EntryRow → List ℕ
entry_bytes entry = u64_bytes entry.item

-- the bytes of feedback
unfoldable pub feedback_bytes : FeedbackRow → List ℕ
feedback_bytes feedback =
    u64_bytes feedback.from ++ u64_bytes feedback.item
    ++ u8_bytes (flag feedback.good) ++ text16 feedback.text

-- the bytes of an own item
unfoldable pub own_item_bytes : OwnItemRow → List ℕ
own_item_bytes own = u64_bytes own.item

-- The bytes of a row.
abbrev pub row_bytes : AuctionRow → List ℕ
row_bytes (row.User user) = user_bytes user
row_bytes (row.Name name) = name_bytes name
row_bytes (row.Counter counter) = counter_bytes counter
row_bytes (row.Item item) = item_bytes item
row_bytes (row.Category category) = category_bytes category
row_bytes (row.Bid bid) = bid_bytes bid
row_bytes (row.Entry entry) = entry_bytes entry
row_bytes (row.Feedback feedback) = feedback_bytes feedback
row_bytes (row.OwnItem own) = own_item_bytes own

-- The table of a row.
abbrev pub table_of : AuctionRow → ℕ
table_of (row.User user) = USER_TABLE
table_of (row.Name name) = NAME_TABLE
table_of (row.Counter counter) = COUNTER_TABLE
table_of (row.Item item) = ITEM_TABLE
table_of (row.Category category) = CATEGORY_TABLE
table_of (row.Bid bid) = BID_TABLE
table_of (row.Entry entry) = ENTRY_TABLE
table_of (row.Feedback feedback) = FEEDBACK_TABLE
table_of (row.OwnItem own) = OWN_ITEM_TABLE
