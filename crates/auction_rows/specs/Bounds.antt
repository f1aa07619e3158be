-- Which rows there may be.
use Rattle.std.specs.Prelude.{◌≡◌, ℕ, ◌^◌, ◌<◌, ◌&&◌, nat_le, Bool, true, List, length}
use Rattle.std.specs.Str.{is_utf8}
use Rattle.crash_base.specs.declared.rows.TheConstants.{MAX_ROW_BYTES}
pub use Rattle.byte_fields.specs.Spelling.{AreBytes}
use Rattle.auction_rows.specs.declared.rows.AuctionRow.{AuctionRow}
use Rattle.auction_rows.specs.declared.rows.AuctionRow.TheVariants as row
use Rattle.auction_rows.specs.declared.rows.BidRow.{BidRow}
use Rattle.auction_rows.specs.declared.rows.CategoryRow.{CategoryRow}
use Rattle.auction_rows.specs.declared.rows.CounterRow.{CounterRow}
use Rattle.auction_rows.specs.declared.rows.EntryRow.{EntryRow}
use Rattle.auction_rows.specs.declared.rows.FeedbackRow.{FeedbackRow}
use Rattle.auction_rows.specs.declared.rows.ItemRow.{ItemRow}
use Rattle.auction_rows.specs.declared.rows.NameRow.{NameRow}
use Rattle.auction_rows.specs.declared.rows.OwnItemRow.{OwnItemRow}
use Rattle.auction_rows.specs.declared.rows.UserRow.{UserRow}
use Rattle.auction_rows.specs.Spelling.{user_bytes, name_bytes, counter_bytes, item_bytes, category_bytes, bid_bytes, entry_bytes, feedback_bytes, own_item_bytes, row_bytes, table_of}

-- bytes are at most 4,096
abbrev pub fits_a_row : List ℕ → Bool
fits_a_row bytes = nat_le (length bytes) MAX_ROW_BYTES

-- whether a user's name is UTF-8, and its bytes are few
abbrev pub is_user : UserRow → Bool
is_user user = is_utf8 user.name && fits_a_row (user_bytes user)

-- whether a name is UTF-8, and its bytes are few
abbrev pub is_name : NameRow → Bool
is_name name = is_utf8 name.name && fits_a_row (name_bytes name)

-- whether a counter's bytes are few
abbrev pub is_counter : CounterRow → Bool
is_counter counter = fits_a_row (counter_bytes counter)

-- whether an item's title is UTF-8, and its bytes are few
abbrev pub is_item : ItemRow → Bool
is_item item = is_utf8 item.title && fits_a_row (item_bytes item)

-- whether a category's name is UTF-8, and its bytes are few
abbrev pub is_category : CategoryRow → Bool
is_category category = is_utf8 category.name && fits_a_row (category_bytes category)

-- whether a bid's bytes are few
abbrev pub is_bid : BidRow → Bool
is_bid bid = fits_a_row (bid_bytes bid)

-- whether an entry's bytes are few
abbrev pub is_entry : EntryRow → Bool
is_entry entry = fits_a_row (entry_bytes entry)

-- whether the text of feedback is UTF-8, and its bytes are few
abbrev pub is_feedback : FeedbackRow → Bool
is_feedback feedback = is_utf8 feedback.text && fits_a_row (feedback_bytes feedback)

-- whether an own item's bytes are few
abbrev pub is_own_item : OwnItemRow → Bool
is_own_item own = fits_a_row (own_item_bytes own)

-- Whether a row's text is UTF-8, and its bytes are at most 4,096.
abbrev pub is_row : AuctionRow → Bool
is_row (row.User user) = is_user user
is_row (row.Name name) = is_name name
is_row (row.Counter counter) = is_counter counter
is_row (row.Item item) = is_item item
is_row (row.Category category) = is_category category
is_row (row.Bid bid) = is_bid bid
is_row (row.Entry entry) = is_entry entry
is_row (row.Feedback feedback) = is_feedback feedback
is_row (row.OwnItem own) = is_own_item own

-- a user within its bounds, with a salt of 8 bytes, a digest of 32, and counts below 2^32
pub record IsUser (user : UserRow) : Type 0 where
  pub within : is_user user ≡ true
  pub salt : length user.salt ≡ 8
  pub digest : length user.digest ≡ 32
  pub good : user.good < 2 ^ 32
  pub bad : user.bad < 2 ^ 32
  pub items : user.items < 2 ^ 32

-- a name within its bounds, whose numbers are in their ranges
pub record IsName (name : NameRow) : Type 0 where
  pub within : is_name name ≡ true
  pub user : name.user < 2 ^ 32

-- a counter within its bounds, whose numbers are in their ranges
pub record IsCounter (counter : CounterRow) : Type 0 where
  pub count : counter.count < 2 ^ 64

-- an item within its bounds, whose numbers are in their ranges
pub record IsItem (item : ItemRow) : Type 0 where
  pub within : is_item item ≡ true
  pub seller : item.seller < 2 ^ 32
  pub category : item.category < 2 ^ 32
  pub start : item.start < 2 ^ 64
  pub buy_now : item.buy_now < 2 ^ 64
  pub best : item.best < 2 ^ 64
  pub best_bidder : item.best_bidder < 2 ^ 32
  pub bids : item.bids < 2 ^ 32
  pub ends : item.ends.0 < 2 ^ 64
  pub buyer : item.buyer < 2 ^ 32

-- a category within its bounds
pub record IsCategory (category : CategoryRow) : Type 0 where
  pub within : is_category category ≡ true

-- a bid within its bounds, whose numbers are in their ranges
pub record IsBid (bid : BidRow) : Type 0 where
  pub bidder : bid.bidder < 2 ^ 32
  pub amount : bid.amount < 2 ^ 64
  pub moment : bid.moment.0 < 2 ^ 64

-- an entry within its bounds, whose numbers are in their ranges
pub record IsEntry (entry : EntryRow) : Type 0 where
  pub item : entry.item < 2 ^ 32

-- feedback within its bounds, whose numbers are in their ranges
pub record IsFeedback (feedback : FeedbackRow) : Type 0 where
  pub within : is_feedback feedback ≡ true
  pub from : feedback.from < 2 ^ 32
  pub item : feedback.item < 2 ^ 32

-- an own item within its bounds, whose numbers are in their ranges
pub record IsOwnItem (own : OwnItemRow) : Type 0 where
  pub item : own.item < 2 ^ 32

-- A row within its bounds, whose numbers are in the ranges of its fields.
abbrev pub IsRow : AuctionRow → Type 0
IsRow (row.User user) = IsUser user
IsRow (row.Name name) = IsName name
IsRow (row.Counter counter) = IsCounter counter
IsRow (row.Item item) = IsItem item
IsRow (row.Category category) = IsCategory category
IsRow (row.Bid bid) = IsBid bid
IsRow (row.Entry entry) = IsEntry entry
IsRow (row.Feedback feedback) = IsFeedback feedback
IsRow (row.OwnItem own) = IsOwnItem own

-- Bytes spell a row of a table: the row is within its bounds, and the bytes are its bytes.
pub record Spells (table : ℕ) (bytes : List ℕ) (row : AuctionRow) : Type 0 where
  pub table_is : table ≡ table_of row
  pub in_range : IsRow row
  pub bytes_are : bytes ≡ row_bytes row

-- bytes spell no row of a table
abbrev pub SpellsNoRow : ℕ → List ℕ → Type 0
SpellsNoRow table bytes = (row : AuctionRow) → ¬ Spells table bytes row
