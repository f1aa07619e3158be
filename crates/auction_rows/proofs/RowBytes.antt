-- The bytes of a row within its bounds are numbers that bytes may be.
use Rattle.std.proofs.Common.{◌≡◌, ℕ, ◌+◌, ◌*◌, ◌<◌, ◌^◌, Bool, true, false, List, ◌++◌, Some, subst, arith}
use Rattle.std.specs.Str.{is_utf8}
use Rattle.byte_fields.proofs.FieldBytes.{append_are, parts_are, u8_are, flag_are, u32_are, u64_are, text16_are}
use Rattle.auction_rows.specs.declared.rows.BidRow.{BidRow}
use Rattle.auction_rows.specs.declared.rows.CategoryRow.{CategoryRow}
use Rattle.auction_rows.specs.declared.rows.CounterRow.{CounterRow}
use Rattle.auction_rows.specs.declared.rows.EntryRow.{EntryRow}
use Rattle.auction_rows.specs.declared.rows.FeedbackRow.{FeedbackRow}
use Rattle.auction_rows.specs.declared.rows.GivenFeedback.{GivenFeedback}
use Rattle.auction_rows.specs.declared.rows.ItemRow.{ItemRow}
use Rattle.auction_rows.specs.declared.rows.ItemState.{ItemState}
use Rattle.auction_rows.specs.declared.rows.ItemState.TheVariants.{Running, Closed, Sold}
use Rattle.auction_rows.specs.declared.rows.NameRow.{NameRow}
use Rattle.auction_rows.specs.declared.rows.OwnItemRow.{OwnItemRow}
use Rattle.auction_rows.specs.declared.rows.UserRow.{UserRow}
use Rattle.auction_rows.specs.Bounds.{AreBytes, fits_a_row, is_name, is_item, is_category, is_feedback, IsUser}
use Rattle.auction_rows.specs.Reading.{user_of}
use Rattle.auction_rows.specs.Spelling.{flag, state_number, given_number, u8_bytes, u32_bytes, text16, user_bytes, name_bytes, counter_bytes, item_to_category, item_to_bids, item_numbers, item_bytes, category_bytes, bid_bytes, entry_bytes, feedback_bytes, own_item_bytes}
use Rattle.auction_rows.proofs.Exact.{split}
use Rattle.auction_rows.proofs.ExactRows.{user_exact}

-- a user within its bounds, whose salt and digest are bytes
pub record IsUserOfBytes (user : UserRow) : Type 0 where
  pub within : IsUser user
  pub salt : AreBytes user.salt
  pub digest : AreBytes user.digest

pub user_are : (user : UserRow) → IsUserOfBytes user → AreBytes (user_bytes user)
unfolding user_bytes
user_are user is =
    let name = text16_are user.name (split (is_utf8 user.name) (fits_a_row (user_bytes user)) is.within.within).0 in
    append_are _ _ (append_are _ _ (append_are _ _ (append_are _ _ (append_are _ _ name is.salt) is.digest) (u32_are user.good)) (u32_are user.bad)) (u32_are user.items)

-- the second and the third of six parts of bytes
second_and_third : (a b c d e f : List ℕ) → AreBytes (a ++ b ++ c ++ d ++ e ++ f) → AreBytes b × AreBytes c
second_and_third a b c d e f are =
    let five = (parts_are (a ++ b ++ c ++ d ++ e) f are).0 in
    let four = (parts_are (a ++ b ++ c ++ d) e five).0 in
    let three = (parts_are (a ++ b ++ c) d four).0 in
    let two = parts_are (a ++ b) c three in
    ((parts_are a b two.0).1, two.1)

-- a user that is read from bytes
pub user_read : (bytes : List ℕ) (user : UserRow) → AreBytes bytes → user_of bytes ≡ Some user → IsUserOfBytes user
unfolding user_bytes
user_read bytes user are is =
    let read = user_exact.takes bytes user are is in
    let parts = second_and_third (text16 user.name) user.salt user.digest (u32_bytes user.good) (u32_bytes user.bad) (u32_bytes user.items) (subst AreBytes read.1 are) in
    record { within = read.0; salt = parts.0; digest = parts.1 }

-- rows of the other tables
pub name_are : (name : NameRow) → is_name name ≡ true → AreBytes (name_bytes name)
unfolding name_bytes
name_are name is =
    append_are _ _ (text16_are name.name (split (is_utf8 name.name) (fits_a_row (name_bytes name)) is).0) (u64_are name.user)

pub counter_are : (counter : CounterRow) → AreBytes (counter_bytes counter)
unfolding counter_bytes
counter_are counter = u64_are counter.count

state_are : (state : ItemState) → AreBytes (u8_bytes (state_number state))
state_are Running = u8_are 0 (omega arith)
state_are Closed = u8_are 1 (omega arith)
state_are Sold = u8_are 2 (omega arith)

given_few : (buyer seller : Bool) → flag buyer + 2 * flag seller < 2 ^ 8
given_few true true = omega arith
given_few true false = omega arith
given_few false true = omega arith
given_few false false = omega arith

given_are : (given : GivenFeedback) → AreBytes (u8_bytes (given_number given))
given_are given = u8_are (given_number given) (given_few given.by_buyer given.by_seller)

numbers_are : (item : ItemRow) → AreBytes (item_numbers item)
unfolding item_numbers item_to_bids item_to_category
numbers_are item =
    let first = append_are _ _ (append_are _ _ (state_are item.state) (u64_are item.seller)) (u64_are item.category) in
    let prices = append_are _ _ (append_are _ _ (append_are _ _ first (u64_are item.start)) (u64_are item.buy_now)) (u64_are item.best) in
    let bids = append_are _ _ (append_are _ _ prices (u64_are item.best_bidder)) (u32_are item.bids) in
    append_are _ _ (append_are _ _ (append_are _ _ bids (u64_are item.ends.0)) (u64_are item.buyer)) (given_are item.given)

pub item_are : (item : ItemRow) → is_item item ≡ true → AreBytes (item_bytes item)
unfolding item_bytes
item_are item is =
    append_are _ _ (numbers_are item) (text16_are item.title (split (is_utf8 item.title) (fits_a_row (item_bytes item)) is).0)

pub category_are : (category : CategoryRow) → is_category category ≡ true → AreBytes (category_bytes category)
unfolding category_bytes
category_are category is = text16_are category.name (split (is_utf8 category.name) (fits_a_row (category_bytes category)) is).0

pub bid_are : (bid : BidRow) → AreBytes (bid_bytes bid)
unfolding bid_bytes
bid_are bid = append_are _ _ (append_are _ _ (u64_are bid.bidder) (u64_are bid.amount)) (u64_are bid.moment.0)

pub entry_are : (entry : EntryRow) → AreBytes (entry_bytes entry)
unfolding entry_bytes
entry_are entry = u64_are entry.item

pub feedback_are : (feedback : FeedbackRow) → is_feedback feedback ≡ true → AreBytes (feedback_bytes feedback)
unfolding feedback_bytes
feedback_are feedback is =
    append_are _ _ (append_are _ _ (append_are _ _ (u64_are feedback.from) (u64_are feedback.item)) (flag_are feedback.good))
    (text16_are feedback.text (split (is_utf8 feedback.text) (fits_a_row (feedback_bytes feedback)) is).0)

pub own_item_are : (own : OwnItemRow) → AreBytes (own_item_bytes own)
unfolding own_item_bytes
own_item_are own = u64_are own.item
