-- How many bytes rows have.
use Rattle.std.proofs.Common.{◌≡◌, ℕ, ◌+◌, ◌^◌, ◌<◌, ◌≤◌, Bool, true, ◌&&◌, nat_le, List, length, refl, ap, arith}
use Rattle.std.specs.Str.{is_utf8}
use Rattle.std.proofs.lemmas.Bool.Decides.{nat_tests}
use Rattle.std.proofs.lemmas.List.{length-append}
use Rattle.crash_base.specs.declared.rows.TheConstants.{MAX_ROW_BYTES}
use Rattle.auction_rows.specs.declared.rows.BidRow.{BidRow}
use Rattle.auction_rows.specs.declared.rows.CategoryRow.{CategoryRow}
use Rattle.auction_rows.specs.declared.rows.CounterRow.{CounterRow}
use Rattle.auction_rows.specs.declared.rows.EntryRow.{EntryRow}
use Rattle.auction_rows.specs.declared.rows.FeedbackRow.{FeedbackRow}
use Rattle.auction_rows.specs.declared.rows.ItemRow.{ItemRow}
use Rattle.auction_rows.specs.declared.rows.NameRow.{NameRow}
use Rattle.auction_rows.specs.declared.rows.OwnItemRow.{OwnItemRow}
use Rattle.auction_rows.specs.declared.rows.UserRow.{UserRow}
use Rattle.byte_fields.specs.Spelling.{u16_bytes}
use Rattle.auction_rows.specs.Bounds.{fits_a_row, is_user, is_name, is_item, is_category, is_feedback}
use Rattle.auction_rows.specs.Spelling.{u8_bytes, u32_bytes, u64_bytes, text16, user_bytes, name_bytes, counter_bytes, item_to_category, item_to_bids, item_numbers, item_bytes, category_bytes, bid_bytes, entry_bytes, feedback_bytes, own_item_bytes}
use Rattle.auction_rows.proofs.Exact.{split}

pub user_size : (user : UserRow) → length (user_bytes user) ≡ 14 + (length user.name + (length user.salt + length user.digest))
unfolding user_bytes text16 u16_bytes u32_bytes
user_size user = grind (arith, length-append)

pub name_size : (name : NameRow) → length (name_bytes name) ≡ 10 + length name.name
unfolding name_bytes text16 u16_bytes u64_bytes
name_size name = grind (arith, length-append)

pub item_size : (item : ItemRow) → length (item_bytes item) ≡ 72 + length item.title
unfolding item_bytes item_numbers item_to_bids item_to_category text16 u16_bytes u8_bytes u32_bytes u64_bytes
item_size item = omega arith

pub category_size : (category : CategoryRow) → length (category_bytes category) ≡ 2 + length category.name
unfolding category_bytes text16 u16_bytes
category_size category = omega arith

pub feedback_size : (feedback : FeedbackRow) → length (feedback_bytes feedback) ≡ 19 + length feedback.text
unfolding feedback_bytes text16 u16_bytes u8_bytes u64_bytes
feedback_size feedback = omega arith

pub counter_few : (counter : CounterRow) → fits_a_row (counter_bytes counter) ≡ true
unfolding counter_bytes u64_bytes
counter_few counter = refl

pub bid_few : (bid : BidRow) → fits_a_row (bid_bytes bid) ≡ true
unfolding bid_bytes u64_bytes
bid_few bid = refl

pub entry_few : (entry : EntryRow) → fits_a_row (entry_bytes entry) ≡ true
unfolding entry_bytes u64_bytes
entry_few entry = refl

pub own_item_few : (own : OwnItemRow) → fits_a_row (own_item_bytes own) ≡ true
unfolding own_item_bytes u64_bytes
own_item_few own = refl

-- few bytes
at_most : (bytes : List ℕ) → fits_a_row bytes ≡ true → length bytes ≤ MAX_ROW_BYTES
at_most bytes e = grind (arith, nat_tests)

pub user_short : (user : UserRow) → is_user user ≡ true → length user.name < 2 ^ 16
user_short user is = omega (arith, user_size user, at_most (user_bytes user) ((split (is_utf8 user.name) (fits_a_row (user_bytes user)) is).1))

pub name_short : (name : NameRow) → is_name name ≡ true → length name.name < 2 ^ 16
name_short name is = omega (arith, name_size name, at_most (name_bytes name) ((split (is_utf8 name.name) (fits_a_row (name_bytes name)) is).1))

pub item_short : (item : ItemRow) → is_item item ≡ true → length item.title < 2 ^ 16
item_short item is = omega (arith, item_size item, at_most (item_bytes item) ((split (is_utf8 item.title) (fits_a_row (item_bytes item)) is).1))

pub category_short : (category : CategoryRow) → is_category category ≡ true → length category.name < 2 ^ 16
category_short category is = omega (arith, category_size category, at_most (category_bytes category) ((split (is_utf8 category.name) (fits_a_row (category_bytes category)) is).1))

pub feedback_short : (feedback : FeedbackRow) → is_feedback feedback ≡ true → length feedback.text < 2 ^ 16
feedback_short feedback is = omega (arith, feedback_size feedback, at_most (feedback_bytes feedback) ((split (is_utf8 feedback.text) (fits_a_row (feedback_bytes feedback)) is).1))

-- room for a text, beside other fields
room : (size fixed n left : ℕ) (b : Bool) → size ≡ fixed + n → fixed + left ≡ MAX_ROW_BYTES → (b && nat_le size MAX_ROW_BYTES) ≡ (b && nat_le n left)
room size fixed n left b e f =
    let same : nat_le size MAX_ROW_BYTES ≡ nat_le n left = grind (arith, nat_tests) in
    ap (λ t. b && t) same

pub user_bounds : (user : UserRow) → length user.salt ≡ 8 → length user.digest ≡ 32 → is_user user ≡ (is_utf8 user.name && nat_le (length user.name) 4042)
user_bounds user salt digest = room (length (user_bytes user)) 54 (length user.name) 4042 (is_utf8 user.name) (omega (arith, user_size user, salt, digest)) refl

pub name_bounds : (name : NameRow) → is_name name ≡ (is_utf8 name.name && nat_le (length name.name) 4086)
name_bounds name = room (length (name_bytes name)) 10 (length name.name) 4086 (is_utf8 name.name) (name_size name) refl

pub item_bounds : (item : ItemRow) → is_item item ≡ (is_utf8 item.title && nat_le (length item.title) 4024)
item_bounds item = room (length (item_bytes item)) 72 (length item.title) 4024 (is_utf8 item.title) (item_size item) refl

pub category_bounds : (category : CategoryRow) → is_category category ≡ (is_utf8 category.name && nat_le (length category.name) 4094)
category_bounds category = room (length (category_bytes category)) 2 (length category.name) 4094 (is_utf8 category.name) (category_size category) refl

pub feedback_bounds : (feedback : FeedbackRow) → is_feedback feedback ≡ (is_utf8 feedback.text && nat_le (length feedback.text) 4077)
feedback_bounds feedback = room (length (feedback_bytes feedback)) 19 (length feedback.text) 4077 (is_utf8 feedback.text) (feedback_size feedback) refl
