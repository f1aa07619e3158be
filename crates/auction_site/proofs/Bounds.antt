-- The rows that actions write are within their bounds.
use Rattle.std.proofs.Common.{◌≡◌, ℕ, ◌+◌, ◌==◌, ◌≤◌, ◌&&◌, nat_le, Bool, true, false, cond, List, ◌++◌, length, refl, ap, sym, ◌∙◌, arith}
use Rattle.std.proofs.lemmas.Bool.{and_parts}
use Rattle.std.proofs.lemmas.Bool.Decides.{nat_tests}
use Rattle.std.specs.Cmp.Derive.{both_true}
use Rattle.std.specs.List.{list_all}
use Rattle.std.specs.Str.{is_utf8}
use Rattle.crash_base.specs.Names.{is_name_byte}
use Rattle.sha2.proofs.Facts256.{length-sha256}
use Rattle.auction_rows.specs.Bounds.{fits_a_row, is_user, is_name, is_item, is_category, is_feedback}
use Rattle.auction_rows.specs.Spelling.{u64_bytes, user_bytes, name_bytes, item_bytes, category_bytes, feedback_bytes}
use Rattle.auction_rows.specs.declared.rows.CategoryRow.{CategoryRow}
use Rattle.auction_rows.specs.declared.rows.FeedbackRow.{FeedbackRow}
use Rattle.auction_rows.specs.declared.rows.ItemRow.{ItemRow}
use Rattle.auction_rows.specs.declared.rows.ItemState.TheVariants.{Closed}
use Rattle.auction_rows.specs.declared.rows.NameRow.{NameRow}
use Rattle.auction_rows.specs.declared.rows.UserRow.{UserRow}
use Rattle.auction_calls.specs.Calls.{is_between, is_text, is_user_name}
use Rattle.auction_calls.proofs.Names.{user_name_utf8}
use Rattle.auction_rows.proofs.Sizes.{user_size, user_bounds, name_bounds, item_bounds, category_bounds, feedback_bounds}
use Rattle.auction_site.specs.Outcomes.{Offer, new_user, digest_of, new_item, with_items, with_bid, sold_to, after_close, with_feedback, with_given}

pub number_length : (n : ℕ) → length (u64_bytes n) ≡ 8
unfolding u64_bytes
number_length n = refl

-- few bytes, by their number
pub are_few_of : (bytes : List ℕ) (size : ℕ) → length bytes ≡ size → size ≤ 4096 → fits_a_row bytes ≡ true
are_few_of bytes size is few = let less : length bytes ≤ 4096 = omega (arith, is, few) in grind (arith, nat_tests)

-- an item with the same title
pub same_item : (item other : ItemRow) → other.title ≡ item.title → is_item item ≡ true → is_item other ≡ true
same_item item other same is =
    item_bounds other ∙ ap (λ title. is_utf8 title && nat_le (length title) 4024) same ∙ sym (item_bounds item) ∙ is

-- a user with the same name, salt and digest
pub same_user : (user other : UserRow) → other.name ≡ user.name → other.salt ≡ user.salt → other.digest ≡ user.digest → is_user user ≡ true → is_user other ≡ true
same_user user other name salt digest is =
    let two = and_parts (is_utf8 user.name) (fits_a_row (user_bytes user)) is in
    let less : length (user_bytes user) ≤ 4096 = let fact = two.1 in grind (arith, nat_tests) in
    both_true (rw name two.0)
    (are_few_of (user_bytes other) (14 + (length other.name + (length other.salt + length other.digest))) (user_size other)
    (omega (arith, less, user_size user, ap length name, ap length salt, ap length digest)))

pub with_bid_is : (item : ItemRow) (bidder amount : ℕ) → is_item item ≡ true → is_item (with_bid item bidder amount) ≡ true
with_bid_is item bidder amount is = same_item item (with_bid item bidder amount) refl is

pub sold_to_is : (item : ItemRow) (buyer : ℕ) → is_item item ≡ true → is_item (sold_to item buyer) ≡ true
sold_to_is item buyer is = same_item item (sold_to item buyer) refl is

pub after_close_is : (item : ItemRow) → is_item item ≡ true → is_item (after_close item) ≡ true
after_close_is item is = same_item item (after_close item) (by_bid (item.best == 0)) is
  where
    by_bid : (none : Bool) → (cond none (record item { state = Closed }) (sold_to item item.best_bidder)).title ≡ item.title
    by_bid true = refl
    by_bid false = refl

pub with_given_is : (item : ItemRow) (user : ℕ) → is_item item ≡ true → is_item (with_given item user) ≡ true
with_given_is item user is = same_item item (with_given item user) refl is

pub with_items_is : (user : UserRow) (items : ℕ) → is_user user ≡ true → is_user (with_items user items) ≡ true
with_items_is user items is = same_user user (with_items user items) refl refl refl is

pub with_feedback_is : (user : UserRow) (good : Bool) → is_user user ≡ true → is_user (with_feedback user good) ≡ true
with_feedback_is user true is = same_user user (with_feedback user true) refl refl refl is
with_feedback_is user false is = same_user user (with_feedback user false) refl refl refl is

-- the number of a text's bytes, and that they are UTF-8
pub is_text_facts : (least most : ℕ) (text : List ℕ) → is_text least most text ≡ true → (length text ≤ most) × (is_utf8 text ≡ true)
is_text_facts least most text is =
    let two = and_parts (is_between least most (length text)) (is_utf8 text) is in
    let sizes = and_parts (nat_le least (length text)) (nat_le (length text) most) two.0 in
    let fact = sizes.1 in
    ((grind (arith, nat_tests)), two.1)

pub new_item_is : (seller now : ℕ) (offer : Offer) → is_text 1 80 offer.title ≡ true → is_item (new_item seller now offer) ≡ true
new_item_is seller now offer is =
    let facts = is_text_facts 1 80 offer.title is in
    let few = facts.0 in
    item_bounds (new_item seller now offer) ∙ both_true facts.1 (grind (arith, nat_tests))

pub category_is : (category : CategoryRow) → is_text 1 40 category.name ≡ true → is_category category ≡ true
category_is category is =
    let facts = is_text_facts 1 40 category.name is in
    let few = facts.0 in
    category_bounds category ∙ both_true facts.1 (grind (arith, nat_tests))

pub feedback_is : (feedback : FeedbackRow) → is_text 0 200 feedback.text ≡ true → is_feedback feedback ≡ true
feedback_is feedback is =
    let facts = is_text_facts 0 200 feedback.text is in
    let few = facts.0 in
    feedback_bounds feedback ∙ both_true facts.1 (grind (arith, nat_tests))

-- a name of a user is short, and is UTF-8
pub is_user_name_facts : (name : List ℕ) → is_user_name name ≡ true → (length name ≤ 24) × (is_utf8 name ≡ true)
is_user_name_facts name is =
    let two = and_parts (is_between 1 24 (length name)) (list_all is_name_byte name) is in
    let sizes = and_parts (nat_le 1 (length name)) (nat_le (length name) 24) two.0 in
    let fact = sizes.1 in
    ((grind (arith, nat_tests)), user_name_utf8 name is)

pub new_user_is : (name password : List ℕ) (fresh : ℕ) → is_user_name name ≡ true → is_user (new_user name password (u64_bytes fresh)) ≡ true
new_user_is name password fresh is =
    let facts = is_user_name_facts name is in
    let few = facts.0 in
    let digest : length (digest_of (u64_bytes fresh) password) ≡ 32 = length-sha256 (u64_bytes fresh ++ password) in
    user_bounds (new_user name password (u64_bytes fresh)) (number_length fresh) digest
    ∙ both_true facts.1 (grind (arith, nat_tests))

pub name_is : (name : NameRow) → is_user_name name.name ≡ true → is_name name ≡ true
name_is name is =
    let facts = is_user_name_facts name.name is in
    let few = facts.0 in
    name_bounds name ∙ both_true facts.1 (grind (arith, nat_tests))

-- an item has few bytes
pub few_item : (item : ItemRow) → is_item item ≡ true → nat_le (length (item_bytes item)) 4096 ≡ true
few_item item is = (and_parts (is_utf8 item.title) (fits_a_row (item_bytes item)) is).1

-- a user has few bytes
pub few_user : (user : UserRow) → is_user user ≡ true → nat_le (length (user_bytes user)) 4096 ≡ true
few_user user is = (and_parts (is_utf8 user.name) (fits_a_row (user_bytes user)) is).1

-- a name has few bytes
pub few_name : (name : NameRow) → is_name name ≡ true → nat_le (length (name_bytes name)) 4096 ≡ true
few_name name is = (and_parts (is_utf8 name.name) (fits_a_row (name_bytes name)) is).1

-- a category has few bytes
pub few_category : (category : CategoryRow) → is_category category ≡ true → nat_le (length (category_bytes category)) 4096 ≡ true
few_category category is = (and_parts (is_utf8 category.name) (fits_a_row (category_bytes category)) is).1

-- feedback has few bytes
pub few_feedback : (feedback : FeedbackRow) → is_feedback feedback ≡ true → nat_le (length (feedback_bytes feedback)) 4096 ≡ true
few_feedback feedback is = (and_parts (is_utf8 feedback.text) (fits_a_row (feedback_bytes feedback)) is).1
