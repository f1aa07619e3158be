-- Each action that writes is taken exactly where it may be.
use Rattle.std.proofs.Common.{◌≡◌, ◌≢◌, ◌⊎◌, ◌↔◌, ℕ, ◌+◌, ◌-◌, ◌^◌, ◌==◌, ◌≤◌, ◌<◌, nat_le, not, Bool, true, false, List, None, Ok, refl, ap, sym, inl, inr, arith}
use Rattle.std.specs.Str.{bytes_eq}
use Rattle.std.proofs.lemmas.Bool.Decides.{nat_tests}
use Rattle.std.proofs.lemmas.Slice.Eq.{bytes_eq-Decides}
use Rattle.crash_base.specs.declared.rows.RowWrite.{RowWrite}
use Rattle.action_plans.specs.declared.plan.Outcome.{Outcome}
use Rattle.auction_rows.specs.declared.rows.ItemRow.{ItemRow}
use Rattle.auction_rows.specs.declared.rows.ItemState.TheVariants.{Running, Sold}
use Rattle.auction_rows.specs.declared.rows.NameRow.{NameRow}
use Rattle.auction_rows.specs.declared.rows.UserRow.{UserRow}
use Rattle.auction_rows.specs.Ids.{user_id, name_id, users_counter, items_counter, categories_counter, category_counter, item_id, category_id}
use Rattle.auction_rows.specs.Reading.{user_of, name_of, item_of, category_of}
use Rattle.auction_rules.specs.Rules.{bid_refusal, buy_refusal, close_refusal, feedback_refusal, other_side, IsRunning, IsTooLow, IsNotForSale, IsOnASide, HasGiven}
use Rattle.auction_site.specs.declared.limits.TheConstants.{LAST_NUMBER, LAST_BID, LAST_FEEDBACK, CATEGORY_EDITOR}
use Rattle.auction_site.specs.Answers.{sign_in_first, not_there, no_more_numbers, name_taken, not_allowed, bad_buy_now, no_such_category, wrong_password}
use Rattle.auction_site.specs.Found.{Found, refused_if, refused_by, row_or, the_row, no_row, the_counter}
use Rattle.auction_site.specs.Outcomes.{Offer, digest_of, registered, category_added, offered, bid_made, bought, closed, feedback_given, signed_in}
use Rattle.auction_site.specs.Rules.{register, sign_in, add_category, sells_too_low, sell, bid, buy, close, give_feedback}
use Rattle.auction_site.specs.Accepted.{MayRegister, MaySignIn, MayAddCategory, MaySell, MayBid, MayBuy, MayClose, MayGiveFeedback}
use Rattle.auction_site.proofs.Finding.{if_found, by_found, row_found}
use Rattle.auction_site.proofs.Signing.{equal_bytes}
use Rattle.auction_site.proofs.Accepting.{split_found, then_found, if_passes, by_passes, row_is_found, no_row_found, no_row_is_found, counter_counts, counter_is_found}

-- what is found
abbrev gives : {A : Type 0} → A → Found A
gives x = Ok x

-- what is found is but one value
given : {A : Type 0} (x y : A) → gives x ≡ gives y → y ≡ x
given x y is = cc

pub is_zero_not : (n : ℕ) → n ≢ 0 → (n == 0) ≡ false
is_zero_not n apart = grind (arith, nat_tests)

pub is_not_zero : (n : ℕ) → (n == 0) ≡ false → n ≢ 0
is_not_zero n test = λ is. absurd (grind (arith, nat_tests))

-- a number that another one follows
pub has_next : (n : ℕ) → nat_le LAST_NUMBER n ≡ false → n < 2 ^ 32 - 1
has_next n test = grind (arith, nat_tests)

next_is : (n : ℕ) → n < 2 ^ 32 - 1 → nat_le LAST_NUMBER n ≡ false
next_is n few = grind (arith, nat_tests)

-- a small one
pub has_small_next : (n : ℕ) → nat_le LAST_BID n ≡ false → n < 2 ^ 20 - 1
has_small_next n test = grind (arith, nat_tests)

small_next_is : (n : ℕ) → n < 2 ^ 20 - 1 → nat_le LAST_BID n ≡ false
small_next_is n few = grind (arith, nat_tests)

pub register_accepted : (name password : List ℕ) (fresh now : ℕ) (rows : List RowWrite) (outcome : Outcome)
    → (register name password fresh now rows ≡ Ok outcome)
    ↔ ((users : ℕ) × MayRegister rows name users × (outcome ≡ registered name password fresh now (users + 1)))
unfolding register
register_accepted name password fresh now rows outcome = (to, from)
  where
    to : register name password fresh now rows ≡ Ok outcome
        → (users : ℕ) × MayRegister rows name users × (outcome ≡ registered name password fresh now (users + 1))
    to is =
        let free = split_found (no_row rows name_of (name_id name) name_taken) _ outcome is in
        let users = split_found (the_counter rows users_counter) _ outcome free.2 in
        let numbered = split_found (refused_if (nat_le LAST_NUMBER users.0) no_more_numbers) _ outcome users.2 in (
          users.0,
          record {
            free = no_row_found rows name_of (name_id name) name_taken free.0 free.1;
            counted = counter_counts rows users_counter users.0 users.1;
            few = has_next users.0 (if_found (nat_le LAST_NUMBER users.0) no_more_numbers numbered.0 numbered.1);
          },
          given (registered name password fresh now (users.0 + 1)) outcome numbered.2,
        )

    from : ((users : ℕ) × MayRegister rows name users × (outcome ≡ registered name password fresh now (users + 1)))
        → register name password fresh now rows ≡ Ok outcome
    from all =
        let users : ℕ = all.0 in
        let may = all.1 in
        then_found (no_row rows name_of (name_id name) name_taken) _ tt (Ok outcome) (no_row_is_found rows name_of (name_id name) name_taken may.free) (
        then_found (the_counter rows users_counter) _ users (Ok outcome) (counter_is_found rows users_counter users may.counted) (
        then_found (refused_if (nat_le LAST_NUMBER users) no_more_numbers) _ tt (Ok outcome) (if_passes (nat_le LAST_NUMBER users) no_more_numbers (next_is users may.few))
        (ap Ok (sym all.2))))

pub add_category_accepted : (user : ℕ) (name : List ℕ) (rows : List RowWrite) (outcome : Outcome)
    → (add_category user name rows ≡ Ok outcome)
    ↔ ((categories : ℕ) × MayAddCategory rows user categories × (outcome ≡ category_added name (categories + 1)))
unfolding add_category
add_category_accepted user name rows outcome = (to, from)
  where
    to : add_category user name rows ≡ Ok outcome
        → (categories : ℕ) × MayAddCategory rows user categories × (outcome ≡ category_added name (categories + 1))
    to is =
        let signed = split_found (refused_if (user == 0) sign_in_first) _ outcome is in
        let keeps = split_found (refused_if (not (user == CATEGORY_EDITOR)) not_allowed) _ outcome signed.2 in
        let categories = split_found (the_counter rows categories_counter) _ outcome keeps.2 in
        let numbered = split_found (refused_if (nat_le LAST_NUMBER categories.0) no_more_numbers) _ outcome categories.2 in
        let keeper : not (user == CATEGORY_EDITOR) ≡ false = if_found (not (user == CATEGORY_EDITOR)) not_allowed keeps.0 keeps.1 in (
          categories.0,
          record {
            editor = grind (arith, nat_tests);
            counted = counter_counts rows categories_counter categories.0 categories.1;
            few = has_next categories.0 (if_found (nat_le LAST_NUMBER categories.0) no_more_numbers numbered.0 numbered.1);
          },
          given (category_added name (categories.0 + 1)) outcome numbered.2,
        )

    from : ((categories : ℕ) × MayAddCategory rows user categories × (outcome ≡ category_added name (categories + 1)))
        → add_category user name rows ≡ Ok outcome
    from all =
        let categories : ℕ = all.0 in
        let may = all.1 in
        let keeper = may.editor in
        let signed : (user == 0) ≡ false = grind (arith, nat_tests) in
        let keeps : not (user == CATEGORY_EDITOR) ≡ false = grind (arith, nat_tests) in
        then_found (refused_if (user == 0) sign_in_first) _ tt (Ok outcome) (if_passes (user == 0) sign_in_first signed) (
        then_found (refused_if (not (user == CATEGORY_EDITOR)) not_allowed) _ tt (Ok outcome) (if_passes (not (user == CATEGORY_EDITOR)) not_allowed keeps) (
        then_found (the_counter rows categories_counter) _ categories (Ok outcome) (counter_is_found rows categories_counter categories may.counted) (
        then_found (refused_if (nat_le LAST_NUMBER categories) no_more_numbers) _ tt (Ok outcome) (if_passes (nat_le LAST_NUMBER categories) no_more_numbers (next_is categories may.few))
        (ap Ok (sym all.2)))))

-- a price that is not too low
priced_well : (offer : Offer) → sells_too_low offer ≡ false → (offer.buy_now ≡ 0) ⊎ (offer.start ≤ offer.buy_now)
priced_well offer well = by_price (offer.buy_now == 0) refl
  where
    by_price : (none : Bool) → (offer.buy_now == 0) ≡ none → (offer.buy_now ≡ 0) ⊎ (offer.start ≤ offer.buy_now)
    by_price true is = inl (grind (arith, nat_tests))
    by_price false is = inr (grind (arith, nat_tests))

well_priced : (offer : Offer) → (offer.buy_now ≡ 0) ⊎ (offer.start ≤ offer.buy_now) → sells_too_low offer ≡ false
well_priced offer (inl none) = grind (arith, nat_tests)
well_priced offer (inr enough) = grind (arith, nat_tests)

-- an offer that is taken, as an item of a number, an entry of a number, and of a user
abbrev pub IsOffered : List RowWrite → ℕ → ℕ → Offer → Outcome → Type 0
IsOffered rows seller now offer outcome =
    (items : ℕ) × (entries : ℕ) × (user : UserRow) × MaySell rows seller offer items entries user
    × (outcome ≡ offered seller now offer (items + 1) (entries + 1) user)

pub sell_accepted : (seller now : ℕ) (offer : Offer) (rows : List RowWrite) (outcome : Outcome)
    → (sell seller now offer rows ≡ Ok outcome) ↔ IsOffered rows seller now offer outcome
unfolding sell
sell_accepted seller now offer rows outcome = (to, from)
  where
    to : sell seller now offer rows ≡ Ok outcome → IsOffered rows seller now offer outcome
    to is =
        let signed = split_found (refused_if (seller == 0) sign_in_first) _ outcome is in
        let priced = split_found (refused_if (sells_too_low offer) bad_buy_now) _ outcome signed.2 in
        let category = split_found (row_or rows category_of (category_id offer.category) no_such_category) _ outcome priced.2 in
        let items = split_found (the_counter rows items_counter) _ outcome category.2 in
        let numbered = split_found (refused_if (nat_le LAST_NUMBER items.0) no_more_numbers) _ outcome items.2 in
        let entries = split_found (the_counter rows (category_counter offer.category)) _ outcome numbered.2 in
        let entered = split_found (refused_if (nat_le LAST_NUMBER entries.0) no_more_numbers) _ outcome entries.2 in
        let user = split_found (the_row rows user_of (user_id seller)) _ outcome entered.2 in
        let owned = split_found (refused_if (nat_le LAST_NUMBER user.0.items) no_more_numbers) _ outcome user.2 in (
          items.0,
          entries.0,
          user.0,
          record {
            signed = is_not_zero seller (if_found (seller == 0) sign_in_first signed.0 signed.1);
            priced = priced_well offer (if_found (sells_too_low offer) bad_buy_now priced.0 priced.1);
            category = category.0;
            category_there = row_found rows category_of (category_id offer.category) no_such_category category.0 category.1;
            items_counted = counter_counts rows items_counter items.0 items.1;
            few_items = has_next items.0 (if_found (nat_le LAST_NUMBER items.0) no_more_numbers numbered.0 numbered.1);
            entries_counted = counter_counts rows (category_counter offer.category) entries.0 entries.1;
            few_entries = has_next entries.0 (if_found (nat_le LAST_NUMBER entries.0) no_more_numbers entered.0 entered.1);
            there = row_found rows user_of (user_id seller) not_there user.0 user.1;
            few_own_items = has_next user.0.items (if_found (nat_le LAST_NUMBER user.0.items) no_more_numbers owned.0 owned.1);
          },
          given (offered seller now offer (items.0 + 1) (entries.0 + 1) user.0) outcome owned.2,
        )

    from : IsOffered rows seller now offer outcome → sell seller now offer rows ≡ Ok outcome
    from all =
        let items : ℕ = all.0 in
        let entries : ℕ = all.1 in
        let user : UserRow = all.2 in
        let may = all.3 in
        then_found (refused_if (seller == 0) sign_in_first) _ tt (Ok outcome) (if_passes (seller == 0) sign_in_first (is_zero_not seller may.signed)) (
        then_found (refused_if (sells_too_low offer) bad_buy_now) _ tt (Ok outcome) (if_passes (sells_too_low offer) bad_buy_now (well_priced offer may.priced)) (
        then_found (row_or rows category_of (category_id offer.category) no_such_category) _ may.category (Ok outcome)
        (row_is_found rows category_of (category_id offer.category) no_such_category may.category may.category_there) (
        then_found (the_counter rows items_counter) _ items (Ok outcome) (counter_is_found rows items_counter items may.items_counted) (
        then_found (refused_if (nat_le LAST_NUMBER items) no_more_numbers) _ tt (Ok outcome) (if_passes (nat_le LAST_NUMBER items) no_more_numbers (next_is items may.few_items)) (
        then_found (the_counter rows (category_counter offer.category)) _ entries (Ok outcome) (counter_is_found rows (category_counter offer.category) entries may.entries_counted) (
        then_found (refused_if (nat_le LAST_NUMBER entries) no_more_numbers) _ tt (Ok outcome) (if_passes (nat_le LAST_NUMBER entries) no_more_numbers (next_is entries may.few_entries)) (
        then_found (the_row rows user_of (user_id seller)) _ user (Ok outcome) (row_is_found rows user_of (user_id seller) not_there user may.there) (
        then_found (refused_if (nat_le LAST_NUMBER user.items) no_more_numbers) _ tt (Ok outcome) (if_passes (nat_le LAST_NUMBER user.items) no_more_numbers (next_is user.items may.few_own_items))
        (ap Ok (sym all.4))))))))))

-- when no bid is refused
abbrev BidRule : Type 0
BidRule = (item : ItemRow) (user amount now : ℕ)
    → (bid_refusal item user amount now ≡ None) ↔ (IsRunning item now × (item.seller ≢ user) × (¬ IsTooLow item amount))

pub bid_accepted : BidRule → (user now number amount : ℕ) (rows : List RowWrite) (outcome : Outcome)
    → (bid user now number amount rows ≡ Ok outcome)
    ↔ ((item : ItemRow) × MayBid rows user now number amount item × (outcome ≡ bid_made user now number amount item))
unfolding bid
bid_accepted exact user now number amount rows outcome = (to, from)
  where
    to : bid user now number amount rows ≡ Ok outcome
        → (item : ItemRow) × MayBid rows user now number amount item × (outcome ≡ bid_made user now number amount item)
    to is =
        let signed = split_found (refused_if (user == 0) sign_in_first) _ outcome is in
        let item = split_found (the_row rows item_of (item_id number)) _ outcome signed.2 in
        let allowed = split_found (refused_by (bid_refusal item.0 user amount now)) _ outcome item.2 in
        let numbered = split_found (refused_if (nat_le LAST_BID item.0.bids) no_more_numbers) _ outcome allowed.2 in
        let may = (exact item.0 user amount now).0 (by_found (bid_refusal item.0 user amount now) allowed.0 allowed.1) in (
          item.0,
          record {
            signed = is_not_zero user (if_found (user == 0) sign_in_first signed.0 signed.1);
            there = row_found rows item_of (item_id number) not_there item.0 item.1;
            running = may.0;
            other = may.1;
            enough = may.2;
            few = has_small_next item.0.bids (if_found (nat_le LAST_BID item.0.bids) no_more_numbers numbered.0 numbered.1);
          },
          given (bid_made user now number amount item.0) outcome numbered.2,
        )

    from : ((item : ItemRow) × MayBid rows user now number amount item × (outcome ≡ bid_made user now number amount item))
        → bid user now number amount rows ≡ Ok outcome
    from all =
        let item : ItemRow = all.0 in
        let may = all.1 in
        let none : bid_refusal item user amount now ≡ None = (exact item user amount now).1 (may.running, may.other, may.enough) in
        then_found (refused_if (user == 0) sign_in_first) _ tt (Ok outcome) (if_passes (user == 0) sign_in_first (is_zero_not user may.signed)) (
        then_found (the_row rows item_of (item_id number)) _ item (Ok outcome) (row_is_found rows item_of (item_id number) not_there item may.there) (
        then_found (refused_by (bid_refusal item user amount now)) _ tt (Ok outcome) (by_passes (bid_refusal item user amount now) none) (
        then_found (refused_if (nat_le LAST_BID item.bids) no_more_numbers) _ tt (Ok outcome)
        (if_passes (nat_le LAST_BID item.bids) no_more_numbers (small_next_is item.bids may.few))
        (ap Ok (sym all.2)))))

-- when no purchase is refused
abbrev BuyRule : Type 0
BuyRule = (item : ItemRow) (user now : ℕ)
    → (buy_refusal item user now ≡ None) ↔ (IsRunning item now × (item.seller ≢ user) × (¬ IsNotForSale item))

pub buy_accepted : BuyRule → (user now number : ℕ) (rows : List RowWrite) (outcome : Outcome)
    → (buy user now number rows ≡ Ok outcome)
    ↔ ((item : ItemRow) × MayBuy rows user now number item × (outcome ≡ bought user number item))
unfolding buy
buy_accepted exact user now number rows outcome = (to, from)
  where
    to : buy user now number rows ≡ Ok outcome
        → (item : ItemRow) × MayBuy rows user now number item × (outcome ≡ bought user number item)
    to is =
        let signed = split_found (refused_if (user == 0) sign_in_first) _ outcome is in
        let item = split_found (the_row rows item_of (item_id number)) _ outcome signed.2 in
        let allowed = split_found (refused_by (buy_refusal item.0 user now)) _ outcome item.2 in
        let may = (exact item.0 user now).0 (by_found (buy_refusal item.0 user now) allowed.0 allowed.1) in (
          item.0,
          record {
            signed = is_not_zero user (if_found (user == 0) sign_in_first signed.0 signed.1);
            there = row_found rows item_of (item_id number) not_there item.0 item.1;
            running = may.0;
            other = may.1;
            for_sale = may.2;
          },
          given (bought user number item.0) outcome allowed.2,
        )

    from : ((item : ItemRow) × MayBuy rows user now number item × (outcome ≡ bought user number item)) → buy user now number rows ≡ Ok outcome
    from all =
        let item : ItemRow = all.0 in
        let may = all.1 in
        let none : buy_refusal item user now ≡ None = (exact item user now).1 (may.running, may.other, may.for_sale) in
        then_found (refused_if (user == 0) sign_in_first) _ tt (Ok outcome) (if_passes (user == 0) sign_in_first (is_zero_not user may.signed)) (
        then_found (the_row rows item_of (item_id number)) _ item (Ok outcome) (row_is_found rows item_of (item_id number) not_there item may.there) (
        then_found (refused_by (buy_refusal item user now)) _ tt (Ok outcome) (by_passes (buy_refusal item user now) none)
        (ap Ok (sym all.2))))

-- when no close is refused
abbrev CloseRule : Type 0
CloseRule = (item : ItemRow) (user : ℕ) → (close_refusal item user ≡ None) ↔ ((item.seller ≡ user) × (item.state ≡ Running))

pub close_accepted : CloseRule → (user number : ℕ) (rows : List RowWrite) (outcome : Outcome)
    → (close user number rows ≡ Ok outcome) ↔ ((item : ItemRow) × MayClose rows user number item × (outcome ≡ closed number item))
unfolding close
close_accepted exact user number rows outcome = (to, from)
  where
    to : close user number rows ≡ Ok outcome → (item : ItemRow) × MayClose rows user number item × (outcome ≡ closed number item)
    to is =
        let signed = split_found (refused_if (user == 0) sign_in_first) _ outcome is in
        let item = split_found (the_row rows item_of (item_id number)) _ outcome signed.2 in
        let allowed = split_found (refused_by (close_refusal item.0 user)) _ outcome item.2 in
        let may = (exact item.0 user).0 (by_found (close_refusal item.0 user) allowed.0 allowed.1) in (
          item.0,
          record {
            signed = is_not_zero user (if_found (user == 0) sign_in_first signed.0 signed.1);
            there = row_found rows item_of (item_id number) not_there item.0 item.1;
            own = may.0;
            still_open = may.1;
          },
          given (closed number item.0) outcome allowed.2,
        )

    from : ((item : ItemRow) × MayClose rows user number item × (outcome ≡ closed number item)) → close user number rows ≡ Ok outcome
    from all =
        let item : ItemRow = all.0 in
        let may = all.1 in
        let none : close_refusal item user ≡ None = (exact item user).1 (may.own, may.still_open) in
        then_found (refused_if (user == 0) sign_in_first) _ tt (Ok outcome) (if_passes (user == 0) sign_in_first (is_zero_not user may.signed)) (
        then_found (the_row rows item_of (item_id number)) _ item (Ok outcome) (row_is_found rows item_of (item_id number) not_there item may.there) (
        then_found (refused_by (close_refusal item user)) _ tt (Ok outcome) (by_passes (close_refusal item user) none)
        (ap Ok (sym all.2))))

-- when no feedback is refused
abbrev FeedbackRule : Type 0
FeedbackRule = (item : ItemRow) (user : ℕ)
    → (feedback_refusal item user ≡ None) ↔ ((item.state ≡ Sold) × IsOnASide item user × (¬ HasGiven item user))

-- feedback that is taken
abbrev pub IsGiven : List RowWrite → ℕ → ℕ → Bool → List ℕ → Outcome → Type 0
IsGiven rows user number good text outcome =
    (item : ItemRow) × (about : UserRow) × MayGiveFeedback rows user number item about
    × (outcome ≡ feedback_given user number good text item about)

pub feedback_accepted : FeedbackRule → (user number : ℕ) (good : Bool) (text : List ℕ) (rows : List RowWrite) (outcome : Outcome)
    → (give_feedback user number good text rows ≡ Ok outcome) ↔ IsGiven rows user number good text outcome
unfolding give_feedback
feedback_accepted exact user number good text rows outcome = (to, from)
  where
    to : give_feedback user number good text rows ≡ Ok outcome → IsGiven rows user number good text outcome
    to is =
        let signed = split_found (refused_if (user == 0) sign_in_first) _ outcome is in
        let item = split_found (the_row rows item_of (item_id number)) _ outcome signed.2 in
        let allowed = split_found (refused_by (feedback_refusal item.0 user)) _ outcome item.2 in
        let about = split_found (the_row rows user_of (user_id (other_side item.0 user))) _ outcome allowed.2 in
        let count : ℕ = about.0.good + about.0.bad in
        let numbered = split_found (refused_if (nat_le LAST_FEEDBACK count) no_more_numbers) _ outcome about.2 in
        let may = (exact item.0 user).0 (by_found (feedback_refusal item.0 user) allowed.0 allowed.1) in (
          item.0,
          about.0,
          record {
            signed = is_not_zero user (if_found (user == 0) sign_in_first signed.0 signed.1);
            there = row_found rows item_of (item_id number) not_there item.0 item.1;
            sold = may.0;
            side = may.1;
            first = may.2;
            about_there = row_found rows user_of (user_id (other_side item.0 user)) not_there about.0 about.1;
            few = has_small_next count (if_found (nat_le LAST_FEEDBACK count) no_more_numbers numbered.0 numbered.1);
          },
          given (feedback_given user number good text item.0 about.0) outcome numbered.2,
        )

    from : IsGiven rows user number good text outcome → give_feedback user number good text rows ≡ Ok outcome
    from all =
        let item : ItemRow = all.0 in
        let about : UserRow = all.1 in
        let may = all.2 in
        let none : feedback_refusal item user ≡ None = (exact item user).1 (may.sold, may.side, may.first) in
        let count : ℕ = about.good + about.bad in
        then_found (refused_if (user == 0) sign_in_first) _ tt (Ok outcome) (if_passes (user == 0) sign_in_first (is_zero_not user may.signed)) (
        then_found (the_row rows item_of (item_id number)) _ item (Ok outcome) (row_is_found rows item_of (item_id number) not_there item may.there) (
        then_found (refused_by (feedback_refusal item user)) _ tt (Ok outcome) (by_passes (feedback_refusal item user) none) (
        then_found (the_row rows user_of (user_id (other_side item user))) _ about (Ok outcome)
        (row_is_found rows user_of (user_id (other_side item user)) not_there about may.about_there) (
        then_found (refused_if (nat_le LAST_FEEDBACK count) no_more_numbers) _ tt (Ok outcome)
        (if_passes (nat_le LAST_FEEDBACK count) no_more_numbers (small_next_is count may.few))
        (ap Ok (sym all.3))))))

pub sign_in_accepted : (name password : List ℕ) (now : ℕ) (rows : List RowWrite) (outcome : Outcome)
    → (sign_in name password now rows ≡ Ok outcome)
    ↔ ((found : NameRow) × (user : UserRow) × MaySignIn rows name password found user × (outcome ≡ signed_in name now found.user))
unfolding sign_in
sign_in_accepted name password now rows outcome = (to, from)
  where
    -- the test of two bytes that are the same
    same_bytes : (a b : List ℕ) → not (bytes_eq a b) ≡ false → a ≡ b
    same_bytes a b is = (bytes_eq-Decides a b).0 (by_test (bytes_eq a b) is)
      where
        by_test : (same : Bool) → not same ≡ false → same ≡ true
        by_test true e = refl
        by_test false e = absurd (cc)

    to : sign_in name password now rows ≡ Ok outcome
        → (found : NameRow) × (user : UserRow) × MaySignIn rows name password found user × (outcome ≡ signed_in name now found.user)
    to is =
        let found = split_found (row_or rows name_of (name_id name) wrong_password) _ outcome is in
        let named = split_found (refused_if (not (bytes_eq found.0.name name)) wrong_password) _ outcome found.2 in
        let user = split_found (row_or rows user_of (user_id found.0.user) wrong_password) _ outcome named.2 in
        let digest : List ℕ = digest_of user.0.salt password in
        let known = split_found (refused_if (not (bytes_eq digest user.0.digest)) wrong_password) _ outcome user.2 in (
          found.0,
          user.0,
          record {
            there = row_found rows name_of (name_id name) wrong_password found.0 found.1;
            same_name = same_bytes found.0.name name (if_found (not (bytes_eq found.0.name name)) wrong_password named.0 named.1);
            user_there = row_found rows user_of (user_id found.0.user) wrong_password user.0 user.1;
            known = same_bytes digest user.0.digest (if_found (not (bytes_eq digest user.0.digest)) wrong_password known.0 known.1);
          },
          given (signed_in name now found.0.user) outcome known.2,
        )

    from : ((found : NameRow) × (user : UserRow) × MaySignIn rows name password found user × (outcome ≡ signed_in name now found.user))
        → sign_in name password now rows ≡ Ok outcome
    from all =
        let found : NameRow = all.0 in
        let user : UserRow = all.1 in
        let may = all.2 in
        let digest : List ℕ = digest_of user.salt password in
        then_found (row_or rows name_of (name_id name) wrong_password) _ found (Ok outcome) (row_is_found rows name_of (name_id name) wrong_password found may.there) (
        then_found (refused_if (not (bytes_eq found.name name)) wrong_password) _ tt (Ok outcome)
        (if_passes (not (bytes_eq found.name name)) wrong_password (equal_bytes found.name name may.same_name)) (
        then_found (row_or rows user_of (user_id found.user) wrong_password) _ user (Ok outcome) (row_is_found rows user_of (user_id found.user) wrong_password user may.user_there) (
        then_found (refused_if (not (bytes_eq digest user.digest)) wrong_password) _ tt (Ok outcome)
        (if_passes (not (bytes_eq digest user.digest)) wrong_password (equal_bytes digest user.digest may.known))
        (ap Ok (sym all.3)))))
