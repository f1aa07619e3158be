-- The plans that write come to what the site finds.
use Rattle.std.proofs.Common.{◌≡◌, ℕ, ◌+◌, ◌^◌, ◌==◌, nat_le, not, Bool, true, false, List, Some, None, Ok, refl, arith}
use Rattle.std.proofs.lemmas.Bool.Decides.{nat_tests}
use Rattle.crash_base.specs.declared.rows.RowWrite.{RowWrite}
use Rattle.action_plans.specs.Plans.{Gives}
use Rattle.action_plans.specs.Steps.{outcome_of}
use Rattle.auction_calls.specs.Calls.{is_text, is_user_name}
use Rattle.auction_rows.specs.declared.rows.ItemRow.{ItemRow}
use Rattle.auction_rows.specs.declared.rows.UserRow.{UserRow}
use Rattle.auction_rows.specs.Bounds.{is_item, is_user}
use Rattle.auction_rows.specs.Ids.{user_id, name_id, users_counter, items_counter, categories_counter, category_counter, item_id, category_id}
use Rattle.auction_rows.specs.Parts.{site_parts, site_components, site_references, site_tables}
use Rattle.auction_rows.specs.Reading.{user_of, name_of, item_of, category_of}
use Rattle.auction_rows.specs.Spelling.{u64_bytes, bid_bytes, counter_bytes, entry_bytes, own_item_bytes}
use Rattle.auction_rules.specs.Rules.{bid_refusal, buy_refusal, close_refusal, feedback_refusal, other_side}
use Rattle.auction_site.specs.declared.limits.TheConstants.{LAST_NUMBER, LAST_BID, LAST_FEEDBACK, CATEGORY_EDITOR}
use Rattle.auction_site.specs.Actions.{through}
use Rattle.auction_site.specs.Answers.{not_there, sign_in_first, no_more_numbers, name_taken, not_allowed, bad_buy_now, no_such_category}
use Rattle.auction_site.specs.Found.{finished}
use Rattle.auction_site.specs.Outcomes.{Offer, new_user, new_item, with_items, registered, category_added, offered, bid_made, with_bid, bought, sold_to, closed, after_close, feedback_given, with_feedback, with_given}
use Rattle.auction_site.specs.Planned.{register_plan, add_category_plan, offer_plan, sell_plan, bid_plan, buy_plan, close_plan, give_feedback_plan}
use Rattle.auction_site.specs.Rules.{register, add_category, sell, sells_too_low, bid, buy, close, give_feedback}
use Rattle.auction_site.proofs.Bounds.{with_bid_is, sold_to_is, after_close_is, with_given_is, with_items_is, with_feedback_is, new_item_is, category_is, feedback_is, new_user_is, name_is, few_item, few_user, few_name, few_category, few_feedback}
use Rattle.auction_site.proofs.Within.{item_within, user_within}
use Rattle.auction_site.proofs.Comes.{Comes, refuses_if_comes, refuses_by_comes, row_comes, no_row_comes, counter_comes}

bid_writes : (rows : List RowWrite) (user now number amount : ℕ) (item : ItemRow) → is_item item ≡ true
    → Comes 40 (through 5 0) rows (Gives (bid_made user now number amount item)) (Ok (bid_made user now number amount item))
unfolding bid_made bid_bytes u64_bytes site_components site_references site_tables
bid_writes rows user now number amount item is =
    rw (few_item (with_bid item user amount) (with_bid_is item user amount is)) refl

pub bid_comes : (user now number amount : ℕ) (rows : List RowWrite)
    → outcome_of site_parts (through 5 0) rows (bid_plan user now number amount) ≡ Some (finished (bid user now number amount rows))
unfolding outcome_of bid_plan bid site_components site_references site_tables
bid_comes user now number amount rows =
    refuses_if_comes 41 (through 5 0) rows (user == 0) sign_in_first _ _ (λ signed.
    row_comes 40 (through 5 0) rows item_of (item_id number) not_there _ _ refl (λ bytes item is.
    refuses_by_comes 40 (through 5 0) rows (bid_refusal item user amount now) _ _ (λ allowed.
    refuses_if_comes 40 (through 5 0) rows (nat_le LAST_BID item.bids) no_more_numbers _ _ (λ numbered.
    bid_writes rows user now number amount item (item_within bytes item is)))))

buy_writes : (rows : List RowWrite) (user number : ℕ) (item : ItemRow) → is_item item ≡ true
    → Comes 40 (through 6 1) rows (Gives (bought user number item)) (Ok (bought user number item))
unfolding bought site_components site_references site_tables
buy_writes rows user number item is = rw (few_item (sold_to item user) (sold_to_is item user is)) refl

pub buy_comes : (user now number : ℕ) (rows : List RowWrite)
    → outcome_of site_parts (through 6 1) rows (buy_plan user now number) ≡ Some (finished (buy user now number rows))
unfolding outcome_of buy_plan buy site_components site_references site_tables
buy_comes user now number rows =
    refuses_if_comes 41 (through 6 1) rows (user == 0) sign_in_first _ _ (λ signed.
    row_comes 40 (through 6 1) rows item_of (item_id number) not_there _ _ refl (λ bytes item is.
    refuses_by_comes 40 (through 6 1) rows (buy_refusal item user now) _ _ (λ allowed.
    buy_writes rows user number item (item_within bytes item is))))

close_writes : (rows : List RowWrite) (number : ℕ) (item : ItemRow) → is_item item ≡ true
    → Comes 40 (through 6 0) rows (Gives (closed number item)) (Ok (closed number item))
unfolding closed site_components site_references site_tables
close_writes rows number item is = rw (few_item (after_close item) (after_close_is item is)) refl

pub close_comes : (user number : ℕ) (rows : List RowWrite)
    → outcome_of site_parts (through 6 0) rows (close_plan user number) ≡ Some (finished (close user number rows))
unfolding outcome_of close_plan close site_components site_references site_tables
close_comes user number rows =
    refuses_if_comes 41 (through 6 0) rows (user == 0) sign_in_first _ _ (λ signed.
    row_comes 40 (through 6 0) rows item_of (item_id number) not_there _ _ refl (λ bytes item is.
    refuses_by_comes 40 (through 6 0) rows (close_refusal item user) _ _ (λ allowed.
    close_writes rows number item (item_within bytes item is))))

feedback_writes : (rows : List RowWrite) (user number : ℕ) (good : Bool) (text : List ℕ) (item : ItemRow) (about : UserRow)
    → is_text 0 200 text ≡ true → is_item item ≡ true → is_user about ≡ true
    → Comes 39 (through 7 0) rows (Gives (feedback_given user number good text item about)) (Ok (feedback_given user number good text item about))
unfolding feedback_given site_components site_references site_tables
feedback_writes rows user number good text item about short is known =
    rw (
      few_feedback (record { from = user; item = number; good = good; text = text }) (feedback_is (record { from = user; item = number; good = good; text = text }) short),
      few_user (with_feedback about good) (with_feedback_is about good known),
      few_item (with_given item user) (with_given_is item user is),
    ) refl

pub give_feedback_comes : (user number : ℕ) (good : Bool) (text : List ℕ) (rows : List RowWrite) → is_text 0 200 text ≡ true
    → outcome_of site_parts (through 7 0) rows (give_feedback_plan user number good text) ≡ Some (finished (give_feedback user number good text rows))
unfolding outcome_of give_feedback_plan give_feedback site_components site_references site_tables
give_feedback_comes user number good text rows short =
    refuses_if_comes 41 (through 7 0) rows (user == 0) sign_in_first _ _ (λ signed.
    row_comes 40 (through 7 0) rows item_of (item_id number) not_there _ _ refl (λ bytes item is.
    refuses_by_comes 40 (through 7 0) rows (feedback_refusal item user) _ _ (λ allowed.
    row_comes 39 (through 7 0) rows user_of (user_id (other_side item user)) not_there _ _ refl (λ told about known.
    refuses_if_comes 39 (through 7 0) rows (nat_le LAST_FEEDBACK (about.good + about.bad)) no_more_numbers _ _ (λ numbered.
    feedback_writes rows user number good text item about short (item_within bytes item is) (user_within told about known))))))

category_writes : (rows : List RowWrite) (name : List ℕ) (category : ℕ) → is_text 1 40 name ≡ true
    → Comes 40 None rows (Gives (category_added name category)) (Ok (category_added name category))
unfolding category_added counter_bytes u64_bytes site_components site_references site_tables
category_writes rows name category short =
    rw (few_category (record { name = name }) (category_is (record { name = name }) short)) refl

pub add_category_comes : (user : ℕ) (name : List ℕ) (rows : List RowWrite) → is_text 1 40 name ≡ true
    → outcome_of site_parts None rows (add_category_plan user name) ≡ Some (finished (add_category user name rows))
unfolding outcome_of add_category_plan add_category site_components site_references site_tables
add_category_comes user name rows short =
    refuses_if_comes 41 None rows (user == 0) sign_in_first _ _ (λ signed.
    refuses_if_comes 41 None rows (not (user == CATEGORY_EDITOR)) not_allowed _ _ (λ allowed.
    counter_comes 40 None rows categories_counter _ _ refl (λ categories.
    refuses_if_comes 40 None rows (nat_le LAST_NUMBER categories) no_more_numbers _ _ (λ numbered.
    category_writes rows name (categories + 1) short))))

register_writes : (rows : List RowWrite) (name password : List ℕ) (fresh now user : ℕ) → is_user_name name ≡ true
    → Comes 39 None rows (Gives (registered name password fresh now user)) (Ok (registered name password fresh now user))
unfolding registered counter_bytes u64_bytes name_id site_components site_references site_tables
register_writes rows name password fresh now user short =
    rw (
      few_user (new_user name password (u64_bytes fresh)) (new_user_is name password fresh short),
      few_name (record { name = name; user = user }) (name_is (record { name = name; user = user }) short),
    ) refl

pub register_comes : (name password : List ℕ) (fresh now : ℕ) (rows : List RowWrite) → is_user_name name ≡ true
    → outcome_of site_parts None rows (register_plan name password fresh now) ≡ Some (finished (register name password fresh now rows))
unfolding outcome_of register_plan register site_components site_references site_tables name_id
register_comes name password fresh now rows short =
    no_row_comes 40 None rows name_of (name_id name) name_taken _ _ refl (
    counter_comes 39 None rows users_counter _ _ refl (λ users.
    refuses_if_comes 39 None rows (nat_le LAST_NUMBER users) no_more_numbers _ _ (λ numbered.
    register_writes rows name password fresh now (users + 1) short)))

-- the counter of items is not that of a category
other_counter : (category : ℕ) → 2 == 2 ^ 32 + category ≡ false
other_counter category = grind (arith, nat_tests)

sell_writes : (rows : List RowWrite) (seller now : ℕ) (offer : Offer) (item entry : ℕ) (user : UserRow)
    → is_text 1 80 offer.title ≡ true → is_user user ≡ true
    → Comes 37 None rows (Gives (offered seller now offer item entry user)) (Ok (offered seller now offer item entry user))
unfolding offered counter_bytes entry_bytes own_item_bytes u64_bytes site_components site_references site_tables
sell_writes rows seller now offer item entry user short known =
    rw (
      few_item (new_item seller now offer) (new_item_is seller now offer short),
      few_user (with_items user (user.items + 1)) (with_items_is user (user.items + 1) known),
      other_counter offer.category,
    ) refl

pub sell_comes : (seller now : ℕ) (offer : Offer) (rows : List RowWrite) → is_text 1 80 offer.title ≡ true
    → outcome_of site_parts None rows (sell_plan seller now offer) ≡ Some (finished (sell seller now offer rows))
unfolding outcome_of sell_plan offer_plan sell site_components site_references site_tables
sell_comes seller now offer rows short =
    refuses_if_comes 41 None rows (seller == 0) sign_in_first _ _ (λ signed.
    refuses_if_comes 41 None rows (sells_too_low offer) bad_buy_now _ _ (λ priced.
    row_comes 40 None rows category_of (category_id offer.category) no_such_category _ _ refl (λ told category there.
    counter_comes 39 None rows items_counter _ _ refl (λ items.
    refuses_if_comes 39 None rows (nat_le LAST_NUMBER items) no_more_numbers _ _ (λ numbered.
    counter_comes 38 None rows (category_counter offer.category) _ _ refl (λ entries.
    refuses_if_comes 38 None rows (nat_le LAST_NUMBER entries) no_more_numbers _ _ (λ entered.
    row_comes 37 None rows user_of (user_id seller) not_there _ _ refl (λ bytes user known.
    refuses_if_comes 37 None rows (nat_le LAST_NUMBER user.items) no_more_numbers _ _ (λ owned.
    sell_writes rows seller now offer (items + 1) (entries + 1) user short (user_within bytes user known))))))))))
