-- Each write of a call spells a row of its table, in bytes.
use Rattle.std.proofs.Common.{◌≡◌, ℕ, ◌+◌, ◌-◌, ◌*◌, ◌^◌, ◌==◌, ◌<◌, nat_le, not, min, map, bytes_eq, Bool, true, List, Ok, Err, refl, arith}
use Rattle.std.proofs.lemmas.Bool.{and_parts}
use Rattle.crash_base.specs.declared.rows.RowWrite.{RowWrite}
use Rattle.journal_model.specs.Snapshots.{table_rows}
use Rattle.action_plans.specs.declared.plan.Outcome.{Outcome}
use Rattle.auction_calls.specs.Calls.{is_id, is_text, is_user_name, is_between, is_action, is_call}
use Rattle.auction_calls.specs.declared.action.Action.{Action}
use Rattle.auction_calls.specs.declared.action.Action.TheVariants as action
use Rattle.auction_calls.specs.declared.action.ActionCall.{ActionCall}
use Rattle.auction_rows.specs.declared.rows.TheConstants.{CATEGORY_TABLE}
use Rattle.auction_rows.specs.Ids.{user_id, name_id, users_counter, items_counter, categories_counter, category_counter, item_id, category_id}
use Rattle.auction_rows.specs.Reading.{user_of, name_of, item_of, category_of}
use Rattle.auction_rules.specs.Rules.{bid_refusal, buy_refusal, close_refusal, feedback_refusal, other_side}
use Rattle.auction_site.specs.declared.limits.TheConstants.{LAST_NUMBER, LAST_BID, LAST_FEEDBACK, PAGE_ITEMS, CATEGORY_EDITOR}
use Rattle.auction_site.specs.Actions.{offer_of, meaning, site}
use Rattle.auction_site.specs.Answers.{not_there, sign_in_first, no_more_numbers, name_taken, wrong_password, not_allowed, bad_buy_now, no_such_category}
use Rattle.auction_site.specs.Found.{Found, and_then, finished, refused_if, refused_by, row_or, the_row, no_row, the_counter, collected}
use Rattle.auction_site.specs.Numbers.{count_up, count_down}
use Rattle.auction_site.specs.Outcomes.{Offer, digest_of}
use Rattle.auction_site.specs.Rules.{register, sign_in, category_line, categories, add_category, entry_line, browse, show_item, show_user, own_item_line, show_own_items, sells_too_low, sell, bid, buy, close, give_feedback}
use Rattle.auction_site.specs.Written.{HaveBytes}
use Rattle.auction_site.proofs.Exactly.{has_next, has_small_next}
use Rattle.auction_site.proofs.Finding.{if_found, row_found}
use Rattle.auction_site.proofs.Ranges.{call_action, call_numbers, between, IsOffer, offer_is, new_item_range}
use Rattle.auction_site.proofs.RowWrites.{EachSpells, user_in_bounds, item_in_bounds, registered_writes, category_writes, offered_writes, bid_writes, bought_writes, closed_writes, feedback_writes}

-- what comes of this writes rows
abbrev Writes : Found Outcome → Type 0
Writes found = EachSpells (finished found).writes

-- a refusal writes none
then_writes : {A : Type 0} (found : Found A) (g : A → Found Outcome) → ((x : A) → found ≡ Ok x → Writes (g x)) → Writes (and_then found g)
then_writes (Ok x) g later = later x refl
then_writes (Err done) g later = tt

register_writes : (name password : List ℕ) (fresh now : ℕ) (rows : List RowWrite) → is_user_name name ≡ true → Writes (register name password fresh now rows)
unfolding register
register_writes name password fresh now rows is =
    then_writes (no_row rows name_of (name_id name) name_taken) _ (λ free f1.
    then_writes (the_counter rows users_counter) _ (λ users f2.
    then_writes (refused_if (nat_le LAST_NUMBER users) no_more_numbers) _ (λ numbered f3.
    let few = has_next users (if_found (nat_le LAST_NUMBER users) no_more_numbers numbered f3) in
    registered_writes name password fresh now (users + 1) is (omega (arith, few)))))

add_category_writes : (user : ℕ) (name : List ℕ) (rows : List RowWrite) → is_text 1 40 name ≡ true → Writes (add_category user name rows)
unfolding add_category
add_category_writes user name rows is =
    then_writes (refused_if (user == 0) sign_in_first) _ (λ signed f1.
    then_writes (refused_if (not (user == CATEGORY_EDITOR)) not_allowed) _ (λ allowed f2.
    then_writes (the_counter rows categories_counter) _ (λ categories f3.
    then_writes (refused_if (nat_le LAST_NUMBER categories) no_more_numbers) _ (λ numbered f4.
    let few = has_next categories (if_found (nat_le LAST_NUMBER categories) no_more_numbers numbered f4) in
    category_writes name (categories + 1) is (omega (arith, few))))))

sign_in_writes : (name password : List ℕ) (now : ℕ) (rows : List RowWrite) → Writes (sign_in name password now rows)
unfolding sign_in
sign_in_writes name password now rows =
    then_writes (row_or rows name_of (name_id name) wrong_password) _ (λ found f1.
    then_writes (refused_if (not (bytes_eq found.name name)) wrong_password) _ (λ named f2.
    then_writes (row_or rows user_of (user_id found.user) wrong_password) _ (λ user f3.
    then_writes (refused_if (not (bytes_eq (digest_of user.salt password) user.digest)) wrong_password) _ (λ known f4. tt))))

categories_writes : (rows : List RowWrite) → Writes (categories rows)
unfolding categories
categories_writes rows = then_writes (collected (map category_line (table_rows CATEGORY_TABLE rows))) _ (λ links f1. tt)

browse_writes : (category page : ℕ) (rows : List RowWrite) → Writes (browse category page rows)
unfolding browse
browse_writes category page rows =
    then_writes (the_row rows category_of (category_id category)) _ (λ found f1.
    then_writes (the_counter rows (category_counter category)) _ (λ entries f2.
    then_writes (collected (map (entry_line rows category)
    (count_up (PAGE_ITEMS * page + 1) (min PAGE_ITEMS (entries - PAGE_ITEMS * page))))) _ (λ links f3. tt)))

show_item_writes : (number : ℕ) (rows : List RowWrite) → Writes (show_item number rows)
unfolding show_item
show_item_writes number rows =
    then_writes (the_row rows item_of (item_id number)) _ (λ item f1.
    then_writes (the_row rows user_of (user_id item.seller)) _ (λ seller f2. tt))

show_user_writes : (number : ℕ) (rows : List RowWrite) → Writes (show_user number rows)
unfolding show_user
show_user_writes number rows = then_writes (the_row rows user_of (user_id number)) _ (λ user f1. tt)

show_own_items_writes : (number : ℕ) (rows : List RowWrite) → Writes (show_own_items number rows)
unfolding show_own_items
show_own_items_writes number rows =
    then_writes (refused_if (number == 0) sign_in_first) _ (λ signed f1.
    then_writes (the_row rows user_of (user_id number)) _ (λ user f2.
    then_writes (collected (map (own_item_line rows number) (count_down user.items (min PAGE_ITEMS user.items)))) _ (λ links f3. tt)))

sell_writes : (seller now : ℕ) (offer : Offer) (rows : List RowWrite) → HaveBytes rows → seller < 2 ^ 32 → now < 2 ^ 62 → IsOffer offer
    → Writes (sell seller now offer rows)
unfolding sell
sell_writes seller now offer rows all low early is =
    then_writes (refused_if (seller == 0) sign_in_first) _ (λ signed f1.
    then_writes (refused_if (sells_too_low offer) bad_buy_now) _ (λ priced f2.
    then_writes (row_or rows category_of (category_id offer.category) no_such_category) _ (λ category f3.
    then_writes (the_counter rows items_counter) _ (λ items f4.
    then_writes (refused_if (nat_le LAST_NUMBER items) no_more_numbers) _ (λ numbered f5.
    then_writes (the_counter rows (category_counter offer.category)) _ (λ entries f6.
    then_writes (refused_if (nat_le LAST_NUMBER entries) no_more_numbers) _ (λ entered f7.
    then_writes (the_row rows user_of (user_id seller)) _ (λ user f8.
    then_writes (refused_if (nat_le LAST_NUMBER user.items) no_more_numbers) _ (λ owned f9.
    let few_items = has_next items (if_found (nat_le LAST_NUMBER items) no_more_numbers numbered f5) in
    let few_entries = has_next entries (if_found (nat_le LAST_NUMBER entries) no_more_numbers entered f7) in
    let few_own = has_next user.items (if_found (nat_le LAST_NUMBER user.items) no_more_numbers owned f9) in
    offered_writes seller now offer (items + 1) (entries + 1) user (new_item_range seller now offer low early is)
    (omega (arith, few_items)) (omega (arith, few_entries))
    (user_in_bounds rows (user_id seller) user all (row_found rows user_of (user_id seller) not_there user f8)) (omega (arith, few_own)))))))))))

bid_call_writes : (user now number amount : ℕ) (rows : List RowWrite) → HaveBytes rows → user < 2 ^ 32 → now < 2 ^ 62 → amount < 2 ^ 64
    → Writes (bid user now number amount rows)
unfolding bid
bid_call_writes user now number amount rows all low early less =
    then_writes (refused_if (user == 0) sign_in_first) _ (λ signed f1.
    then_writes (the_row rows item_of (item_id number)) _ (λ item f2.
    then_writes (refused_by (bid_refusal item user amount now)) _ (λ allowed f3.
    then_writes (refused_if (nat_le LAST_BID item.bids) no_more_numbers) _ (λ numbered f4.
    let few = has_small_next item.bids (if_found (nat_le LAST_BID item.bids) no_more_numbers numbered f4) in
    bid_writes user now number amount item
    (item_in_bounds rows (item_id number) item all (row_found rows item_of (item_id number) not_there item f2))
    low (omega (arith, early)) less (omega (arith, few))))))

buy_writes : (user now number : ℕ) (rows : List RowWrite) → HaveBytes rows → user < 2 ^ 32 → Writes (buy user now number rows)
unfolding buy
buy_writes user now number rows all low =
    then_writes (refused_if (user == 0) sign_in_first) _ (λ signed f1.
    then_writes (the_row rows item_of (item_id number)) _ (λ item f2.
    then_writes (refused_by (buy_refusal item user now)) _ (λ allowed f3.
    bought_writes user number item
    (item_in_bounds rows (item_id number) item all (row_found rows item_of (item_id number) not_there item f2)) low)))

close_writes : (user number : ℕ) (rows : List RowWrite) → HaveBytes rows → Writes (close user number rows)
unfolding close
close_writes user number rows all =
    then_writes (refused_if (user == 0) sign_in_first) _ (λ signed f1.
    then_writes (the_row rows item_of (item_id number)) _ (λ item f2.
    then_writes (refused_by (close_refusal item user)) _ (λ allowed f3.
    closed_writes number item
    (item_in_bounds rows (item_id number) item all (row_found rows item_of (item_id number) not_there item f2)))))

give_feedback_writes : (user number : ℕ) (good : Bool) (text : List ℕ) (rows : List RowWrite) → HaveBytes rows → is_text 0 200 text ≡ true
    → user < 2 ^ 32 → number < 2 ^ 32 → Writes (give_feedback user number good text rows)
unfolding give_feedback
give_feedback_writes user number good text rows all is low item_low =
    then_writes (refused_if (user == 0) sign_in_first) _ (λ signed f1.
    then_writes (the_row rows item_of (item_id number)) _ (λ item f2.
    then_writes (refused_by (feedback_refusal item user)) _ (λ allowed f3.
    then_writes (the_row rows user_of (user_id (other_side item user))) _ (λ about f4.
    then_writes (refused_if (nat_le LAST_FEEDBACK (about.good + about.bad)) no_more_numbers) _ (λ numbered f5.
    let few = has_small_next (about.good + about.bad) (if_found (nat_le LAST_FEEDBACK (about.good + about.bad)) no_more_numbers numbered f5) in
    feedback_writes user number good text item about is low item_low
    (item_in_bounds rows (item_id number) item all (row_found rows item_of (item_id number) not_there item f2))
    (user_in_bounds rows (user_id (other_side item user)) about all (row_found rows user_of (user_id (other_side item user)) not_there about f4))
    (omega (arith, few)))))))

-- an action in its ranges, by a call whose numbers are in theirs
action_writes : (call : ActionCall) (a : Action) (rows : List RowWrite) → call.user < 2 ^ 32 → call.now.0 < 2 ^ 62 → is_action a ≡ true
    → HaveBytes rows → Writes (meaning call a rows)
action_writes call action.Home rows low early is all = tt
action_writes call (action.Register name password) rows low early is all =
    register_writes name password call.fresh call.now.0 rows (and_parts (is_user_name name) (is_text 1 72 password) is).0
action_writes call (action.SignIn name password) rows low early is all = sign_in_writes name password call.now.0 rows
action_writes call action.SignOut rows low early is all = tt
action_writes call action.Categories rows low early is all = categories_writes rows
action_writes call (action.AddCategory name) rows low early is all = add_category_writes call.user name rows is
action_writes call (action.Browse category page) rows low early is all = browse_writes category page rows
action_writes call (action.Item item) rows low early is all = show_item_writes item rows
action_writes call (action.User user) rows low early is all = show_user_writes user rows
action_writes call action.About rows low early is all = show_own_items_writes call.user rows
action_writes call (action.Sell title category start buy_now hours) rows low early is all =
    let offer : Offer = offer_of title category start buy_now hours in
    sell_writes call.user call.now.0 offer rows all low early (offer_is offer is)
action_writes call (action.Bid item amount) rows low early is all =
    let most = (between 1 4000000000 amount (and_parts (is_id item) (is_between 1 4000000000 amount) is).1).1 in
    bid_call_writes call.user call.now.0 item amount rows all low early (omega (arith, most))
action_writes call (action.Buy item) rows low early is all = buy_writes call.user call.now.0 item rows all low
action_writes call (action.Close item) rows low early is all = close_writes call.user item rows all
action_writes call (action.Feedback item good text) rows low early is all =
    let two = and_parts (is_id item) (is_text 0 200 text) is in
    let most = (between 1 4294967295 item two.0).1 in
    give_feedback_writes call.user item good text rows all two.1 low (omega (arith, most))
action_writes call (action.Form kind) rows low early is all = tt

pub call_writes : (call : ActionCall) (rows : List RowWrite) → is_call call ≡ true → HaveBytes rows → EachSpells (site call rows).writes
call_writes call rows is all =
    let numbers = call_numbers call is in
    action_writes call call.action rows numbers.user numbers.now (call_action call is) all
