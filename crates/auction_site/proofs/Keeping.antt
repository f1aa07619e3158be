-- Each action leaves coherent rows coherent.
use Rattle.std.proofs.Common.{◌≡◌, ℕ, ◌+◌, ◌-◌, ◌*◌, ◌^◌, ◌==◌, ◌<◌, nat_le, not, min, map, bytes_eq, Bool, true, false, List, Some, refl, arith}
use Rattle.std.proofs.lemmas.Bool.{and_parts}
use Rattle.std.proofs.lemmas.Bool.Decides.{nat_tests}
use Rattle.crash_base.specs.declared.rows.RowWrite.{RowWrite}
use Rattle.crash_base.specs.Rows.{put_all}
use Rattle.journal_model.specs.Snapshots.{table_rows}
use Rattle.auction_calls.specs.Calls.{is_id, is_between, is_action, is_call}
use Rattle.auction_calls.specs.declared.action.Action.{Action}
use Rattle.auction_calls.specs.declared.action.Action.TheVariants as action
use Rattle.auction_calls.specs.declared.action.ActionCall.{ActionCall}
use Rattle.auction_rows.specs.declared.rows.TheConstants.{CATEGORY_TABLE}
use Rattle.auction_rows.specs.Ids.{user_id, name_id, users_counter, items_counter, categories_counter, category_counter, item_id, category_id}
use Rattle.auction_rows.specs.Reading.{user_of, name_of, item_of, category_of}
use Rattle.auction_rules.specs.Rules.{bid_refusal, buy_refusal, close_refusal, feedback_refusal, other_side}
use Rattle.auction_site.specs.declared.limits.TheConstants.{LAST_NUMBER, LAST_BID, LAST_FEEDBACK, PAGE_ITEMS, CATEGORY_EDITOR}
use Rattle.auction_site.specs.Actions.{offer_of, meaning, site}
use Rattle.auction_site.specs.Answers.{not_there, sign_in_first, no_more_numbers, name_taken, wrong_password, not_allowed, bad_buy_now, no_such_category}
use Rattle.auction_site.specs.Coherent.{row_at, item_count, IsCoherent, IsCoherentItem}
use Rattle.auction_site.specs.Found.{refused_if, refused_by, row_or, the_row, no_row, the_counter, collected}
use Rattle.auction_site.specs.Numbers.{count_up, count_down}
use Rattle.auction_site.specs.Outcomes.{Offer, digest_of, new_item, with_given, sold_to, after_close, registered, category_added, offered, bid_made, bought, closed, feedback_given}
use Rattle.auction_site.specs.Rules.{register, sign_in, category_line, categories, add_category, entry_line, browse, show_item, show_user, own_item_line, show_own_items, sells_too_low, sell, bid, buy, close, give_feedback}
use Rattle.auction_site.proofs.Finding.{Leaves, then_leaves, if_found, by_found, row_found, counter_found}
use Rattle.auction_site.proofs.Coherence.{the_item, same_coherent}
use Rattle.auction_site.proofs.Changes.{replaced, bid_added, item_added}
use Rattle.auction_site.proofs.Ranges.{call_action, call_numbers, between, IsOffer, offer_is, new_item_range, with_bid_range, sold_to_range, with_given_range, after_close_range, after_close_same, bid_allowed}
use Rattle.auction_site.proofs.Put.{registered_same, category_same, bought_replaces, closed_replaces, given_replaces, bid_row, bid_adds, offer_adds}

register_keeps : (name password : List ℕ) (fresh now : ℕ) (rows : List RowWrite) → IsCoherent rows → Leaves rows (register name password fresh now rows)
unfolding register
register_keeps name password fresh now rows coherent =
    then_leaves rows coherent (no_row rows name_of (name_id name) name_taken) _ (λ free f1.
    then_leaves rows coherent (the_counter rows users_counter) _ (λ users f2.
    then_leaves rows coherent (refused_if (nat_le LAST_NUMBER users) no_more_numbers) _ (λ numbered f3.
    same_coherent rows (put_all (registered name password fresh now (users + 1)).writes rows)
    (registered_same rows name password fresh now (users + 1)) coherent)))

add_category_keeps : (user : ℕ) (name : List ℕ) (rows : List RowWrite) → IsCoherent rows → Leaves rows (add_category user name rows)
unfolding add_category
add_category_keeps user name rows coherent =
    then_leaves rows coherent (refused_if (user == 0) sign_in_first) _ (λ signed f1.
    then_leaves rows coherent (refused_if (not (user == CATEGORY_EDITOR)) not_allowed) _ (λ allowed f2.
    then_leaves rows coherent (the_counter rows categories_counter) _ (λ categories f3.
    then_leaves rows coherent (refused_if (nat_le LAST_NUMBER categories) no_more_numbers) _ (λ numbered f4.
    same_coherent rows (put_all (category_added name (categories + 1)).writes rows) (category_same rows name (categories + 1)) coherent))))

sign_in_keeps : (name password : List ℕ) (now : ℕ) (rows : List RowWrite) → IsCoherent rows → Leaves rows (sign_in name password now rows)
unfolding sign_in
sign_in_keeps name password now rows coherent =
    then_leaves rows coherent (row_or rows name_of (name_id name) wrong_password) _ (λ found f1.
    then_leaves rows coherent (refused_if (not (bytes_eq found.name name)) wrong_password) _ (λ named f2.
    then_leaves rows coherent (row_or rows user_of (user_id found.user) wrong_password) _ (λ user f3.
    then_leaves rows coherent (refused_if (not (bytes_eq (digest_of user.salt password) user.digest)) wrong_password) _ (λ known f4. coherent))))

categories_keeps : (rows : List RowWrite) → IsCoherent rows → Leaves rows (categories rows)
unfolding categories
categories_keeps rows coherent =
    then_leaves rows coherent (collected (map category_line (table_rows CATEGORY_TABLE rows))) _ (λ links f1. coherent)

browse_keeps : (category page : ℕ) (rows : List RowWrite) → IsCoherent rows → Leaves rows (browse category page rows)
unfolding browse
browse_keeps category page rows coherent =
    then_leaves rows coherent (the_row rows category_of (category_id category)) _ (λ found f1.
    then_leaves rows coherent (the_counter rows (category_counter category)) _ (λ entries f2.
    then_leaves rows coherent (collected (map (entry_line rows category)
    (count_up (PAGE_ITEMS * page + 1) (min PAGE_ITEMS (entries - PAGE_ITEMS * page))))) _ (λ links f3. coherent)))

show_item_keeps : (number : ℕ) (rows : List RowWrite) → IsCoherent rows → Leaves rows (show_item number rows)
unfolding show_item
show_item_keeps number rows coherent =
    then_leaves rows coherent (the_row rows item_of (item_id number)) _ (λ item f1.
    then_leaves rows coherent (the_row rows user_of (user_id item.seller)) _ (λ seller f2. coherent))

show_user_keeps : (number : ℕ) (rows : List RowWrite) → IsCoherent rows → Leaves rows (show_user number rows)
unfolding show_user
show_user_keeps number rows coherent = then_leaves rows coherent (the_row rows user_of (user_id number)) _ (λ user f1. coherent)

show_own_items_keeps : (number : ℕ) (rows : List RowWrite) → IsCoherent rows → Leaves rows (show_own_items number rows)
unfolding show_own_items
show_own_items_keeps number rows coherent =
    then_leaves rows coherent (refused_if (number == 0) sign_in_first) _ (λ signed f1.
    then_leaves rows coherent (the_row rows user_of (user_id number)) _ (λ user f2.
    then_leaves rows coherent (collected (map (own_item_line rows number) (count_down user.items (min PAGE_ITEMS user.items)))) _ (λ links f3. coherent)))

sell_keeps : (seller now : ℕ) (offer : Offer) (rows : List RowWrite) → IsCoherent rows → seller < 2 ^ 32 → now < 2 ^ 62 → IsOffer offer
    → Leaves rows (sell seller now offer rows)
unfolding sell
sell_keeps seller now offer rows coherent low early is =
    then_leaves rows coherent (refused_if (seller == 0) sign_in_first) _ (λ signed f1.
    then_leaves rows coherent (refused_if (sells_too_low offer) bad_buy_now) _ (λ priced f2.
    then_leaves rows coherent (row_or rows category_of (category_id offer.category) no_such_category) _ (λ category f3.
    then_leaves rows coherent (the_counter rows items_counter) _ (λ items f4.
    then_leaves rows coherent (refused_if (nat_le LAST_NUMBER items) no_more_numbers) _ (λ numbered f5.
    then_leaves rows coherent (the_counter rows (category_counter offer.category)) _ (λ entries f6.
    then_leaves rows coherent (refused_if (nat_le LAST_NUMBER entries) no_more_numbers) _ (λ entered f7.
    then_leaves rows coherent (the_row rows user_of (user_id seller)) _ (λ user f8.
    then_leaves rows coherent (refused_if (nat_le LAST_NUMBER user.items) no_more_numbers) _ (λ owned f9.
    let few : nat_le LAST_NUMBER items ≡ false = if_found (nat_le LAST_NUMBER items) no_more_numbers numbered f5 in
    let count : item_count rows ≡ items = counter_found rows items_counter items f4 in
    let next : item_count rows + 1 ≡ items + 1 = omega (arith, count) in
    let small : items + 1 < 2 ^ 64 = grind (arith, nat_tests) in
    item_added rows (put_all (offered seller now offer (items + 1) (entries + 1) user).writes rows) (items + 1) (new_item seller now offer) coherent
    next small (new_item_range seller now offer low early is) (refl, refl, refl)
    (offer_adds rows seller now offer (items + 1) (entries + 1) user))))))))))

bid_keeps : (user now number amount : ℕ) (rows : List RowWrite) → IsCoherent rows → user < 2 ^ 32 → now < 2 ^ 62 → amount < 2 ^ 64
    → Leaves rows (bid user now number amount rows)
unfolding bid
bid_keeps user now number amount rows coherent low early less =
    then_leaves rows coherent (refused_if (user == 0) sign_in_first) _ (λ signed f1.
    then_leaves rows coherent (the_row rows item_of (item_id number)) _ (λ item f2.
    then_leaves rows coherent (refused_by (bid_refusal item user amount now)) _ (λ allowed f3.
    then_leaves rows coherent (refused_if (nat_le LAST_BID item.bids) no_more_numbers) _ (λ numbered f4.
    let is : row_at rows item_of (item_id number) ≡ Some item = row_found rows item_of (item_id number) not_there item f2 in
    let test : nat_le LAST_BID item.bids ≡ false = if_found (nat_le LAST_BID item.bids) no_more_numbers numbered f4 in
    let few : item.bids < LAST_BID = grind (arith, nat_tests) in
    let more : item.best < amount = bid_allowed item user amount now (by_found (bid_refusal item user amount now) allowed f3) in
    let known : IsCoherentItem rows number item = the_item rows number item coherent is in
    bid_added rows (put_all (bid_made user now number amount item).writes rows) number item (bid_row user amount now) coherent is
    (with_bid_range item user amount known.in_range low less few)
    (record { bidder = low; amount = less; moment = omega (arith, early) }) few more
    (bid_adds rows user now number amount item)))))

buy_keeps : (user now number : ℕ) (rows : List RowWrite) → IsCoherent rows → user < 2 ^ 32 → Leaves rows (buy user now number rows)
unfolding buy
buy_keeps user now number rows coherent low =
    then_leaves rows coherent (refused_if (user == 0) sign_in_first) _ (λ signed f1.
    then_leaves rows coherent (the_row rows item_of (item_id number)) _ (λ item f2.
    then_leaves rows coherent (refused_by (buy_refusal item user now)) _ (λ allowed f3.
    let is : row_at rows item_of (item_id number) ≡ Some item = row_found rows item_of (item_id number) not_there item f2 in
    let known : IsCoherentItem rows number item = the_item rows number item coherent is in
    replaced rows (put_all (bought user number item).writes rows) number item (sold_to item user) coherent is
    (sold_to_range item user known.in_range low) refl refl refl (bought_replaces rows user number item))))

close_keeps : (user number : ℕ) (rows : List RowWrite) → IsCoherent rows → Leaves rows (close user number rows)
unfolding close
close_keeps user number rows coherent =
    then_leaves rows coherent (refused_if (user == 0) sign_in_first) _ (λ signed f1.
    then_leaves rows coherent (the_row rows item_of (item_id number)) _ (λ item f2.
    then_leaves rows coherent (refused_by (close_refusal item user)) _ (λ allowed f3.
    let is : row_at rows item_of (item_id number) ≡ Some item = row_found rows item_of (item_id number) not_there item f2 in
    let known : IsCoherentItem rows number item = the_item rows number item coherent is in
    let same = after_close_same item in
    replaced rows (put_all (closed number item).writes rows) number item (after_close item) coherent is
    (after_close_range item known.in_range) same.bids same.best same.bidder (closed_replaces rows number item))))

give_feedback_keeps : (user number : ℕ) (good : Bool) (text : List ℕ) (rows : List RowWrite) → IsCoherent rows
    → Leaves rows (give_feedback user number good text rows)
unfolding give_feedback
give_feedback_keeps user number good text rows coherent =
    then_leaves rows coherent (refused_if (user == 0) sign_in_first) _ (λ signed f1.
    then_leaves rows coherent (the_row rows item_of (item_id number)) _ (λ item f2.
    then_leaves rows coherent (refused_by (feedback_refusal item user)) _ (λ allowed f3.
    then_leaves rows coherent (the_row rows user_of (user_id (other_side item user))) _ (λ about f4.
    then_leaves rows coherent (refused_if (nat_le LAST_FEEDBACK (about.good + about.bad)) no_more_numbers) _ (λ numbered f5.
    let is : row_at rows item_of (item_id number) ≡ Some item = row_found rows item_of (item_id number) not_there item f2 in
    let known : IsCoherentItem rows number item = the_item rows number item coherent is in
    replaced rows (put_all (feedback_given user number good text item about).writes rows) number item (with_given item user) coherent is
    (with_given_range item user known.in_range) refl refl refl (given_replaces rows user number good text item about))))))

-- an action in its ranges, by a call whose numbers are in theirs
action_keeps : (call : ActionCall) (a : Action) (rows : List RowWrite) → call.user < 2 ^ 32 → call.now.0 < 2 ^ 62 → is_action a ≡ true
    → IsCoherent rows → Leaves rows (meaning call a rows)
action_keeps call action.Home rows low early is coherent = coherent
action_keeps call (action.Register name password) rows low early is coherent = register_keeps name password call.fresh call.now.0 rows coherent
action_keeps call (action.SignIn name password) rows low early is coherent = sign_in_keeps name password call.now.0 rows coherent
action_keeps call action.SignOut rows low early is coherent = coherent
action_keeps call action.Categories rows low early is coherent = categories_keeps rows coherent
action_keeps call (action.AddCategory name) rows low early is coherent = add_category_keeps call.user name rows coherent
action_keeps call (action.Browse category page) rows low early is coherent = browse_keeps category page rows coherent
action_keeps call (action.Item item) rows low early is coherent = show_item_keeps item rows coherent
action_keeps call (action.User user) rows low early is coherent = show_user_keeps user rows coherent
action_keeps call action.About rows low early is coherent = show_own_items_keeps call.user rows coherent
action_keeps call (action.Sell title category start buy_now hours) rows low early is coherent =
    let offer : Offer = offer_of title category start buy_now hours in
    sell_keeps call.user call.now.0 offer rows coherent low early (offer_is offer is)
action_keeps call (action.Bid item amount) rows low early is coherent =
    let most = (between 1 4000000000 amount (and_parts (is_id item) (is_between 1 4000000000 amount) is).1).1 in
    bid_keeps call.user call.now.0 item amount rows coherent low early (omega (arith, most))
action_keeps call (action.Buy item) rows low early is coherent = buy_keeps call.user call.now.0 item rows coherent low
action_keeps call (action.Close item) rows low early is coherent = close_keeps call.user item rows coherent
action_keeps call (action.Feedback item good text) rows low early is coherent = give_feedback_keeps call.user item good text rows coherent
action_keeps call (action.Form kind) rows low early is coherent = coherent

-- a call leaves coherent rows coherent
pub call_keeps : (call : ActionCall) (rows : List RowWrite) → is_call call ≡ true → IsCoherent rows → IsCoherent (put_all (site call rows).writes rows)
call_keeps call rows is coherent =
    let numbers = call_numbers call is in
    action_keeps call call.action rows numbers.user numbers.now (call_action call is) coherent
