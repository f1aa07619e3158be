-- Each refusal, and each action that neither signs in nor out, leaves the session as it is.
use Rattle.std.proofs.Common.{◌≡◌, ℕ, ◌+◌, ◌*◌, ◌-◌, ◌==◌, nat_le, not, Bool, true, false, List, [], ◌∷◌, map, min, Option, Some, None, Ok, Err, refl, subst}
use Rattle.std.specs.Str.{bytes_eq}
use Rattle.crash_base.specs.declared.row_id.RowId.{RowId}
use Rattle.crash_base.specs.declared.rows.RowWrite.{RowWrite}
use Rattle.crash_base.specs.Rows.{row_in}
use Rattle.journal_model.specs.declared.entry.DoneText.{DoneText}
use Rattle.journal_model.specs.declared.entry.SessionChange.TheVariants.{Keep}
use Rattle.journal_model.specs.Snapshots.{table_rows}
use Rattle.action_plans.specs.declared.plan.Outcome.{Outcome}
use Rattle.auction_calls.specs.declared.action.Action.{Action}
use Rattle.auction_calls.specs.declared.action.Action.TheVariants as action
use Rattle.auction_calls.specs.declared.action.ActionCall.{ActionCall}
use Rattle.auction_calls.specs.declared.action.FormKind.{FormKind}
use Rattle.auction_rows.specs.Reading.{counter_of, user_of, name_of, item_of, category_of, entry_of, own_item_of}
use Rattle.auction_rules.specs.declared.refusal.RuleRefusal.{RuleRefusal}
use Rattle.auction_rules.specs.declared.refusal.RuleRefusal.TheVariants as rule
use Rattle.auction_site.specs.Actions.{meaning, site}
use Rattle.auction_site.specs.Found.{Found, and_then, refused_if, refused_by, spelled, spelled_or, row_or, absent, no_row, counted, the_counter, collected, finished, the_row}
use Rattle.auction_site.specs.Outcomes.{form_shown, digest_of, category_added, Offer, offered, bid_made, bought, closed, feedback_given}
use Rattle.auction_site.specs.Rules.{register, sign_in, categories, add_category, browse, show_item, show_user, show_own_items, sell, bid, buy, close, give_feedback, category_line, entry_line, own_item_line, sells_too_low}
use Rattle.auction_site.specs.Sessions.{leaves_session}
use Rattle.auction_rows.specs.declared.rows.TheConstants.{CATEGORY_TABLE}
use Rattle.auction_rows.specs.Ids.{user_id, name_id, users_counter, items_counter, categories_counter, category_counter, item_id, category_id, entry_id, own_item_id}
use Rattle.auction_rules.specs.Rules.{bid_refusal, buy_refusal, close_refusal, feedback_refusal, other_side}
use Rattle.auction_site.specs.declared.limits.TheConstants.{LAST_NUMBER, LAST_BID, LAST_FEEDBACK, PAGE_ITEMS, CATEGORY_EDITOR}
use Rattle.auction_site.specs.Answers.{sign_in_first, no_more_numbers, name_taken, wrong_password, not_allowed, bad_buy_now, no_such_category, not_there}
use Rattle.auction_site.specs.Numbers.{count_up, count_down}

-- a refusal leaves the session as it is
abbrev Refuses : {A : Type 0} → Found A → Type 0
Refuses (Ok x) = Unit {0}
Refuses (Err done) = done.session ≡ Keep

-- so does an outcome
abbrev Leaves : Found Outcome → Type 0
Leaves (Ok outcome) = outcome.done.session ≡ Keep
Leaves (Err done) = done.session ≡ Keep

then_refuses : {A B : Type 0} (found : Found A) (g : A → Found B) → Refuses found → ((x : A) → Refuses (g x)) → Refuses (and_then found g)
then_refuses (Ok x) g first later = later x
then_refuses (Err done) g first later = first

then_leaves : {A : Type 0} (found : Found A) (g : A → Found Outcome) → Refuses found → ((x : A) → Leaves (g x)) → Leaves (and_then found g)
then_leaves (Ok x) g first later = later x
then_leaves (Err done) g first later = first

if_refuses : (test : Bool) (done : DoneText) → done.session ≡ Keep → Refuses (refused_if test done)
if_refuses true done is = is
if_refuses false done is = tt

by_refuses : (refusal : Option RuleRefusal) → Refuses (refused_by refusal)
by_refuses None = tt
by_refuses (Some rule.AuctionOver) = refl
by_refuses (Some rule.OwnItem) = refl
by_refuses (Some rule.BidTooLow) = refl
by_refuses (Some rule.NotForSale) = refl
by_refuses (Some rule.NotSold) = refl
by_refuses (Some rule.NotAllowed) = refl
by_refuses (Some rule.AlreadyGiven) = refl

spelled_refuses : {T : Type 0} (id : RowId) (row : Option T) → Refuses (spelled id row)
spelled_refuses id None = refl
spelled_refuses id (Some row) = tt

bytes_refuse : {T : Type 0} (spells : List ℕ → Option T) (id : RowId) (missing : DoneText) (bytes : Option (List ℕ)) → missing.session ≡ Keep
    → Refuses (spelled_or spells id missing bytes)
bytes_refuse spells id missing None is = is
bytes_refuse spells id missing (Some bytes) is = spelled_refuses id (spells bytes)

row_refuses : {T : Type 0} (rows : List RowWrite) (spells : List ℕ → Option T) (id : RowId) (missing : DoneText) → missing.session ≡ Keep
    → Refuses (row_or rows spells id missing)
row_refuses rows spells id missing is = bytes_refuse spells id missing (row_in rows id) is

absent_refuses : {T : Type 0} (spells : List ℕ → Option T) (id : RowId) (there : DoneText) (bytes : Option (List ℕ)) → there.session ≡ Keep
    → Refuses (absent spells id there bytes)
absent_refuses spells id there None is = tt
absent_refuses spells id there (Some bytes) is = then_refuses (spelled id (spells bytes)) _ (spelled_refuses id (spells bytes)) (λ row. is)

no_row_refuses : {T : Type 0} (rows : List RowWrite) (spells : List ℕ → Option T) (id : RowId) (there : DoneText) → there.session ≡ Keep
    → Refuses (no_row rows spells id there)
no_row_refuses rows spells id there is = absent_refuses spells id there (row_in rows id) is

counted_refuses : (id : RowId) (bytes : Option (List ℕ)) → Refuses (counted id bytes)
counted_refuses id None = tt
counted_refuses id (Some bytes) = then_refuses (spelled id (counter_of bytes)) _ (spelled_refuses id (counter_of bytes)) (λ counter. tt)

counter_refuses : (rows : List RowWrite) (id : RowId) → Refuses (the_counter rows id)
counter_refuses rows id = counted_refuses id (row_in rows id)

collected_refuses : {A B : Type 0} (f : A → Found B) (xs : List A) → ((x : A) → Refuses (f x)) → Refuses (collected (map f xs))
collected_refuses f [] each = tt
collected_refuses f (x ∷ xs) each =
    then_refuses (f x) _ (each x) (λ y. then_refuses (collected (map f xs)) _ (collected_refuses f xs each) (λ ys. tt))

register_refuses : (name password : List ℕ) (fresh now : ℕ) (rows : List RowWrite) → Refuses (register name password fresh now rows)
unfolding register
register_refuses name password fresh now rows =
    then_refuses (no_row rows name_of (name_id name) name_taken) _ (no_row_refuses rows name_of (name_id name) name_taken refl) (λ free.
    then_refuses (the_counter rows users_counter) _ (counter_refuses rows users_counter) (λ users.
    then_refuses (refused_if (nat_le LAST_NUMBER users) no_more_numbers) _ (if_refuses (nat_le LAST_NUMBER users) no_more_numbers refl) (λ numbered. tt)))

sign_in_refuses : (name password : List ℕ) (now : ℕ) (rows : List RowWrite) → Refuses (sign_in name password now rows)
unfolding sign_in
sign_in_refuses name password now rows =
    then_refuses (row_or rows name_of (name_id name) wrong_password) _ (row_refuses rows name_of (name_id name) wrong_password refl) (λ found.
    then_refuses (refused_if (not (bytes_eq found.name name)) wrong_password) _ (if_refuses (not (bytes_eq found.name name)) wrong_password refl) (λ named.
    then_refuses (row_or rows user_of (user_id found.user) wrong_password) _ (row_refuses rows user_of (user_id found.user) wrong_password refl) (λ user.
    then_refuses (refused_if (not (bytes_eq (digest_of user.salt password) user.digest)) wrong_password) _
    (if_refuses (not (bytes_eq (digest_of user.salt password) user.digest)) wrong_password refl) (λ known. tt))))

categories_leave : (rows : List RowWrite) → Leaves (categories rows)
unfolding categories
categories_leave rows =
    then_leaves (collected (map category_line (table_rows CATEGORY_TABLE rows))) _
    (collected_refuses category_line (table_rows CATEGORY_TABLE rows) (λ row. then_refuses (spelled row.id (category_of row.bytes)) _ (spelled_refuses row.id (category_of row.bytes)) (λ category. tt)))
    (λ links. refl)

add_category_leaves : (user : ℕ) (name : List ℕ) (rows : List RowWrite) → Leaves (add_category user name rows)
unfolding add_category category_added
add_category_leaves user name rows =
    then_leaves (refused_if (user == 0) sign_in_first) _ (if_refuses (user == 0) sign_in_first refl) (λ signed.
    then_leaves (refused_if (not (user == CATEGORY_EDITOR)) not_allowed) _ (if_refuses (not (user == CATEGORY_EDITOR)) not_allowed refl) (λ allowed.
    then_leaves (the_counter rows categories_counter) _ (counter_refuses rows categories_counter) (λ count.
    then_leaves (refused_if (nat_le LAST_NUMBER count) no_more_numbers) _ (if_refuses (nat_le LAST_NUMBER count) no_more_numbers refl) (λ numbered. refl))))

entry_refuses : (rows : List RowWrite) (category n : ℕ) → Refuses (entry_line rows category n)
entry_refuses rows category n =
    then_refuses (the_row rows entry_of (entry_id category n)) _ (row_refuses rows entry_of (entry_id category n) not_there refl) (λ entry.
    then_refuses (the_row rows item_of (item_id entry.item)) _ (row_refuses rows item_of (item_id entry.item) not_there refl) (λ item. tt))

browse_leaves : (category page : ℕ) (rows : List RowWrite) → Leaves (browse category page rows)
unfolding browse
browse_leaves category page rows =
    then_leaves (the_row rows category_of (category_id category)) _ (row_refuses rows category_of (category_id category) not_there refl) (λ found.
    then_leaves (the_counter rows (category_counter category)) _ (counter_refuses rows (category_counter category)) (λ entries.
    let numbers : List ℕ = count_up (PAGE_ITEMS * page + 1) (min PAGE_ITEMS (entries - PAGE_ITEMS * page)) in
    then_leaves (collected (map (entry_line rows category) numbers)) _ (collected_refuses (entry_line rows category) numbers (entry_refuses rows category)) (λ links. refl)))

show_item_leaves : (number : ℕ) (rows : List RowWrite) → Leaves (show_item number rows)
unfolding show_item
show_item_leaves number rows =
    then_leaves (the_row rows item_of (item_id number)) _ (row_refuses rows item_of (item_id number) not_there refl) (λ item.
    then_leaves (the_row rows user_of (user_id item.seller)) _ (row_refuses rows user_of (user_id item.seller) not_there refl) (λ seller. refl))

show_user_leaves : (number : ℕ) (rows : List RowWrite) → Leaves (show_user number rows)
unfolding show_user
show_user_leaves number rows =
    then_leaves (the_row rows user_of (user_id number)) _ (row_refuses rows user_of (user_id number) not_there refl) (λ user. refl)

own_item_refuses : (rows : List RowWrite) (user n : ℕ) → Refuses (own_item_line rows user n)
own_item_refuses rows user n =
    then_refuses (the_row rows own_item_of (own_item_id user n)) _ (row_refuses rows own_item_of (own_item_id user n) not_there refl) (λ own.
    then_refuses (the_row rows item_of (item_id own.item)) _ (row_refuses rows item_of (item_id own.item) not_there refl) (λ item. tt))

show_own_items_leaves : (number : ℕ) (rows : List RowWrite) → Leaves (show_own_items number rows)
unfolding show_own_items
show_own_items_leaves number rows =
    then_leaves (refused_if (number == 0) sign_in_first) _ (if_refuses (number == 0) sign_in_first refl) (λ signed.
    then_leaves (the_row rows user_of (user_id number)) _ (row_refuses rows user_of (user_id number) not_there refl) (λ user.
    let numbers : List ℕ = count_down user.items (min PAGE_ITEMS user.items) in
    then_leaves (collected (map (own_item_line rows number) numbers)) _ (collected_refuses (own_item_line rows number) numbers (own_item_refuses rows number)) (λ links. refl)))

sell_leaves : (seller now : ℕ) (offer : Offer) (rows : List RowWrite) → Leaves (sell seller now offer rows)
unfolding sell offered
sell_leaves seller now offer rows =
    then_leaves (refused_if (seller == 0) sign_in_first) _ (if_refuses (seller == 0) sign_in_first refl) (λ signed.
    then_leaves (refused_if (sells_too_low offer) bad_buy_now) _ (if_refuses (sells_too_low offer) bad_buy_now refl) (λ priced.
    then_leaves (row_or rows category_of (category_id offer.category) no_such_category) _ (row_refuses rows category_of (category_id offer.category) no_such_category refl) (λ category.
    then_leaves (the_counter rows items_counter) _ (counter_refuses rows items_counter) (λ items.
    then_leaves (refused_if (nat_le LAST_NUMBER items) no_more_numbers) _ (if_refuses (nat_le LAST_NUMBER items) no_more_numbers refl) (λ numbered.
    then_leaves (the_counter rows (category_counter offer.category)) _ (counter_refuses rows (category_counter offer.category)) (λ entries.
    then_leaves (refused_if (nat_le LAST_NUMBER entries) no_more_numbers) _ (if_refuses (nat_le LAST_NUMBER entries) no_more_numbers refl) (λ entered.
    then_leaves (the_row rows user_of (user_id seller)) _ (row_refuses rows user_of (user_id seller) not_there refl) (λ user.
    then_leaves (refused_if (nat_le LAST_NUMBER user.items) no_more_numbers) _ (if_refuses (nat_le LAST_NUMBER user.items) no_more_numbers refl) (λ owned. refl)))))))))

bid_leaves : (user now number amount : ℕ) (rows : List RowWrite) → Leaves (bid user now number amount rows)
unfolding bid bid_made
bid_leaves user now number amount rows =
    then_leaves (refused_if (user == 0) sign_in_first) _ (if_refuses (user == 0) sign_in_first refl) (λ signed.
    then_leaves (the_row rows item_of (item_id number)) _ (row_refuses rows item_of (item_id number) not_there refl) (λ item.
    then_leaves (refused_by (bid_refusal item user amount now)) _ (by_refuses (bid_refusal item user amount now)) (λ allowed.
    then_leaves (refused_if (nat_le LAST_BID item.bids) no_more_numbers) _ (if_refuses (nat_le LAST_BID item.bids) no_more_numbers refl) (λ numbered. refl))))

buy_leaves : (user now number : ℕ) (rows : List RowWrite) → Leaves (buy user now number rows)
unfolding buy bought
buy_leaves user now number rows =
    then_leaves (refused_if (user == 0) sign_in_first) _ (if_refuses (user == 0) sign_in_first refl) (λ signed.
    then_leaves (the_row rows item_of (item_id number)) _ (row_refuses rows item_of (item_id number) not_there refl) (λ item.
    then_leaves (refused_by (buy_refusal item user now)) _ (by_refuses (buy_refusal item user now)) (λ allowed. refl)))

close_leaves : (user number : ℕ) (rows : List RowWrite) → Leaves (close user number rows)
unfolding close closed
close_leaves user number rows =
    then_leaves (refused_if (user == 0) sign_in_first) _ (if_refuses (user == 0) sign_in_first refl) (λ signed.
    then_leaves (the_row rows item_of (item_id number)) _ (row_refuses rows item_of (item_id number) not_there refl) (λ item.
    then_leaves (refused_by (close_refusal item user)) _ (by_refuses (close_refusal item user)) (λ allowed. refl)))

feedback_leaves : (user number : ℕ) (good : Bool) (text : List ℕ) (rows : List RowWrite) → Leaves (give_feedback user number good text rows)
unfolding give_feedback feedback_given
feedback_leaves user number good text rows =
    then_leaves (refused_if (user == 0) sign_in_first) _ (if_refuses (user == 0) sign_in_first refl) (λ signed.
    then_leaves (the_row rows item_of (item_id number)) _ (row_refuses rows item_of (item_id number) not_there refl) (λ item.
    then_leaves (refused_by (feedback_refusal item user)) _ (by_refuses (feedback_refusal item user)) (λ allowed.
    then_leaves (the_row rows user_of (user_id (other_side item user))) _ (row_refuses rows user_of (user_id (other_side item user)) not_there refl) (λ about.
    then_leaves (refused_if (nat_le LAST_FEEDBACK (about.good + about.bad)) no_more_numbers) _
    (if_refuses (nat_le LAST_FEEDBACK (about.good + about.bad)) no_more_numbers refl) (λ numbered. refl)))))

form_leaves : (user now : ℕ) (token : List ℕ) (kind : FormKind) (none : Bool) → (user == 0) ≡ none → not none ≡ true
    → (form_shown user now token kind).done.session ≡ Keep
form_leaves user now token kind true is signed = absurd (cc)
form_leaves user now token kind false is signed = rw is refl

action_leaves : (call : ActionCall) (a : Action) (rows : List RowWrite) → leaves_session call a ≡ true → Leaves (meaning call a rows)
action_leaves call action.Home rows is = refl
action_leaves call (action.Register name password) rows is = absurd (cc)
action_leaves call (action.SignIn name password) rows is = absurd (cc)
action_leaves call action.SignOut rows is = absurd (cc)
action_leaves call action.Categories rows is = categories_leave rows
action_leaves call (action.AddCategory name) rows is = add_category_leaves call.user name rows
action_leaves call (action.Browse category page) rows is = browse_leaves category page rows
action_leaves call (action.Item item) rows is = show_item_leaves item rows
action_leaves call (action.User user) rows is = show_user_leaves user rows
action_leaves call action.About rows is = show_own_items_leaves call.user rows
action_leaves call (action.Sell title category start buy_now hours) rows is = sell_leaves call.user call.now.0 _ rows
action_leaves call (action.Bid item amount) rows is = bid_leaves call.user call.now.0 item amount rows
action_leaves call (action.Buy item) rows is = buy_leaves call.user call.now.0 item rows
action_leaves call (action.Close item) rows is = close_leaves call.user item rows
action_leaves call (action.Feedback item good text) rows is = feedback_leaves call.user item good text rows
action_leaves call (action.Form kind) rows is = form_leaves call.user call.now.0 call.form kind (call.user == 0) refl is

refused_leaves : (found : Found Outcome) (done : DoneText) → Refuses found → found ≡ Err done → done.session ≡ Keep
refused_leaves (Ok outcome) done refuses is = absurd (cc)
refused_leaves (Err d) done refuses is = let same : d ≡ done = cc in subst (λ (x : DoneText). x.session ≡ Keep) same refuses

leaving_refuses : (found : Found Outcome) → Leaves found → Refuses found
leaving_refuses (Ok outcome) leaves = tt
leaving_refuses (Err done) leaves = leaves

-- each action, by whether it leaves the session
action_refuses : (call : ActionCall) (a : Action) (rows : List RowWrite) (leaves : Bool) → leaves_session call a ≡ leaves → Refuses (meaning call a rows)
action_refuses call a rows true is = leaving_refuses (meaning call a rows) (action_leaves call a rows is)
action_refuses call (action.Register name password) rows false is = register_refuses name password call.fresh call.now.0 rows
action_refuses call (action.SignIn name password) rows false is = sign_in_refuses name password call.now.0 rows
action_refuses call action.SignOut rows false is = tt
action_refuses call (action.Form kind) rows false is = tt
action_refuses call action.Home rows false is = absurd (cc)
action_refuses call action.Categories rows false is = absurd (cc)
action_refuses call (action.AddCategory name) rows false is = absurd (cc)
action_refuses call (action.Browse category page) rows false is = absurd (cc)
action_refuses call (action.Item item) rows false is = absurd (cc)
action_refuses call (action.User user) rows false is = absurd (cc)
action_refuses call action.About rows false is = absurd (cc)
action_refuses call (action.Sell title category start buy_now hours) rows false is = absurd (cc)
action_refuses call (action.Bid item amount) rows false is = absurd (cc)
action_refuses call (action.Buy item) rows false is = absurd (cc)
action_refuses call (action.Close item) rows false is = absurd (cc)
action_refuses call (action.Feedback item good text) rows false is = absurd (cc)

pub refusals_leave : (call : ActionCall) (rows : List RowWrite) (done : DoneText) → meaning call call.action rows ≡ Err done → done.session ≡ Keep
refusals_leave call rows done is =
    refused_leaves (meaning call call.action rows) done (action_refuses call call.action rows (leaves_session call call.action) refl) is

finished_leaves : (found : Found Outcome) → Leaves found → (finished found).done.session ≡ Keep
finished_leaves (Ok outcome) leaves = leaves
finished_leaves (Err done) leaves = leaves

pub others_leave : (call : ActionCall) (rows : List RowWrite) → leaves_session call call.action ≡ true → (site call rows).done.session ≡ Keep
others_leave call rows is = finished_leaves (meaning call call.action rows) (action_leaves call call.action rows is)
