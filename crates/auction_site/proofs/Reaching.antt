-- Each step of a call stays within the reach of its action.
use Rattle.std.proofs.Common.{◌≡◌, ℕ, ◌+◌, ◌-◌, ◌*◌, ◌==◌, ◌&&◌, ◌||◌, nat_le, nat_lt, min, not, Bool, true, false, cond, List, [], ◌∷◌, Option, Some, None, refl, subst, slice_get, arith}
use Rattle.std.specs.List.{list_all}
use Rattle.std.specs.Prelude.{bytes_eq}
use Rattle.std.proofs.lemmas.Bool.{and_parts}
use Rattle.std.proofs.lemmas.Bool.Decides.{nat_tests}
use Rattle.std.proofs.lemmas.List.Elements.{All-get_or}
use Rattle.std.proofs.lemmas.List.Sums.{AllPass-from_list_all}
use Rattle.std.proofs.lemmas.Option.{slice_get_within, get_or_from_slice_get}
use Rattle.crash_base.specs.declared.numbers.ComponentNo.{ComponentNo}
use Rattle.crash_base.specs.declared.row_id.RowId.{RowId}
use Rattle.crash_base.specs.declared.rows.RowWrite.{RowWrite}
use Rattle.deployment.specs.Parts.{owner_of}
use Rattle.journal_model.specs.declared.entry.DoneText.{DoneText}
use Rattle.journal_model.specs.declared.entry.ReadMark.{ReadMark}
use Rattle.journal_model.specs.declared.entry.ReadMark.TheVariants.{Row, Table}
use Rattle.call_ticket.specs.declared.next.Answer.{Answer}
use Rattle.call_ticket.specs.declared.next.Next.{Next}
use Rattle.call_ticket.specs.declared.next.Next.TheVariants as next
use Rattle.action_plans.specs.declared.plan.Outcome.{Outcome}
use Rattle.action_plans.specs.declared.plan.Through.{Through}
use Rattle.action_plans.specs.declared.plan.Want.{Want}
use Rattle.action_plans.specs.declared.plan.Want.TheVariants as want
use Rattle.action_plans.specs.Plans.{Plan, Asks, Refuses, Gives, ◌>>=◌, walk, wanted}
use Rattle.action_plans.specs.Steps.{enter_count, exit_count, put_count, home_depth, enter_home, is_away, is_home, has_just_entered, access_in, putting, wanting, program_of, reads_in}
use Rattle.auction_calls.specs.declared.action.Action.{Action}
use Rattle.auction_calls.specs.declared.action.Action.TheVariants as action
use Rattle.auction_calls.specs.declared.action.ActionCall.{ActionCall}
use Rattle.auction_rows.specs.declared.rows.TheConstants.{CATEGORY_TABLE}
use Rattle.auction_rows.specs.Ids.{user_id, name_id, users_counter, items_counter, categories_counter, category_counter, item_id, category_id, entry_id, own_item_id}
use Rattle.auction_rows.specs.Parts.{site_tables}
use Rattle.auction_rows.specs.Reading.{counter_of, user_of, name_of, item_of, category_of, entry_of, own_item_of}
use Rattle.auction_rules.specs.declared.refusal.RuleRefusal.{RuleRefusal}
use Rattle.auction_rules.specs.Rules.{bid_refusal, buy_refusal, close_refusal, feedback_refusal, other_side}
use Rattle.auction_site.specs.declared.limits.TheConstants.{LAST_NUMBER, LAST_BID, LAST_FEEDBACK, PAGE_ITEMS, CATEGORY_EDITOR}
use Rattle.auction_site.specs.Actions.{planned, plan_of, through_of, steps_of, offer_of}
use Rattle.auction_site.specs.Answers.{not_there, sign_in_first, no_more_numbers, name_taken, wrong_password, not_allowed, bad_buy_now, no_such_category}
use Rattle.auction_site.specs.Numbers.{count_up, count_down}
use Rattle.auction_site.specs.Outcomes.{digest_of, categories_shown, category_shown, user_items_shown, registered, category_added, offered, bid_made, bought, closed, feedback_given}
use Rattle.auction_site.specs.Pieces.{row_answer, refuses_if, refuses_by, decoded, decoded_or, asks_row_or, none_decoded, asks_no_row, count_decoded, asks_counter, asks_table, asks_each}
use Rattle.auction_site.specs.Planned.{register_plan, sign_in_plan, category_link_plan, categories_plan, add_category_plan, entry_link_plan, browse_plan, show_item_plan, show_user_plan, own_item_link_plan, show_own_items_plan, offer_plan, sell_plan, bid_plan, buy_plan, close_plan, give_feedback_plan}
use Rattle.auction_site.specs.Reached.{Reach, is_among, stays_within, reach_of}
use Rattle.auction_site.specs.Rules.{sells_too_low}
use Rattle.page_text.specs.declared.page_line.PageLine.{PageLine}

-- a step stays within a reach
abbrev Stays : Reach → Next → Type 0
Stays r step = stays_within r step ≡ true

-- whether a read is within a reach
abbrev may_ask : Reach → ReadMark → Bool
may_ask r (Row id) = is_among r.reads id.table
may_ask r (Table t) = is_among r.lists t

-- each write of an outcome is within a reach
abbrev Puts : Reach → Outcome → Type 0
Puts r o = list_all (λ (w : RowWrite). is_among r.puts w.id.table) o.writes ≡ true

-- a plan asks within a reach, whatever it is answered, and what it gives holds this
abbrev Keeps : {A : Type 0} → Reach → (A → Type 0) → Plan A → Type 0
Keeps r gives (Asks m go) = (may_ask r m ≡ true) × ((a : Answer) → Keeps r gives (go a))
Keeps r gives (Refuses d) = Unit {0}
Keeps r gives (Gives x) = gives x

then_keeps : {A B : Type 0} (r : Reach) (gives : B → Type 0) (plan : Plan A) (f : A → Plan B) → Keeps r (λ x. Unit {0}) plan
    → ((x : A) → Keeps r gives (f x)) → Keeps r gives (plan >>= f)
unfolding ◌>>=◌
then_keeps r gives (Asks m go) f keeps later = (keeps.0, λ a. then_keeps r gives (go a) f (keeps.1 a) later)
then_keeps r gives (Refuses d) f keeps later = tt
then_keeps r gives (Gives x) f keeps later = later x

if_keeps : (r : Reach) (test : Bool) (done : DoneText) → Keeps r (λ x. Unit {0}) (refuses_if test done)
unfolding refuses_if
if_keeps r true done = tt
if_keeps r false done = tt

by_keeps : (r : Reach) (refusal : Option RuleRefusal) → Keeps r (λ x. Unit {0}) (refuses_by refusal)
unfolding refuses_by
by_keeps r None = tt
by_keeps r (Some refusal) = tt

decoded_keeps : {T : Type 0} (r : Reach) (id : RowId) (row : Option T) → Keeps r (λ x. Unit {0}) (decoded id row)
unfolding decoded
decoded_keeps r id None = tt
decoded_keeps r id (Some row) = tt

decoded_or_keeps : {T : Type 0} (r : Reach) (spells : List ℕ → Option T) (id : RowId) (missing : DoneText) (bytes : Option (List ℕ))
    → Keeps r (λ x. Unit {0}) (decoded_or spells id missing bytes)
unfolding decoded_or
decoded_or_keeps r spells id missing None = tt
decoded_or_keeps r spells id missing (Some bytes) = decoded_keeps r id (spells bytes)

row_keeps : {T : Type 0} (r : Reach) (spells : List ℕ → Option T) (id : RowId) (missing : DoneText) → is_among r.reads id.table ≡ true
    → Keeps r (λ x. Unit {0}) (asks_row_or spells id missing)
unfolding asks_row_or
row_keeps r spells id missing may = (may, λ a. decoded_or_keeps r spells id missing (row_answer a))

none_keeps : {T : Type 0} (r : Reach) (spells : List ℕ → Option T) (id : RowId) (there : DoneText) (bytes : Option (List ℕ))
    → Keeps r (λ x. Unit {0}) (none_decoded spells id there bytes)
unfolding none_decoded
none_keeps r spells id there None = tt
none_keeps r spells id there (Some bytes) =
    then_keeps r (λ (x : Unit {0}). Unit {0}) (decoded id (spells bytes)) (λ row. Refuses there) (decoded_keeps r id (spells bytes)) (λ row. tt)

no_row_keeps : {T : Type 0} (r : Reach) (spells : List ℕ → Option T) (id : RowId) (there : DoneText) → is_among r.reads id.table ≡ true
    → Keeps r (λ x. Unit {0}) (asks_no_row spells id there)
unfolding asks_no_row
no_row_keeps r spells id there may = (may, λ a. none_keeps r spells id there (row_answer a))

count_keeps : (r : Reach) (id : RowId) (bytes : Option (List ℕ)) → Keeps r (λ x. Unit {0}) (count_decoded id bytes)
unfolding count_decoded
count_keeps r id None = tt
count_keeps r id (Some bytes) =
    then_keeps r (λ (n : ℕ). Unit {0}) (decoded id (counter_of bytes)) (λ counter. Gives counter.count) (decoded_keeps r id (counter_of bytes)) (λ counter. tt)

counter_keeps : (r : Reach) (id : RowId) → is_among r.reads id.table ≡ true → Keeps r (λ x. Unit {0}) (asks_counter id)
unfolding asks_counter
counter_keeps r id may = (may, λ a. count_keeps r id (row_answer a))

table_keeps : (r : Reach) (table : ℕ) → is_among r.lists table ≡ true → Keeps r (λ x. Unit {0}) (asks_table table)
unfolding asks_table
table_keeps r table may = (may, λ a. tt)

each_keeps : {A B : Type 0} (r : Reach) (plan : A → Plan B) (xs : List A) → ((x : A) → Keeps r (λ y. Unit {0}) (plan x))
    → Keeps r (λ ys. Unit {0}) (asks_each plan xs)
unfolding asks_each
each_keeps r plan [] one = tt
each_keeps {B = B} r plan (x ∷ xs) one =
    then_keeps r (λ (ys : List B). Unit {0}) (plan x) (λ y. asks_each plan xs >>= λ ys. Gives (y ∷ ys)) (one x) (λ y.
    then_keeps r (λ (ys : List B). Unit {0}) (asks_each plan xs) (λ ys. Gives (y ∷ ys)) (each_keeps r plan xs one) (λ ys. tt))

-- the same of a plan of an action
abbrev Acts : Action → Plan Outcome → Type 0
Acts a plan = Keeps (reach_of a) (Puts (reach_of a)) plan

if_acts : (a : Action) (test : Bool) (done : DoneText) (f : Unit {0} → Plan Outcome) → ((x : Unit {0}) → Acts a (f x)) → Acts a (refuses_if test done >>= f)
if_acts a test done f later = then_keeps (reach_of a) (Puts (reach_of a)) (refuses_if test done) f (if_keeps (reach_of a) test done) later

by_acts : (a : Action) (refusal : Option RuleRefusal) (f : Unit {0} → Plan Outcome) → ((x : Unit {0}) → Acts a (f x)) → Acts a (refuses_by refusal >>= f)
by_acts a refusal f later = then_keeps (reach_of a) (Puts (reach_of a)) (refuses_by refusal) f (by_keeps (reach_of a) refusal) later

row_acts : {T : Type 0} (a : Action) (spells : List ℕ → Option T) (id : RowId) (missing : DoneText) (f : T → Plan Outcome)
    → is_among (reach_of a).reads id.table ≡ true → ((x : T) → Acts a (f x)) → Acts a (asks_row_or spells id missing >>= f)
row_acts a spells id missing f may later =
    then_keeps (reach_of a) (Puts (reach_of a)) (asks_row_or spells id missing) f (row_keeps (reach_of a) spells id missing may) later

counter_acts : (a : Action) (id : RowId) (f : ℕ → Plan Outcome) → is_among (reach_of a).reads id.table ≡ true → ((n : ℕ) → Acts a (f n))
    → Acts a (asks_counter id >>= f)
counter_acts a id f may later = then_keeps (reach_of a) (Puts (reach_of a)) (asks_counter id) f (counter_keeps (reach_of a) id may) later

each_acts : {A B : Type 0} (a : Action) (plan : A → Plan B) (xs : List A) (f : List B → Plan Outcome)
    → ((x : A) → Keeps (reach_of a) (λ y. Unit {0}) (plan x)) → ((ys : List B) → Acts a (f ys)) → Acts a (asks_each plan xs >>= f)
each_acts a plan xs f one later = then_keeps (reach_of a) (Puts (reach_of a)) (asks_each plan xs) f (each_keeps (reach_of a) plan xs one) later

register_acts : (name password : List ℕ) (fresh now : ℕ) → Acts (action.Register name password) (register_plan name password fresh now)
unfolding register_plan registered name_id
register_acts name password fresh now =
    let a : Action = action.Register name password in
    then_keeps (reach_of a) (Puts (reach_of a)) (asks_no_row name_of (name_id name) name_taken) _ (no_row_keeps (reach_of a) name_of (name_id name) name_taken refl) (λ free.
    counter_acts a users_counter _ refl (λ users.
    if_acts a (nat_le LAST_NUMBER users) no_more_numbers _ (λ numbered. refl)))

sign_in_acts : (name password : List ℕ) (now : ℕ) → Acts (action.SignIn name password) (sign_in_plan name password now)
unfolding sign_in_plan name_id
sign_in_acts name password now =
    let a : Action = action.SignIn name password in
    row_acts a name_of (name_id name) wrong_password _ refl (λ found.
    if_acts a (not (bytes_eq found.name name)) wrong_password _ (λ named.
    row_acts a user_of (user_id found.user) wrong_password _ refl (λ user.
    if_acts a (not (bytes_eq (digest_of user.salt password) user.digest)) wrong_password _ (λ known. refl))))

category_link_keeps : (r : Reach) (row : RowWrite) → Keeps r (λ (line : PageLine). Unit {0}) (category_link_plan row)
unfolding category_link_plan
category_link_keeps r row =
    then_keeps r (λ (line : PageLine). Unit {0}) (decoded row.id (category_of row.bytes)) _ (decoded_keeps r row.id (category_of row.bytes)) (λ category. tt)

categories_acts : Acts action.Categories categories_plan
unfolding categories_plan
categories_acts =
    let a : Action = action.Categories in
    then_keeps (reach_of a) (Puts (reach_of a)) (asks_table CATEGORY_TABLE) _ (table_keeps (reach_of a) CATEGORY_TABLE refl) (λ rows.
    each_acts a category_link_plan rows (λ links. Gives (categories_shown links)) (category_link_keeps (reach_of a)) (λ links. refl))

add_category_acts : (user : ℕ) (name : List ℕ) → Acts (action.AddCategory name) (add_category_plan user name)
unfolding add_category_plan category_added
add_category_acts user name =
    let a : Action = action.AddCategory name in
    if_acts a (user == 0) sign_in_first _ (λ signed.
    if_acts a (not (user == CATEGORY_EDITOR)) not_allowed _ (λ allowed.
    counter_acts a categories_counter _ refl (λ categories.
    if_acts a (nat_le LAST_NUMBER categories) no_more_numbers _ (λ numbered. refl))))

entry_link_keeps : (r : Reach) (category n : ℕ) → is_among r.reads 7 ≡ true → is_among r.reads 4 ≡ true
    → Keeps r (λ (line : PageLine). Unit {0}) (entry_link_plan category n)
unfolding entry_link_plan
entry_link_keeps r category n entries items =
    then_keeps r (λ (line : PageLine). Unit {0}) (asks_row_or entry_of (entry_id category n) not_there) _ (row_keeps r entry_of (entry_id category n) not_there entries) (λ entry.
    then_keeps r (λ (line : PageLine). Unit {0}) (asks_row_or item_of (item_id entry.item) not_there) _ (row_keeps r item_of (item_id entry.item) not_there items) (λ item. tt))

browse_acts : (category page : ℕ) → Acts (action.Browse category page) (browse_plan category page)
unfolding browse_plan
browse_acts category page =
    let a : Action = action.Browse category page in
    row_acts a category_of (category_id category) not_there _ refl (λ found.
    counter_acts a (category_counter category) _ refl (λ entries.
    each_acts a (entry_link_plan category) (count_up (PAGE_ITEMS * page + 1) (min PAGE_ITEMS (entries - PAGE_ITEMS * page)))
    (λ links. Gives (category_shown found links)) (λ n. entry_link_keeps (reach_of a) category n refl refl) (λ links. refl)))

show_item_acts : (number : ℕ) → Acts (action.Item number) (show_item_plan number)
unfolding show_item_plan
show_item_acts number =
    let a : Action = action.Item number in
    row_acts a item_of (item_id number) not_there _ refl (λ item.
    row_acts a user_of (user_id item.seller) not_there _ refl (λ seller. refl))

show_user_acts : (number : ℕ) → Acts (action.User number) (show_user_plan number)
unfolding show_user_plan
show_user_acts number = row_acts (action.User number) user_of (user_id number) not_there _ refl (λ user. refl)

own_item_link_keeps : (r : Reach) (user n : ℕ) → is_among r.reads 9 ≡ true → is_among r.reads 4 ≡ true
    → Keeps r (λ (line : PageLine). Unit {0}) (own_item_link_plan user n)
unfolding own_item_link_plan
own_item_link_keeps r user n owns items =
    then_keeps r (λ (line : PageLine). Unit {0}) (asks_row_or own_item_of (own_item_id user n) not_there) _ (row_keeps r own_item_of (own_item_id user n) not_there owns) (λ own.
    then_keeps r (λ (line : PageLine). Unit {0}) (asks_row_or item_of (item_id own.item) not_there) _ (row_keeps r item_of (item_id own.item) not_there items) (λ item. tt))

show_own_items_acts : (number : ℕ) → Acts action.About (show_own_items_plan number)
unfolding show_own_items_plan
show_own_items_acts number =
    let a : Action = action.About in
    if_acts a (number == 0) sign_in_first _ (λ signed.
    row_acts a user_of (user_id number) not_there _ refl (λ user.
    each_acts a (own_item_link_plan number) (count_down user.items (min PAGE_ITEMS user.items))
    (λ links. Gives (user_items_shown user links)) (λ n. own_item_link_keeps (reach_of a) number n refl refl) (λ links. refl)))

sell_acts : (seller now : ℕ) (title : List ℕ) (category start buy_now hours : ℕ)
    → Acts (action.Sell title category start buy_now hours) (sell_plan seller now (offer_of title category start buy_now hours))
unfolding sell_plan offer_plan offered
sell_acts seller now title category start buy_now hours =
    let a : Action = action.Sell title category start buy_now hours in
    if_acts a (seller == 0) sign_in_first _ (λ signed.
    if_acts a (sells_too_low (offer_of title category start buy_now hours)) bad_buy_now _ (λ priced.
    row_acts a category_of (category_id category) no_such_category _ refl (λ found.
    counter_acts a items_counter _ refl (λ items.
    if_acts a (nat_le LAST_NUMBER items) no_more_numbers _ (λ numbered.
    counter_acts a (category_counter category) _ refl (λ entries.
    if_acts a (nat_le LAST_NUMBER entries) no_more_numbers _ (λ entered.
    row_acts a user_of (user_id seller) not_there _ refl (λ user.
    if_acts a (nat_le LAST_NUMBER user.items) no_more_numbers _ (λ owned. refl)))))))))

bid_acts : (user now number amount : ℕ) → Acts (action.Bid number amount) (bid_plan user now number amount)
unfolding bid_plan bid_made
bid_acts user now number amount =
    let a : Action = action.Bid number amount in
    if_acts a (user == 0) sign_in_first _ (λ signed.
    row_acts a item_of (item_id number) not_there _ refl (λ item.
    by_acts a (bid_refusal item user amount now) _ (λ allowed.
    if_acts a (nat_le LAST_BID item.bids) no_more_numbers _ (λ numbered. refl))))

buy_acts : (user now number : ℕ) → Acts (action.Buy number) (buy_plan user now number)
unfolding buy_plan bought
buy_acts user now number =
    let a : Action = action.Buy number in
    if_acts a (user == 0) sign_in_first _ (λ signed.
    row_acts a item_of (item_id number) not_there _ refl (λ item.
    by_acts a (buy_refusal item user now) _ (λ allowed. refl)))

close_acts : (user number : ℕ) → Acts (action.Close number) (close_plan user number)
unfolding close_plan closed
close_acts user number =
    let a : Action = action.Close number in
    if_acts a (user == 0) sign_in_first _ (λ signed.
    row_acts a item_of (item_id number) not_there _ refl (λ item.
    by_acts a (close_refusal item user) _ (λ allowed. refl)))

give_feedback_acts : (user number : ℕ) (good : Bool) (text : List ℕ) → Acts (action.Feedback number good text) (give_feedback_plan user number good text)
unfolding give_feedback_plan feedback_given
give_feedback_acts user number good text =
    let a : Action = action.Feedback number good text in
    if_acts a (user == 0) sign_in_first _ (λ signed.
    row_acts a item_of (item_id number) not_there _ refl (λ item.
    by_acts a (feedback_refusal item user) _ (λ allowed.
    row_acts a user_of (user_id (other_side item user)) not_there _ refl (λ about.
    if_acts a (nat_le LAST_FEEDBACK (about.good + about.bad)) no_more_numbers _ (λ numbered. refl)))))

action_acts : (call : ActionCall) (a : Action) → Acts a (planned call a)
action_acts call action.Home = refl
action_acts call (action.Register name password) = register_acts name password call.fresh call.now.0
action_acts call (action.SignIn name password) = sign_in_acts name password call.now.0
action_acts call action.SignOut = refl
action_acts call action.Categories = categories_acts
action_acts call (action.AddCategory name) = add_category_acts call.user name
action_acts call (action.Browse category page) = browse_acts category page
action_acts call (action.Item item) = show_item_acts item
action_acts call (action.User user) = show_user_acts user
action_acts call action.About = show_own_items_acts call.user
action_acts call (action.Sell title category start buy_now hours) = sell_acts call.user call.now.0 title category start buy_now hours
action_acts call (action.Bid item amount) = bid_acts call.user call.now.0 item amount
action_acts call (action.Buy item) = buy_acts call.user call.now.0 item
action_acts call (action.Close item) = close_acts call.user item
action_acts call (action.Feedback item good text) = give_feedback_acts call.user item good text
action_acts call (action.Form kind) = refl

-- what an action wants is within its reach
abbrev WantsIn : Reach → Want → Type 0
WantsIn r (want.Ask m) = may_ask r m ≡ true
WantsIn r (want.Finish o) = Puts r o

walk_in : (r : Reach) (plan : Plan Outcome) (answers : List Answer) → Keeps r (Puts r) plan → WantsIn r (wanted (walk plan answers))
unfolding walk
walk_in r (Asks m go) [] keeps = keeps.0
walk_in r (Asks m go) (a ∷ answers) keeps = walk_in r (go a) answers (keeps.1 a)
walk_in r (Refuses d) answers keeps = refl
walk_in r (Gives o) answers keeps = keeps

-- whether a component may be entered, where there is one
abbrev may_enter_one : Reach → Option ComponentNo → Bool
may_enter_one r None = true
may_enter_one r (Some c) = is_among r.enters c.0

-- whether the owner of a table may be entered
abbrev may_enter_owner : Reach → ℕ → Bool
may_enter_owner r t = may_enter_one r (owner_of site_tables t)

-- whether the home of an action may be entered
abbrev may_enter_home : Reach → Option Through → Bool
may_enter_home r None = true
may_enter_home r (Some t) = is_among r.enters t.component.0

-- whether all that a reach needs may be entered
abbrev is_closed : Reach → Option Through → Bool
is_closed r through =
    (is_among r.enters 0 && may_enter_home r through)
    && (list_all (may_enter_owner r) r.reads && (list_all (may_enter_owner r) r.lists && list_all (may_enter_owner r) r.puts))

action_closed : (a : Action) → is_closed (reach_of a) (through_of a) ≡ true
unfolding site_tables
action_closed action.Home = refl
action_closed (action.Register name password) = refl
action_closed (action.SignIn name password) = refl
action_closed action.SignOut = refl
action_closed action.Categories = refl
action_closed (action.AddCategory name) = refl
action_closed (action.Browse category page) = refl
action_closed (action.Item item) = refl
action_closed (action.User user) = refl
action_closed action.About = refl
action_closed (action.Sell title category start buy_now hours) = refl
action_closed (action.Bid item amount) = refl
action_closed (action.Buy item) = refl
action_closed (action.Close item) = refl
action_closed (action.Feedback item good text) = refl
action_closed (action.Form kind) = refl

-- what passes for all of these passes for one of them
among_passes : (p : ℕ → Bool) (ts : List ℕ) (t : ℕ) → list_all p ts ≡ true → is_among ts t ≡ true → p t ≡ true
among_passes p [] t all is = absurd (cc)
among_passes p (x ∷ ts) t all is =
    let parts = and_parts (p x) (list_all p ts) all in
    by (x == t) refl parts.0 (among_passes p ts t parts.1) is
  where
    by : (here : Bool) → (x == t) ≡ here → p x ≡ true → (is_among ts t ≡ true → p t ≡ true) → (here || is_among ts t) ≡ true → p t ≡ true
    by true test pass later among = let same : x ≡ t = grind (arith, nat_tests) in subst (λ n. p n ≡ true) same pass
    by false test pass later among = later among

either : (r : Reach) (test : Bool) (a b : Next) → Stays r a → Stays r b → Stays r (cond test a b)
either r true a b first second = first
either r false a b first second = second

home_stays : (r : Reach) (through : Option Through) (n : ℕ) → is_among r.enters 0 ≡ true → may_enter_home r through ≡ true
    → Stays r (enter_home through n)
home_stays r None n web inner = web
home_stays r (Some t) n web inner = either r (n == 0) (enter_home None 0) (next.Enter t.component t.method) web inner

access_stays : (r : Reach) (through : Option Through) (answers : List Answer) (owner : Option ComponentNo) (x : Next) → may_enter_one r owner ≡ true → Stays r x
    → Stays r (access_in through answers owner x)
access_stays r through answers None x may step = step
access_stays r through answers (Some owner) x may step =
    either r (is_away through answers || is_home through owner) x (next.Enter owner 0) step may

-- a write that stands among writes within a reach is within it
write_in : (r : Reach) (ws : List RowWrite) (n : ℕ) (w : RowWrite) → list_all (λ (w : RowWrite). is_among r.puts w.id.table) ws ≡ true → slice_get ws n ≡ Some w
    → is_among r.puts w.id.table ≡ true
write_in r ws n w all is =
    let P : RowWrite → Type 0 = λ w. is_among r.puts w.id.table ≡ true in
    subst P (get_or_from_slice_get ws n w w is)
    (All-get_or P ws n w (slice_get_within ws n w is) (AllPass-from_list_all (λ (w : RowWrite). is_among r.puts w.id.table) ws all))

-- the owners of the tables of a reach may be entered
record IsClosed (r : Reach) (through : Option Through) : Type 0 where
  pub web : is_among r.enters 0 ≡ true
  pub inner : may_enter_home r through ≡ true
  pub reads : list_all (may_enter_owner r) r.reads ≡ true
  pub lists : list_all (may_enter_owner r) r.lists ≡ true
  pub puts : list_all (may_enter_owner r) r.puts ≡ true

closed_parts : (r : Reach) (through : Option Through) → is_closed r through ≡ true → IsClosed r through
closed_parts r through is =
    let all = and_parts (is_among r.enters 0 && may_enter_home r through) (list_all (may_enter_owner r) r.reads && (list_all (may_enter_owner r) r.lists && list_all (may_enter_owner r) r.puts)) is in
    let home = and_parts (is_among r.enters 0) (may_enter_home r through) all.0 in
    let tables = and_parts (list_all (may_enter_owner r) r.reads) (list_all (may_enter_owner r) r.lists && list_all (may_enter_owner r) r.puts) all.1 in
    let others = and_parts (list_all (may_enter_owner r) r.lists) (list_all (may_enter_owner r) r.puts) tables.1 in
    record { web = home.0; inner = home.1; reads = tables.0; lists = others.0; puts = others.1 }

putting_stays : (r : Reach) (through : Option Through) (answers : List Answer) (done : DoneText) (ws : List RowWrite) (n : ℕ) (w : Option RowWrite)
    → IsClosed r through → list_all (λ (w : RowWrite). is_among r.puts w.id.table) ws ≡ true → slice_get ws n ≡ w
    → Stays r (putting site_tables through answers done w)
putting_stays r through answers done ws n None closed all is =
    either r (enter_count answers == exit_count answers) (next.Done done) next.Exit refl refl
putting_stays r through answers done ws n (Some w) closed all is =
    let may = write_in r ws n w all is in
    access_stays r through answers (owner_of site_tables w.id.table) (next.Put w) (among_passes (may_enter_owner r) r.puts w.id.table closed.puts may) may

wanting_stays : (r : Reach) (through : Option Through) (answers : List Answer) (w : Want) → IsClosed r through → WantsIn r w
    → Stays r (wanting site_tables through answers w)
wanting_stays r through answers (want.Ask (Row id)) closed may =
    access_stays r through answers (owner_of site_tables id.table) (next.Read id) (among_passes (may_enter_owner r) r.reads id.table closed.reads may) may
wanting_stays r through answers (want.Ask (Table t)) closed may =
    access_stays r through answers (owner_of site_tables t) (next.List t) (among_passes (may_enter_owner r) r.lists t closed.lists may) may
wanting_stays r through answers (want.Finish o) closed all =
    putting_stays r through answers o.done o.writes (put_count answers) (slice_get o.writes (put_count answers)) closed all refl

program_stays : (r : Reach) (through : Option Through) (plan : Plan Outcome) (answers : List Answer) → IsClosed r through → Keeps r (Puts r) plan
    → Stays r (program_of site_tables through plan answers)
program_stays r through plan answers closed keeps =
    let w : Want = wanted (walk plan (reads_in answers)) in
    either r (nat_lt (enter_count answers) (home_depth through)) (enter_home through (enter_count answers)) _ (home_stays r through (enter_count answers) closed.web closed.inner)
    (either r (is_away through answers && not (has_just_entered answers)) next.Exit (wanting site_tables through answers w) refl
    (wanting_stays r through answers w closed (walk_in r plan (reads_in answers) keeps)))

-- each step of a call stays within the reach of its action
pub call_stays : (call : ActionCall) (answers : List Answer) → stays_within (reach_of call.action) (steps_of call answers) ≡ true
call_stays call answers =
    program_stays (reach_of call.action) (through_of call.action) (plan_of call) answers
    (closed_parts (reach_of call.action) (through_of call.action) (action_closed call.action)) (action_acts call call.action)
