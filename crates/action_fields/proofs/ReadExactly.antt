-- An action is read exactly where a query and a form say it, and it is in its ranges.
use Rattle.std.proofs.Common.{◌≡◌, ◌↔◌, ℕ, ◌<◌, nat_le, Bool, true, List, Result, Ok, Err, refl, sym, subst, arith}
use Rattle.std.proofs.lemmas.Bool.{and_from, and_parts}
use Rattle.std.proofs.lemmas.Bool.Decides.{nat_tests}
use Rattle.auction_calls.specs.Calls.{is_action, is_between, is_id, is_text, is_user_name}
use Rattle.auction_calls.specs.declared.action.Action.{Action}
use Rattle.auction_calls.specs.declared.action.Action.TheVariants as action
use Rattle.site_routes.specs.Paths.{HasId, IsId}
use Rattle.site_routes.specs.declared.path_actions.SiteAction.{SiteAction}
use Rattle.site_routes.specs.declared.path_actions.SiteAction.TheVariants as route
use Rattle.action_fields.specs.Asked.{asked_action, bid_in, browse_in, buy_in, category_in, close_in, feedback_in, register_in, sell_in, sign_in_in, with_field}
use Rattle.action_fields.specs.Reading.{good_in, id_in, number_in, page_in, text_in, user_name_in}
use Rattle.action_fields.specs.Said.{IsSaid, route_of}
use Rattle.action_fields.specs.declared.form_field.FormField.{FormField}
use Rattle.action_fields.specs.declared.form_field.FormField.TheVariants as field
use Rattle.action_fields.proofs.Fields.{good_exact, id_exact, number_exact, page_exact, text_exact, user_name_exact}

-- what was made of a field was made of one that was read
record Made {A B : Type 0} (read : Result A FormField) (make : A → Result B FormField) (value : B) : Type 0 where
  field_is : A
  read_is : read ≡ Ok field_is
  made_is : make field_is ≡ Ok value

made_of : {A B : Type 0} (read : Result A FormField) (make : A → Result B FormField) (value : B) → with_field read make ≡ Ok value → Made read make value
made_of (Ok a) make value e = record { field_is = a; read_is = refl; made_is = e }
made_of (Err which) make value e = absurd (cc)

made : {A B : Type 0} (read : Result A FormField) (a : A) (make : A → Result B FormField) (value : B) → read ≡ Ok a → make a ≡ Ok value → with_field read make ≡ Ok value
made read a make value e m = subst (λ r. with_field r make ≡ Ok value) (sym e) m

-- an action is the one that is asked for, is said, and is in its ranges
abbrev Told : SiteAction → List ℕ → List ℕ → Action → Type 0
Told asked query form a = (route_of a ≡ asked) × IsSaid a query form × (is_action a ≡ true)

same_told : (asked : SiteAction) (query form : List ℕ) (a b : Action) → ◌≡◌ {A = Result Action FormField} (Ok a) (Ok b) → Told asked query form a → Told asked query form b
same_told asked query form a b e told = let same : a ≡ b = cc in subst (λ (x : Action). Told asked query form x) same told

id_is : (id : ℕ) → IsId id → is_id id ≡ true
id_is id h =
    let low : 0 < id = h.0 in
    let high : id < 4294967296 = h.1 in
    and_from (nat_le 1 id) (nat_le id 4294967295) (grind (arith, nat_tests)) (grind (arith, nat_tests))

price_is : (n : ℕ) → nat_le n 4000000000 ≡ true → is_between 0 4000000000 n ≡ true
price_is n high = let low : nat_le 0 n ≡ true = grind (arith, nat_tests) in and_from (nat_le 0 n) (nat_le n 4000000000) low high

register_told : (query form : List ℕ) (a : Action) → register_in form ≡ Ok a → Told route.Register query form a
unfolding register_in
register_told query form a e =
    let name = made_of (user_name_in form) _ a e in
    let password = made_of (text_in field.Password 1 72 form) _ a name.made_is in
    let n = (user_name_exact form name.field_is).0 name.read_is in
    let p = (text_exact field.Password 1 72 form password.field_is).0 password.read_is in
    same_told route.Register query form _ a password.made_is (refl, (n.0, p.0), and_from _ _ n.1 p.1)

sign_in_told : (query form : List ℕ) (a : Action) → sign_in_in form ≡ Ok a → Told route.SignIn query form a
unfolding sign_in_in
sign_in_told query form a e =
    let name = made_of (user_name_in form) _ a e in
    let password = made_of (text_in field.Password 1 72 form) _ a name.made_is in
    let n = (user_name_exact form name.field_is).0 name.read_is in
    let p = (text_exact field.Password 1 72 form password.field_is).0 password.read_is in
    same_told route.SignIn query form _ a password.made_is (refl, (n.0, p.0), and_from _ _ n.1 p.1)

category_told : (query form : List ℕ) (a : Action) → category_in form ≡ Ok a → Told route.AddCategory query form a
unfolding category_in
category_told query form a e =
    let name = made_of (text_in field.Name 1 40 form) _ a e in
    let n = (text_exact field.Name 1 40 form name.field_is).0 name.read_is in
    same_told route.AddCategory query form _ a name.made_is (refl, n.0, n.1)

browse_told : (category : ℕ) (query form : List ℕ) (a : Action) → IsId category → browse_in category query ≡ Ok a
    → Told (route.Browse category) query form a
unfolding browse_in
browse_told category query form a id e =
    let page = made_of (page_in query) _ a e in
    let p = (page_exact query page.field_is).0 page.read_is in
    same_told (route.Browse category) query form _ a page.made_is (refl, p.0, and_from _ _ (id_is category id) p.1)

sell_told : (query form : List ℕ) (a : Action) → sell_in form ≡ Ok a → Told route.Sell query form a
unfolding sell_in
sell_told query form a e =
    let title = made_of (text_in field.Title 1 80 form) _ a e in
    let category = made_of (id_in field.Category form) _ a title.made_is in
    let start = made_of (number_in field.Start 1 4000000000 form) _ a category.made_is in
    let buy_now = made_of (number_in field.BuyNow 0 4000000000 form) _ a start.made_is in
    let hours = made_of (number_in field.Hours 1 720 form) _ a buy_now.made_is in
    let t = (text_exact field.Title 1 80 form title.field_is).0 title.read_is in
    let c = (id_exact field.Category form category.field_is).0 category.read_is in
    let s = (number_exact field.Start 1 4000000000 form start.field_is).0 start.read_is in
    let b = (number_exact field.BuyNow 0 4000000000 form buy_now.field_is).0 buy_now.read_is in
    let h = (number_exact field.Hours 1 720 form hours.field_is).0 hours.read_is in
    let price = (and_parts (nat_le 0 buy_now.field_is) (nat_le buy_now.field_is 4000000000) b.1).1 in
    same_told route.Sell query form _ a hours.made_is
    (refl, (t.0, c.0, s.0, b.0, h.0), and_from _ _ t.1 (and_from _ _ c.1 (and_from _ _ s.1 (and_from _ _ price h.1))))

bid_told : (query form : List ℕ) (a : Action) → bid_in form ≡ Ok a → Told route.Bid query form a
unfolding bid_in
bid_told query form a e =
    let item = made_of (id_in field.Item form) _ a e in
    let amount = made_of (number_in field.Amount 1 4000000000 form) _ a item.made_is in
    let i = (id_exact field.Item form item.field_is).0 item.read_is in
    let m = (number_exact field.Amount 1 4000000000 form amount.field_is).0 amount.read_is in
    same_told route.Bid query form _ a amount.made_is (refl, (i.0, m.0), and_from _ _ i.1 m.1)

buy_told : (query form : List ℕ) (a : Action) → buy_in form ≡ Ok a → Told route.Buy query form a
unfolding buy_in
buy_told query form a e =
    let item = made_of (id_in field.Item form) _ a e in
    let i = (id_exact field.Item form item.field_is).0 item.read_is in
    same_told route.Buy query form _ a item.made_is (refl, i.0, i.1)

close_told : (query form : List ℕ) (a : Action) → close_in form ≡ Ok a → Told route.Close query form a
unfolding close_in
close_told query form a e =
    let item = made_of (id_in field.Item form) _ a e in
    let i = (id_exact field.Item form item.field_is).0 item.read_is in
    same_told route.Close query form _ a item.made_is (refl, i.0, i.1)

feedback_told : (query form : List ℕ) (a : Action) → feedback_in form ≡ Ok a → Told route.Feedback query form a
unfolding feedback_in
feedback_told query form a e =
    let item = made_of (id_in field.Item form) _ a e in
    let good = made_of (good_in form) _ a item.made_is in
    let text = made_of (text_in field.Text 0 200 form) _ a good.made_is in
    let i = (id_exact field.Item form item.field_is).0 item.read_is in
    let g = (good_exact form good.field_is).0 good.read_is in
    let t = (text_exact field.Text 0 200 form text.field_is).0 text.read_is in
    same_told route.Feedback query form _ a text.made_is (refl, (i.0, g, t.0), and_from _ _ i.1 t.1)

told : (asked : SiteAction) (query form : List ℕ) (a : Action) → HasId asked → asked_action asked query form ≡ Ok a → Told asked query form a
told route.Home query form a id e = same_told route.Home query form action.Home a e (refl, tt, refl)
told route.Register query form a id e = register_told query form a e
told route.SignIn query form a id e = sign_in_told query form a e
told route.SignOut query form a id e = same_told route.SignOut query form action.SignOut a e (refl, tt, refl)
told route.Categories query form a id e = same_told route.Categories query form action.Categories a e (refl, tt, refl)
told route.AddCategory query form a id e = category_told query form a e
told (route.Browse category) query form a id e = browse_told category query form a id e
told (route.Item item) query form a id e = same_told (route.Item item) query form (action.Item item) a e (refl, tt, id_is item id)
told (route.User user) query form a id e = same_told (route.User user) query form (action.User user) a e (refl, tt, id_is user id)
told route.About query form a id e = same_told route.About query form action.About a e (refl, tt, refl)
told route.Sell query form a id e = sell_told query form a e
told route.Bid query form a id e = bid_told query form a e
told route.Buy query form a id e = buy_told query form a e
told route.Close query form a id e = close_told query form a e
told route.Feedback query form a id e = feedback_told query form a e
told (route.Form kind) query form a id e = same_told (route.Form kind) query form (action.Form kind) a e (refl, tt, refl)

-- an action that is said and in its ranges is read
abbrev Reads : Action → Type 0
Reads a = (query form : List ℕ) → IsSaid a query form → is_action a ≡ true → asked_action (route_of a) query form ≡ Ok a

register_reads : (name password : List ℕ) → Reads (action.Register name password)
unfolding register_in
register_reads name password query form said is =
    let parts = and_parts (is_user_name name) (is_text 1 72 password) is in
    made (user_name_in form) name _ (action.Register name password) ((user_name_exact form name).1 (said.0, parts.0))
    (made (text_in field.Password 1 72 form) password _ (action.Register name password) ((text_exact field.Password 1 72 form password).1 (said.1, parts.1)) refl)

sign_in_reads : (name password : List ℕ) → Reads (action.SignIn name password)
unfolding sign_in_in
sign_in_reads name password query form said is =
    let parts = and_parts (is_user_name name) (is_text 1 72 password) is in
    made (user_name_in form) name _ (action.SignIn name password) ((user_name_exact form name).1 (said.0, parts.0))
    (made (text_in field.Password 1 72 form) password _ (action.SignIn name password) ((text_exact field.Password 1 72 form password).1 (said.1, parts.1)) refl)

category_reads : (name : List ℕ) → Reads (action.AddCategory name)
unfolding category_in
category_reads name query form said is =
    made (text_in field.Name 1 40 form) name _ (action.AddCategory name) ((text_exact field.Name 1 40 form name).1 (said, is)) refl

browse_reads : (category page : ℕ) → Reads (action.Browse category page)
unfolding browse_in
browse_reads category page query form said is =
    let parts = and_parts (is_id category) (nat_le page 9999) is in
    made (page_in query) page _ (action.Browse category page) ((page_exact query page).1 (said, parts.1)) refl

sell_reads : (title : List ℕ) (category start buy_now hours : ℕ) → Reads (action.Sell title category start buy_now hours)
unfolding sell_in
sell_reads title category start buy_now hours query form said is =
    let a : Action = action.Sell title category start buy_now hours in
    let t = and_parts (is_text 1 80 title) _ is in
    let c = and_parts (is_id category) _ t.1 in
    let s = and_parts (is_between 1 4000000000 start) _ c.1 in
    let b = and_parts (nat_le buy_now 4000000000) (is_between 1 720 hours) s.1 in
    made (text_in field.Title 1 80 form) title _ a ((text_exact field.Title 1 80 form title).1 (said.0, t.0))
    (made (id_in field.Category form) category _ a ((id_exact field.Category form category).1 (said.1, c.0))
    (made (number_in field.Start 1 4000000000 form) start _ a ((number_exact field.Start 1 4000000000 form start).1 (said.2, s.0))
    (made (number_in field.BuyNow 0 4000000000 form) buy_now _ a ((number_exact field.BuyNow 0 4000000000 form buy_now).1 (said.3, price_is buy_now b.0))
    (made (number_in field.Hours 1 720 form) hours _ a ((number_exact field.Hours 1 720 form hours).1 (said.4, b.1)) refl))))

bid_reads : (item amount : ℕ) → Reads (action.Bid item amount)
unfolding bid_in
bid_reads item amount query form said is =
    let parts = and_parts (is_id item) (is_between 1 4000000000 amount) is in
    made (id_in field.Item form) item _ (action.Bid item amount) ((id_exact field.Item form item).1 (said.0, parts.0))
    (made (number_in field.Amount 1 4000000000 form) amount _ (action.Bid item amount) ((number_exact field.Amount 1 4000000000 form amount).1 (said.1, parts.1)) refl)

buy_reads : (item : ℕ) → Reads (action.Buy item)
unfolding buy_in
buy_reads item query form said is = made (id_in field.Item form) item _ (action.Buy item) ((id_exact field.Item form item).1 (said, is)) refl

close_reads : (item : ℕ) → Reads (action.Close item)
unfolding close_in
close_reads item query form said is = made (id_in field.Item form) item _ (action.Close item) ((id_exact field.Item form item).1 (said, is)) refl

feedback_reads : (item : ℕ) (good : Bool) (text : List ℕ) → Reads (action.Feedback item good text)
unfolding feedback_in
feedback_reads item good text query form said is =
    let a : Action = action.Feedback item good text in
    let parts = and_parts (is_id item) (is_text 0 200 text) is in
    made (id_in field.Item form) item _ a ((id_exact field.Item form item).1 (said.0, parts.0))
    (made (good_in form) good _ a ((good_exact form good).1 said.1)
    (made (text_in field.Text 0 200 form) text _ a ((text_exact field.Text 0 200 form text).1 (said.2, parts.1)) refl))

reads : (a : Action) → Reads a
reads action.Home query form said is = refl
reads (action.Register name password) query form said is = register_reads name password query form said is
reads (action.SignIn name password) query form said is = sign_in_reads name password query form said is
reads action.SignOut query form said is = refl
reads action.Categories query form said is = refl
reads (action.AddCategory name) query form said is = category_reads name query form said is
reads (action.Browse category page) query form said is = browse_reads category page query form said is
reads (action.Item item) query form said is = refl
reads (action.User user) query form said is = refl
reads action.About query form said is = refl
reads (action.Sell title category start buy_now hours) query form said is = sell_reads title category start buy_now hours query form said is
reads (action.Bid item amount) query form said is = bid_reads item amount query form said is
reads (action.Buy item) query form said is = buy_reads item query form said is
reads (action.Close item) query form said is = close_reads item query form said is
reads (action.Feedback item good text) query form said is = feedback_reads item good text query form said is
reads (action.Form kind) query form said is = refl

pub read_exactly : (asked : SiteAction) (query form : List ℕ) (a : Action) → HasId asked
    → (asked_action asked query form ≡ Ok a) ↔ ((route_of a ≡ asked) × IsSaid a query form × (is_action a ≡ true))
read_exactly asked query form a id = (
  told asked query form a id,
  λ h. subst (λ (x : SiteAction). asked_action x query form ≡ Ok a) h.0 (reads a query form h.1 h.2),
)
