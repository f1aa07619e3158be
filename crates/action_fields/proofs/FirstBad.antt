-- The field that is which is the first of its action's that is not said as it must be.
use Rattle.std.proofs.Common.{◌≡◌, ◌↔◌, ℕ, Bool, true, false, cond, List, [], ◌∷◌, Option, Some, None, Result, Ok, Err, refl, ap, sym}
use Rattle.crash_base.specs.Names.{is_name}
use Rattle.form_values.specs.Values.{number_field, text_field}
use Rattle.form_values.specs.declared.refusal.FieldRefusal.{FieldRefusal}
use Rattle.form_values.specs.declared.refusal.FieldRefusal.TheVariants as refusal
use Rattle.auction_calls.specs.declared.action.Action.{Action}
use Rattle.auction_calls.specs.declared.action.Action.TheVariants as action
use Rattle.site_routes.specs.declared.path_actions.SiteAction.{SiteAction}
use Rattle.site_routes.specs.declared.path_actions.SiteAction.TheVariants as route
use Rattle.action_fields.specs.Asked.{asked_action, bid_in, browse_in, buy_in, category_in, close_in, feedback_in, register_in, sell_in, sign_in_in, with_field}
use Rattle.action_fields.specs.Names.{field_name}
use Rattle.action_fields.specs.Reading.{good_in, id_in, name_of, number_in, or_0, or_named, page_in, text_in, truth_of, user_name_in}
use Rattle.action_fields.specs.Table.{FieldRead, IsRead, fields_of, first_bad, read_as}
use Rattle.action_fields.specs.declared.form_field.FormField.{FormField}
use Rattle.action_fields.specs.declared.form_field.FormField.TheVariants as field

-- a field that is bad is which by its own name
abbrev Own : {A : Type 0} → FormField → Result A FormField → Type 0
Own which (Ok value) = Unit {0}
Own which (Err other) = other ≡ which

own_named : {A : Type 0} (which : FormField) (read : Result A FieldRefusal) → Own which (or_named which read)
own_named which (Ok value) = tt
own_named which (Err why) = refl

text_own : (which : FormField) (least most : ℕ) (form : List ℕ) → Own which (text_in which least most form)
unfolding text_in
text_own which least most form = own_named which (text_field form (field_name which) least most)

number_own : (which : FormField) (least most : ℕ) (form : List ℕ) → Own which (number_in which least most form)
unfolding number_in
number_own which least most form = own_named which (number_field form (field_name which) least most)

id_own : (which : FormField) (form : List ℕ) → Own which (id_in which form)
unfolding id_in
id_own which form = number_own which 1 4294967295 form

name_own : (form : List ℕ) → Own field.Name (user_name_in form)
unfolding user_name_in
name_own form = by (text_in field.Name 1 24 form) (text_own field.Name 1 24 form)
  where
    by_test : (test : Bool) (text : List ℕ) → Own field.Name (cond test (Ok text) (Err field.Name))
    by_test true text = tt
    by_test false text = refl

    by : (read : Result (List ℕ) FormField) → Own field.Name read → Own field.Name (name_of read)
    by (Ok text) own = by_test (is_name text) text
    by (Err other) own = own

page_own : (query : List ℕ) → Own field.Page (page_in query)
unfolding page_in
page_own query = by (number_field query (field_name field.Page) 0 9999)
  where
    by : (read : Result ℕ FieldRefusal) → Own field.Page (or_0 field.Page read)
    by (Ok number) = tt
    by (Err refusal.Missing) = tt
    by (Err (refusal.Length len)) = refl
    by (Err refusal.NotNumber) = refl
    by (Err (refusal.Range value)) = refl
    by (Err refusal.OutOfMemory) = refl

good_own : (form : List ℕ) → Own field.Good (good_in form)
unfolding good_in
good_own form = by (number_in field.Good 0 1 form) (number_own field.Good 0 1 form)
  where
    by : (read : Result ℕ FormField) → Own field.Good read → Own field.Good (truth_of read)
    by (Ok number) own = tt
    by (Err other) own = own

-- what was read names the first bad field, if one is
abbrev Agrees : {A : Type 0} → Result A FormField → Option FormField → Type 0
Agrees (Ok value) bad = bad ≡ None
Agrees (Err which) bad = bad ≡ Some which

step : {A B : Type 0} (which : FormField) (read : Result A FormField) (fields : List FieldRead) (make : A → Result B FormField)
    → Own which read → ((value : A) → Agrees (make value) (first_bad fields))
    → Agrees (with_field read make) (first_bad (read_as which read ∷ fields))
step which (Ok value) fields make own rest = rest value
step which (Err other) fields make own rest = ap (λ f. Some f) (sym own)

register_agrees : (form : List ℕ) → Agrees (register_in form) (first_bad (fields_of route.Register form form))
unfolding register_in
register_agrees form =
    step field.Name (user_name_in form) (read_as field.Password (text_in field.Password 1 72 form) ∷ []) _ (name_own form) (λ name.
    step field.Password (text_in field.Password 1 72 form) [] (λ password. Ok (action.Register name password)) (text_own field.Password 1 72 form) (λ password. refl))

sign_in_agrees : (form : List ℕ) → Agrees (sign_in_in form) (first_bad (fields_of route.SignIn form form))
unfolding sign_in_in
sign_in_agrees form =
    step field.Name (user_name_in form) (read_as field.Password (text_in field.Password 1 72 form) ∷ []) _ (name_own form) (λ name.
    step field.Password (text_in field.Password 1 72 form) [] (λ password. Ok (action.SignIn name password)) (text_own field.Password 1 72 form) (λ password. refl))

category_agrees : (form : List ℕ) → Agrees (category_in form) (first_bad (fields_of route.AddCategory form form))
unfolding category_in
category_agrees form =
    step field.Name (text_in field.Name 1 40 form) [] (λ name. Ok (action.AddCategory name)) (text_own field.Name 1 40 form) (λ name. refl)

browse_agrees : (category : ℕ) (query : List ℕ) → Agrees (browse_in category query) (first_bad (fields_of (route.Browse category) query query))
unfolding browse_in
browse_agrees category query =
    step field.Page (page_in query) [] (λ page. Ok (action.Browse category page)) (page_own query) (λ page. refl)

-- the fields of an offer behind each
abbrev after_buy_now : List ℕ → List FieldRead
after_buy_now form = read_as field.Hours (number_in field.Hours 1 720 form) ∷ []

abbrev after_start : List ℕ → List FieldRead
after_start form = read_as field.BuyNow (number_in field.BuyNow 0 4000000000 form) ∷ after_buy_now form

abbrev after_category : List ℕ → List FieldRead
after_category form = read_as field.Start (number_in field.Start 1 4000000000 form) ∷ after_start form

abbrev after_title : List ℕ → List FieldRead
after_title form = read_as field.Category (id_in field.Category form) ∷ after_category form

sell_agrees : (form : List ℕ) → Agrees (sell_in form) (first_bad (fields_of route.Sell form form))
unfolding sell_in
sell_agrees form =
    step field.Title (text_in field.Title 1 80 form) (after_title form) _ (text_own field.Title 1 80 form) (λ title.
    step field.Category (id_in field.Category form) (after_category form) _ (id_own field.Category form) (λ category.
    step field.Start (number_in field.Start 1 4000000000 form) (after_start form) _ (number_own field.Start 1 4000000000 form) (λ start.
    step field.BuyNow (number_in field.BuyNow 0 4000000000 form) (after_buy_now form) _ (number_own field.BuyNow 0 4000000000 form) (λ buy_now.
    step field.Hours (number_in field.Hours 1 720 form) [] (λ hours. Ok (action.Sell title category start buy_now hours)) (number_own field.Hours 1 720 form) (λ hours. refl)))))

bid_agrees : (form : List ℕ) → Agrees (bid_in form) (first_bad (fields_of route.Bid form form))
unfolding bid_in
bid_agrees form =
    step field.Item (id_in field.Item form) (read_as field.Amount (number_in field.Amount 1 4000000000 form) ∷ []) _ (id_own field.Item form) (λ item.
    step field.Amount (number_in field.Amount 1 4000000000 form) [] (λ amount. Ok (action.Bid item amount)) (number_own field.Amount 1 4000000000 form) (λ amount. refl))

buy_agrees : (form : List ℕ) → Agrees (buy_in form) (first_bad (fields_of route.Buy form form))
unfolding buy_in
buy_agrees form =
    step field.Item (id_in field.Item form) [] (λ item. Ok (action.Buy item)) (id_own field.Item form) (λ item. refl)

close_agrees : (form : List ℕ) → Agrees (close_in form) (first_bad (fields_of route.Close form form))
unfolding close_in
close_agrees form =
    step field.Item (id_in field.Item form) [] (λ item. Ok (action.Close item)) (id_own field.Item form) (λ item. refl)

feedback_agrees : (form : List ℕ) → Agrees (feedback_in form) (first_bad (fields_of route.Feedback form form))
unfolding feedback_in
feedback_agrees form =
    step field.Item (id_in field.Item form)
    (read_as field.Good (good_in form) ∷ read_as field.Text (text_in field.Text 0 200 form) ∷ []) _ (id_own field.Item form) (λ item.
    step field.Good (good_in form) (read_as field.Text (text_in field.Text 0 200 form) ∷ []) _ (good_own form) (λ good.
    step field.Text (text_in field.Text 0 200 form) [] (λ text. Ok (action.Feedback item good text)) (text_own field.Text 0 200 form) (λ text. refl)))

agrees : (asked : SiteAction) (query form : List ℕ) → Agrees (asked_action asked query form) (first_bad (fields_of asked query form))
agrees route.Home query form = refl
agrees route.Register query form = register_agrees form
agrees route.SignIn query form = sign_in_agrees form
agrees route.SignOut query form = refl
agrees route.Categories query form = refl
agrees route.AddCategory query form = category_agrees form
agrees (route.Browse category) query form = browse_agrees category query
agrees (route.Item item) query form = refl
agrees (route.User user) query form = refl
agrees route.About query form = refl
agrees route.Sell query form = sell_agrees form
agrees route.Bid query form = bid_agrees form
agrees route.Buy query form = buy_agrees form
agrees route.Close query form = close_agrees form
agrees route.Feedback query form = feedback_agrees form
agrees (route.Form kind) query form = refl

named_first : (read : Result Action FormField) (bad : Option FormField) (which : FormField) → Agrees read bad
    → (read ≡ Err which) ↔ (bad ≡ Some which)
named_first (Ok value) bad which is = (λ e. absurd (cc), λ e. absurd (cc))
named_first (Err other) bad which is = (λ e. cc, λ e. cc)

all_good : (read : Result Action FormField) (bad : Option FormField) → Agrees read bad
    → ((value : Action) × (read ≡ Ok value)) ↔ (bad ≡ None)
all_good (Ok value) bad is = (λ e. is, λ e. (value, refl))
all_good (Err other) bad is = (λ e. let same = e.1 in absurd (cc), λ e. absurd (cc))

pub bad_is_first : (asked : SiteAction) (query form : List ℕ) (which : FormField)
    → (asked_action asked query form ≡ Err which) ↔ (first_bad (fields_of asked query form) ≡ Some which)
bad_is_first asked query form which =
    named_first (asked_action asked query form) (first_bad (fields_of asked query form)) which (agrees asked query form)

pub good_is_read : (asked : SiteAction) (query form : List ℕ)
    → IsRead asked query form ↔ (first_bad (fields_of asked query form) ≡ None)
good_is_read asked query form =
    all_good (asked_action asked query form) (first_bad (fields_of asked query form)) (agrees asked query form)
