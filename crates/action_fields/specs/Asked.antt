-- The action that a request asks for. `asked_action` is the table of the sixteen actions: from where a path and a
-- method lead, with what the path says, and the fields of the query or of the form, in their order.
use Rattle.std.specs.Prelude.{ℕ, List, Result, Ok, Err}
use Rattle.auction_calls.specs.declared.action.Action.{Action}
use Rattle.auction_calls.specs.declared.action.Action.TheVariants as action
use Rattle.site_routes.specs.declared.path_actions.SiteAction.{SiteAction}
use Rattle.site_routes.specs.declared.path_actions.SiteAction.TheVariants as route
use Rattle.action_fields.specs.Reading.{good_in, id_in, number_in, page_in, text_in, user_name_in}
use Rattle.action_fields.specs.declared.form_field.FormField.{FormField}
use Rattle.action_fields.specs.declared.form_field.FormField.TheVariants as field

-- what is made of a field, unless it is bad
abbrev pub with_field : {A B : Type 0} → Result A FormField → (A → Result B FormField) → Result B FormField
with_field (Ok value) make = make value
with_field (Err which) make = Err which

-- a new user
unfoldable pub register_in : List ℕ → Result Action FormField
register_in form =
    with_field (user_name_in form) (λ name.
    with_field (text_in field.Password 1 72 form) (λ password.
    Ok (action.Register name password)))

-- a user who signs in
unfoldable pub sign_in_in : List ℕ → Result Action FormField
sign_in_in form =
    with_field (user_name_in form) (λ name.
    with_field (text_in field.Password 1 72 form) (λ password.
    Ok (action.SignIn name password)))

-- a new category
unfoldable pub category_in : List ℕ → Result Action FormField
category_in form = with_field (text_in field.Name 1 40 form) (λ name. Ok (action.AddCategory name))

-- a page of a category
unfoldable pub browse_in : ℕ → List ℕ → Result Action FormField
browse_in category query = with_field (page_in query) (λ page. Ok (action.Browse category page))

-- the title and the category of what is offered, and the rest
unfoldable pub sell_in : List ℕ → Result Action FormField
sell_in form =
    with_field (text_in field.Title 1 80 form) (λ title.
    with_field (id_in field.Category form) (λ category.
    with_field (number_in field.Start 1 4000000000 form) (λ start.
    with_field (number_in field.BuyNow 0 4000000000 form) (λ buy_now.
    with_field (number_in field.Hours 1 720 form) (λ hours.
    Ok (action.Sell title category start buy_now hours))))))

-- a bid
unfoldable pub bid_in : List ℕ → Result Action FormField
bid_in form =
    with_field (id_in field.Item form) (λ item.
    with_field (number_in field.Amount 1 4000000000 form) (λ amount.
    Ok (action.Bid item amount)))

-- an item that is bought
unfoldable pub buy_in : List ℕ → Result Action FormField
buy_in form = with_field (id_in field.Item form) (λ item. Ok (action.Buy item))

-- an item whose auction ends
unfoldable pub close_in : List ℕ → Result Action FormField
close_in form = with_field (id_in field.Item form) (λ item. Ok (action.Close item))

-- what is said of the other side of a sale
unfoldable pub feedback_in : List ℕ → Result Action FormField
feedback_in form =
    with_field (id_in field.Item form) (λ item.
    with_field (good_in form) (λ good.
    with_field (text_in field.Text 0 200 form) (λ text.
    Ok (action.Feedback item good text))))

-- The action that a request asks for, or the first of its fields that is bad.
abbrev pub asked_action : SiteAction → List ℕ → List ℕ → Result Action FormField
asked_action route.Home query form = Ok action.Home
asked_action route.Register query form = register_in form
asked_action route.SignIn query form = sign_in_in form
asked_action route.SignOut query form = Ok action.SignOut
asked_action route.Categories query form = Ok action.Categories
asked_action route.AddCategory query form = category_in form
asked_action (route.Browse category) query form = browse_in category query
asked_action (route.Item item) query form = Ok (action.Item item)
asked_action (route.User user) query form = Ok (action.User user)
asked_action route.About query form = Ok action.About
asked_action route.Sell query form = sell_in form
asked_action route.Bid query form = bid_in form
asked_action route.Buy query form = buy_in form
asked_action route.Close query form = close_in form
asked_action route.Feedback query form = feedback_in form
asked_action (route.Form kind) query form = Ok (action.Form kind)
