-- What a query and a form say of an action: each of its values stands in the field of its name.
use Rattle.std.specs.Prelude.{◌≡◌, ℕ, if◌then◌else◌, Bool, List, Option, Some, None, ⊤}
use Rattle.decimal_digits.specs.Digits.{plain_number}
use Rattle.form_values.specs.Values.{field_text}
use Rattle.auction_calls.specs.declared.action.Action.{Action}
use Rattle.auction_calls.specs.declared.action.Action.TheVariants as action
use Rattle.site_routes.specs.declared.path_actions.SiteAction.{SiteAction}
use Rattle.site_routes.specs.declared.path_actions.SiteAction.TheVariants as route
use Rattle.action_fields.specs.Names.{field_name}
use Rattle.action_fields.specs.declared.form_field.FormField.{FormField}
use Rattle.action_fields.specs.declared.form_field.FormField.TheVariants as field

-- the text that a form has in a field, if it has the field
abbrev pub said_in : List ℕ → FormField → Option (List ℕ)
said_in form which = field_text form (field_name which)

-- a form has this text in a field
abbrev pub SaysText : List ℕ → FormField → List ℕ → Type 0
SaysText form which text = said_in form which ≡ Some text

-- a text is there, and writes this number
abbrev pub Writes : Option (List ℕ) → ℕ → Type 0
Writes said number = (text : List ℕ) × (said ≡ Some text) × (plain_number text ≡ Some number)

-- a form has this number in a field
abbrev pub SaysNumber : List ℕ → FormField → ℕ → Type 0
SaysNumber form which number = Writes (said_in form which) number

-- a form says by 1 or 0 in a field whether something is so
abbrev pub SaysWhether : List ℕ → FormField → Bool → Type 0
SaysWhether form which is_so = SaysNumber form which (if is_so then 1 else 0)

-- what is said of a page is this number, or nothing, and it is page 0
abbrev pub IsPage : Option (List ℕ) → ℕ → Type 0
IsPage None page = page ≡ 0
IsPage (Some text) page = plain_number text ≡ Some page

-- A query and a form say of an action what it is.
abbrev pub IsSaid : Action → List ℕ → List ℕ → Type 0
IsSaid action.Home query form = ⊤
IsSaid (action.Register name password) query form = SaysText form field.Name name × SaysText form field.Password password
IsSaid (action.SignIn name password) query form = SaysText form field.Name name × SaysText form field.Password password
IsSaid action.SignOut query form = ⊤
IsSaid action.Categories query form = ⊤
IsSaid (action.AddCategory name) query form = SaysText form field.Name name
IsSaid (action.Browse category page) query form = IsPage (said_in query field.Page) page
IsSaid (action.Item item) query form = ⊤
IsSaid (action.User user) query form = ⊤
IsSaid action.About query form = ⊤
IsSaid (action.Sell title category start buy_now hours) query form =
    SaysText form field.Title title × SaysNumber form field.Category category
    × SaysNumber form field.Start start × SaysNumber form field.BuyNow buy_now × SaysNumber form field.Hours hours
IsSaid (action.Bid item amount) query form = SaysNumber form field.Item item × SaysNumber form field.Amount amount
IsSaid (action.Buy item) query form = SaysNumber form field.Item item
IsSaid (action.Close item) query form = SaysNumber form field.Item item
IsSaid (action.Feedback item good text) query form =
    SaysNumber form field.Item item × SaysWhether form field.Good good × SaysText form field.Text text
IsSaid (action.Form kind) query form = ⊤

-- where a path and a method lead that ask for an action
abbrev pub route_of : Action → SiteAction
route_of action.Home = route.Home
route_of (action.Register name password) = route.Register
route_of (action.SignIn name password) = route.SignIn
route_of action.SignOut = route.SignOut
route_of action.Categories = route.Categories
route_of (action.AddCategory name) = route.AddCategory
route_of (action.Browse category page) = route.Browse category
route_of (action.Item item) = route.Item item
route_of (action.User user) = route.User user
route_of action.About = route.About
route_of (action.Sell title category start buy_now hours) = route.Sell
route_of (action.Bid item amount) = route.Bid
route_of (action.Buy item) = route.Buy
route_of (action.Close item) = route.Close
route_of (action.Feedback item good text) = route.Feedback
route_of (action.Form kind) = route.Form kind
