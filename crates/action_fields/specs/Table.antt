-- The fields of each action, each with whether the query or the form says it well, and the first that it does not.
use Rattle.std.specs.Prelude.{◌≡◌, ℕ, Bool, if◌then◌else◌, List, [], ◌∷◌, Option, Some, None, Result, Ok, is_ok}
use Rattle.auction_calls.specs.declared.action.Action.{Action}
use Rattle.site_routes.specs.declared.path_actions.SiteAction.{SiteAction}
use Rattle.site_routes.specs.declared.path_actions.SiteAction.TheVariants as route
use Rattle.action_fields.specs.Asked.{asked_action}
use Rattle.action_fields.specs.Reading.{good_in, id_in, number_in, page_in, text_in, user_name_in}
use Rattle.action_fields.specs.declared.form_field.FormField.{FormField}
use Rattle.action_fields.specs.declared.form_field.FormField.TheVariants as field

-- a field, and whether it is said as it must be
pub record FieldRead : Type 0 where
  pub name : FormField
  pub is_good : Bool

-- a field that was read so
abbrev pub read_as : {A : Type 0} → FormField → Result A FormField → FieldRead
read_as which read = record { name = which; is_good = is_ok read }

-- a name of a user and a password
abbrev pub credential_fields : List ℕ → List FieldRead
credential_fields form =
    read_as field.Name (user_name_in form) ∷ read_as field.Password (text_in field.Password 1 72 form) ∷ []

-- an offer
abbrev pub offer_fields : List ℕ → List FieldRead
offer_fields form =
    read_as field.Title (text_in field.Title 1 80 form) ∷ read_as field.Category (id_in field.Category form)
    ∷ read_as field.Start (number_in field.Start 1 4000000000 form)
    ∷ read_as field.BuyNow (number_in field.BuyNow 0 4000000000 form)
    ∷ read_as field.Hours (number_in field.Hours 1 720 form) ∷ []

-- the fields of an action, in their order
abbrev pub fields_of : SiteAction → List ℕ → List ℕ → List FieldRead
fields_of route.Home query form = []
fields_of route.Register query form = credential_fields form
fields_of route.SignIn query form = credential_fields form
fields_of route.SignOut query form = []
fields_of route.Categories query form = []
fields_of route.AddCategory query form = read_as field.Name (text_in field.Name 1 40 form) ∷ []
fields_of (route.Browse category) query form = read_as field.Page (page_in query) ∷ []
fields_of (route.Item item) query form = []
fields_of (route.User user) query form = []
fields_of route.About query form = []
fields_of route.Sell query form = offer_fields form
fields_of route.Bid query form =
    read_as field.Item (id_in field.Item form) ∷ read_as field.Amount (number_in field.Amount 1 4000000000 form) ∷ []
fields_of route.Buy query form = read_as field.Item (id_in field.Item form) ∷ []
fields_of route.Close query form = read_as field.Item (id_in field.Item form) ∷ []
fields_of route.Feedback query form =
    read_as field.Item (id_in field.Item form) ∷ read_as field.Good (good_in form)
    ∷ read_as field.Text (text_in field.Text 0 200 form) ∷ []
fields_of (route.Form kind) query form = []

-- the first of some fields that is not said as it must be, if one is not
abbrev pub first_bad : List FieldRead → Option FormField
first_bad [] = None
first_bad (f ∷ fs) = if f.is_good then first_bad fs else Some f.name

-- an action is read of the query or the form
abbrev pub IsRead : SiteAction → List ℕ → List ℕ → Type 0
IsRead asked query form = (action : Action) × (asked_action asked query form ≡ Ok action)
