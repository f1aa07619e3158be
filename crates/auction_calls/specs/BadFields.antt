-- The fields of calls, each with whether it is in its range, and the first that is not.
use Rattle.std.specs.Prelude.{codes, ◌≡◌, ℕ, ◌^◌, nat_lt, nat_le, Bool, true, false, if◌then◌else◌, List, [], ◌∷◌, ◌++◌, Option, Some, None, All}
use Rattle.auction_calls.specs.declared.action.Action.{Action}
use Rattle.auction_calls.specs.declared.action.Action.TheVariants as action
use Rattle.auction_calls.specs.declared.action.ActionCall.{ActionCall}
use Rattle.auction_calls.specs.declared.call_field.CallField.{CallField}
use Rattle.auction_calls.specs.declared.call_field.CallField.TheVariants as field
use Rattle.auction_calls.specs.Calls.{is_between, is_id, is_text, is_user_name}

-- the name of a field, as forms have it
abbrev pub field_text : CallField → List ℕ
field_text field.Moment = codes "moment"
field_text field.Name = codes "name"
field_text field.Password = codes "password"
field_text field.Category = codes "category"
field_text field.Page = codes "page"
field_text field.Item = codes "item"
field_text field.User = codes "user"
field_text field.Title = codes "title"
field_text field.Start = codes "start"
field_text field.BuyNow = codes "buy_now"
field_text field.Hours = codes "hours"
field_text field.Amount = codes "amount"
field_text field.Text = codes "text"

-- a field, and whether it is in its range
pub record FieldTest : Type 0 where
  pub name : CallField
  pub is_in : Bool

-- a field that is in its range where the test holds
abbrev pub field_test : CallField → Bool → FieldTest
field_test named test = record { name = named; is_in = test }

-- a name of a user and a password
abbrev pub credential_fields : List ℕ → List ℕ → List FieldTest
credential_fields name password =
    field_test field.Name (is_user_name name) ∷ field_test field.Password (is_text 1 72 password) ∷ []

-- an offer: a title, a category, the start and the price of a sale at once in cents, and hours
abbrev pub offer_fields : List ℕ → ℕ → ℕ → ℕ → ℕ → List FieldTest
offer_fields title category start buy_now hours =
    field_test field.Title (is_text 1 80 title) ∷ field_test field.Category (is_id category)
    ∷ field_test field.Start (is_between 1 4000000000 start) ∷ field_test field.BuyNow (nat_le buy_now 4000000000)
    ∷ field_test field.Hours (is_between 1 720 hours) ∷ []

-- the fields of an action that have a range, in their order
abbrev pub action_fields : Action → List FieldTest
action_fields action.Home = []
action_fields (action.Register name password) = credential_fields name password
action_fields (action.SignIn name password) = credential_fields name password
action_fields action.SignOut = []
action_fields action.Categories = []
action_fields (action.AddCategory name) = field_test field.Name (is_text 1 40 name) ∷ []
action_fields (action.Browse category page) =
    field_test field.Category (is_id category) ∷ field_test field.Page (nat_le page 9999) ∷ []
action_fields (action.Item item) = field_test field.Item (is_id item) ∷ []
action_fields (action.User user) = field_test field.User (is_id user) ∷ []
action_fields action.About = []
action_fields (action.Sell title category start buy_now hours) = offer_fields title category start buy_now hours
action_fields (action.Bid item amount) =
    field_test field.Item (is_id item) ∷ field_test field.Amount (is_between 1 4000000000 amount) ∷ []
action_fields (action.Buy item) = field_test field.Item (is_id item) ∷ []
action_fields (action.Close item) = field_test field.Item (is_id item) ∷ []
action_fields (action.Feedback item good text) =
    field_test field.Item (is_id item) ∷ field_test field.Text (is_text 0 200 text) ∷ []
action_fields (action.Form kind) = []

-- The fields of a call that have a range: its moment, and those of its action in their order.
abbrev pub call_fields : ActionCall → List FieldTest
call_fields c = field_test field.Moment (nat_lt c.now.0 (2 ^ 62)) ∷ action_fields c.action

-- the first of some fields that is out of its range, if one is
abbrev pub first_out : List FieldTest → Option CallField
first_out [] = None
first_out (t ∷ ts) = if t.is_in then first_out ts else Some t.name

-- The first field of a call that is out of its range, if one is.
abbrev pub bad_field : ActionCall → Option CallField
bad_field c = first_out (call_fields c)

-- a field is the first of these that is out of its range: it is out, and each before it is in its own
pub record IsFirstOut (fields : List FieldTest) (named : CallField) : Type 0 where
  pub before : List FieldTest
  pub after : List FieldTest
  pub are : fields ≡ before ++ field_test named false ∷ after
  pub in_range : All (λ (t : FieldTest). t.is_in ≡ true) before
