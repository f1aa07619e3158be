-- The texts of calls, as the journal has them. Numbers are big-endian.
use Rattle.std.specs.Prelude.{codes, ◌≡◌, ℕ, true, List, [], ◌∷◌, ◌++◌}
use Rattle.byte_fields.specs.Spelling.{u64_bytes, text16, flag}
use Rattle.auction_calls.specs.declared.action.Action.{Action}
use Rattle.auction_calls.specs.declared.action.Action.TheVariants.{Home, Register, SignIn, SignOut, Categories, AddCategory, Browse, Item, User, About, Sell, Bid, Buy, Close, Feedback, Form}
use Rattle.auction_calls.specs.declared.action.ActionCall.{ActionCall}
use Rattle.auction_calls.specs.declared.action.FormKind.{FormKind}
use Rattle.auction_calls.specs.declared.action.FormKind.TheVariants as kinds
use Rattle.auction_calls.specs.Calls.{is_call}

-- the word of a form
abbrev pub kind_text : FormKind → List ℕ
kind_text kinds.Register = codes "register"
kind_text kinds.SignIn = codes "signin"
kind_text kinds.SignOut = codes "signout"
kind_text kinds.Category = codes "category"
kind_text kinds.Sell = codes "sell"
kind_text kinds.Bid = codes "bid"
kind_text kinds.Buy = codes "buy"
kind_text kinds.Close = codes "close"
kind_text kinds.Feedback = codes "feedback"

-- the number of an action
abbrev pub action_number : Action → ℕ
action_number Home = 1
action_number (Register name password) = 2
action_number (SignIn name password) = 3
action_number SignOut = 4
action_number Categories = 5
action_number (AddCategory name) = 6
action_number (Browse category page) = 7
action_number (Item item) = 8
action_number (User user) = 9
action_number About = 10
action_number (Sell title category start buy_now hours) = 11
action_number (Bid item amount) = 12
action_number (Buy item) = 13
action_number (Close item) = 14
action_number (Feedback item good text) = 15
action_number (Form kind) = 16

-- the fields of an action, in order
unfoldable pub field_bytes : Action → List ℕ
field_bytes Home = []
field_bytes (Register name password) = text16 name ++ text16 password
field_bytes (SignIn name password) = text16 name ++ text16 password
field_bytes SignOut = []
field_bytes Categories = []
field_bytes (AddCategory name) = text16 name
field_bytes (Browse category page) = u64_bytes category ++ u64_bytes page
field_bytes (Item item) = u64_bytes item
field_bytes (User user) = u64_bytes user
field_bytes About = []
field_bytes (Sell title category start buy_now hours) =
    text16 title
    ++ (u64_bytes category ++ (u64_bytes start ++ (u64_bytes buy_now ++ u64_bytes hours)))
field_bytes (Bid item amount) = u64_bytes item ++ u64_bytes amount
field_bytes (Buy item) = u64_bytes item
field_bytes (Close item) = u64_bytes item
field_bytes (Feedback item good text) = u64_bytes item ++ (u64_bytes (flag good) ++ text16 text)
field_bytes (Form kind) = text16 (kind_text kind)

-- who asks, when, and what else the answer depends on
unfoldable pub head_bytes : ActionCall → List ℕ
head_bytes c =
    u64_bytes c.user ++ (c.key.0 ++ (u64_bytes c.now.0 ++ (u64_bytes c.fresh ++ c.form)))

-- The text of a call: the number of its action, who asks, when and the rest, and the action's fields.
unfoldable pub call_bytes : ActionCall → List ℕ
call_bytes c = action_number c.action ∷ head_bytes c ++ field_bytes c.action

-- A text spells a call: the call is in its ranges, and the text is that of the call.
pub record Spells (text : List ℕ) (call : ActionCall) : Type 0 where
  pub in_ranges : is_call call ≡ true
  pub bytes_are : text ≡ call_bytes call

-- a text spells no call
abbrev pub SpellsNoCall : List ℕ → Type 0
SpellsNoCall text = (call : ActionCall) → ¬ Spells text call
