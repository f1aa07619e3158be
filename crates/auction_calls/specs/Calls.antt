-- The ranges of calls: which of them a client may make.
use Rattle.std.specs.Prelude.{ℕ, ◌^◌, ◌==◌, ◌&&◌, nat_lt, nat_le, Bool, true, List, length}
use Rattle.std.specs.List.{list_all}
use Rattle.std.specs.Str.{is_utf8}
use Rattle.crash_base.specs.Names.{is_name_byte}
use Rattle.auction_calls.specs.declared.action.Action.{Action}
use Rattle.auction_calls.specs.declared.action.Action.TheVariants.{Home, Register, SignIn, SignOut, Categories, AddCategory, Browse, Item, User, About, Sell, Bid, Buy, Close, Feedback, Form}
use Rattle.auction_calls.specs.declared.action.ActionCall.{ActionCall}

-- a number from the least to the most, both of them too
abbrev pub is_between : ℕ → ℕ → ℕ → Bool
is_between least most n = nat_le least n && nat_le n most

-- the number of a user, item or category
abbrev pub is_id : ℕ → Bool
is_id n = is_between 1 4294967295 n

-- a text of UTF-8, with so many bytes
abbrev pub is_text : ℕ → ℕ → List ℕ → Bool
is_text least most text = is_between least most (length text) && is_utf8 text

-- the name of a user: 1 to 24 letters of ASCII, digits or `_`
abbrev pub is_user_name : List ℕ → Bool
is_user_name name = is_between 1 24 (length name) && list_all is_name_byte name

-- a name of a user and a password
abbrev pub are_credentials : List ℕ → List ℕ → Bool
are_credentials name password = is_user_name name && is_text 1 72 password

-- an offer: a title, a category, the start and the price of a sale at once in cents, and hours
abbrev pub is_offer : List ℕ → ℕ → ℕ → ℕ → ℕ → Bool
is_offer title category start buy_now hours =
    is_text 1 80 title
    && (is_id category
    && (is_between 1 4000000000 start && (nat_le buy_now 4000000000 && is_between 1 720 hours)))

-- a bid on an item, in cents
abbrev pub is_bid : ℕ → ℕ → Bool
is_bid item amount = is_id item && is_between 1 4000000000 amount

-- Each field of an action is in its range.
abbrev pub is_action : Action → Bool
is_action Home = true
is_action (Register name password) = are_credentials name password
is_action (SignIn name password) = are_credentials name password
is_action SignOut = true
is_action Categories = true
is_action (AddCategory name) = is_text 1 40 name
is_action (Browse category page) = is_id category && nat_le page 9999
is_action (Item item) = is_id item
is_action (User user) = is_id user
is_action About = true
is_action (Sell title category start buy_now hours) = is_offer title category start buy_now hours
is_action (Bid item amount) = is_bid item amount
is_action (Buy item) = is_id item
is_action (Close item) = is_id item
is_action (Feedback item good text) = is_id item && is_text 0 200 text
is_action (Form kind) = true

-- The fields of a call have the sizes that their types give them: a user a u32, the random number a
-- u64, the key 16 bytes and the token 56.
abbrev pub is_sized : ActionCall → Bool
is_sized c =
    nat_le c.user 4294967295
    && (nat_lt c.fresh (2 ^ 64) && ((length c.key.0 == 16) && (length c.form == 56)))

-- Each field of a call is in its range.
abbrev pub is_call : ActionCall → Bool
is_call c = is_action c.action && (nat_lt c.now.0 (2 ^ 62) && is_sized c)
