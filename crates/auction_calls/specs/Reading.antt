-- Which call a text spells, read from the first byte to the last.
use Rattle.std.specs.Prelude.{codes, ℕ, ◌==◌, ◌&&◌, bytes_eq, Bool, if◌then◌else◌, List, [], ◌∷◌, length, Option, Some, None}
use Rattle.std.specs.Option.{option_map, option_and_then}
use Rattle.std.specs.Int.{w64}
use Rattle.byte_fields.specs.Reading.{Field, made, both, bytes_at, number_at, id_at, text_at, flag_of}
use Rattle.auction_calls.specs.declared.action.Action.{Action}
use Rattle.auction_calls.specs.declared.action.Action.TheVariants.{Home, Register, SignIn, SignOut, Categories, AddCategory, Browse, Item, User, About, Sell, Bid, Buy, Close, Feedback, Form}
use Rattle.auction_calls.specs.declared.action.ActionCall.{ActionCall}
use Rattle.auction_calls.specs.declared.action.FormKind.{FormKind}
use Rattle.auction_calls.specs.declared.action.FormKind.TheVariants as kinds
use Rattle.auction_calls.specs.declared.fields.CallHead.{CallHead}
use Rattle.auction_calls.specs.declared.fields.Credentials.{Credentials}
use Rattle.auction_calls.specs.Calls.{is_call}

-- a field whose value is found from another's, where there is one
abbrev pub found : {A B : Type 0} → (A → Option B) → Field A → Field B
found find field bytes = option_and_then (λ x. option_map (λ y. (y, x.1)) (find x.0)) (field bytes)

-- a field of no bytes
abbrev pub empty : {A : Type 0} → A → Field A
empty x bytes = Some (x, bytes)

-- a truth, in eight bytes
unfoldable pub truth_at : Field Bool
truth_at bytes = found flag_of (number_at w64) bytes

-- the form of this word
unfoldable pub kind_of : List ℕ → Option FormKind
kind_of word =
    if bytes_eq word (codes "register") then Some kinds.Register else (
    if bytes_eq word (codes "signin") then Some kinds.SignIn else (
    if bytes_eq word (codes "signout") then Some kinds.SignOut else (
    if bytes_eq word (codes "category") then Some kinds.Category else (
    if bytes_eq word (codes "sell") then Some kinds.Sell else (
    if bytes_eq word (codes "bid") then Some kinds.Bid else (
    if bytes_eq word (codes "buy") then Some kinds.Buy else (
    if bytes_eq word (codes "close") then Some kinds.Close else (
    if bytes_eq word (codes "feedback") then Some kinds.Feedback else None))))))))

-- the word of a form, as a text
unfoldable pub kind_at : Field FormKind
kind_at bytes = found kind_of text_at bytes

-- who asks, when, and what else the answer depends on
unfoldable pub head_at : Field CallHead
head_at bytes =
    made
    (λ h.
    record { user = h.0; key = record { 0 = h.1.0 }; now = record { 0 = h.1.1.0 }; fresh = h.1.1.1.0; form = h.1.1.1.1 })
    (both id_at (both (bytes_at 16) (both (number_at w64) (both (number_at w64) (bytes_at 56))))) bytes

-- a name and a password
unfoldable pub credentials_at : Field Credentials
credentials_at bytes =
    made (λ c. record { name = c.0; password = c.1 }) (both text_at text_at) bytes

-- the fields of Register
unfoldable pub register_at : Field Action
register_at bytes = made (λ c. Register c.name c.password) credentials_at bytes

-- the fields of SignIn
unfoldable pub sign_in_at : Field Action
sign_in_at bytes = made (λ c. SignIn c.name c.password) credentials_at bytes

-- the field of AddCategory
unfoldable pub add_category_at : Field Action
add_category_at bytes = made (λ name. AddCategory name) text_at bytes

-- the fields of Browse
unfoldable pub browse_at : Field Action
browse_at bytes = made (λ f. Browse f.0 f.1) (both id_at id_at) bytes

-- the field of Item
unfoldable pub item_at : Field Action
item_at bytes = made (λ item. Item item) id_at bytes

-- the field of User
unfoldable pub user_at : Field Action
user_at bytes = made (λ user. User user) id_at bytes

-- the fields of Sell
unfoldable pub sell_at : Field Action
sell_at bytes =
    made (λ f. Sell f.0 f.1.0 f.1.1.0 f.1.1.1.0 f.1.1.1.1)
    (both text_at (both id_at (both (number_at w64) (both (number_at w64) id_at)))) bytes

-- the fields of Bid
unfoldable pub bid_at : Field Action
bid_at bytes = made (λ f. Bid f.0 f.1) (both id_at (number_at w64)) bytes

-- the field of Buy
unfoldable pub buy_at : Field Action
buy_at bytes = made (λ item. Buy item) id_at bytes

-- the field of Close
unfoldable pub close_at : Field Action
close_at bytes = made (λ item. Close item) id_at bytes

-- the fields of Feedback
unfoldable pub feedback_at : Field Action
feedback_at bytes =
    made (λ f. Feedback f.0 f.1.0 f.1.1) (both id_at (both truth_at text_at)) bytes

-- the field of Form
unfoldable pub form_at : Field Action
form_at bytes = made (λ kind. Form kind) kind_at bytes

-- the action of this number, by its fields
abbrev pub action_at : ℕ → Field Action
action_at number bytes =
    if number == 1 then empty Home bytes else (
    if number == 2 then register_at bytes else (
    if number == 3 then sign_in_at bytes else (
    if number == 4 then empty SignOut bytes else (
    if number == 5 then empty Categories bytes else (
    if number == 6 then add_category_at bytes else (
    if number == 7 then browse_at bytes else (
    if number == 8 then item_at bytes else (
    if number == 9 then user_at bytes else (
    if number == 10 then empty About bytes else (
    if number == 11 then sell_at bytes else (
    if number == 12 then bid_at bytes else (
    if number == 13 then buy_at bytes else (
    if number == 14 then close_at bytes else (
    if number == 15 then feedback_at bytes else (
    if number == 16 then form_at bytes else None)))))))))))))))

-- a call: the number of its action, who asks, when and the rest, and the fields of the action
unfoldable pub call_at : Field ActionCall
call_at [] = None
call_at (number ∷ bytes) =
    made
    (λ c.
    record { action = c.1; user = c.0.user; key = c.0.key; now = c.0.now; fresh = c.0.fresh; form = c.0.form })
    (both head_at (action_at number)) bytes

-- The call that a text spells, the first to the last of its bytes.
unfoldable pub call_of : List ℕ → Option ActionCall
call_of text =
    option_and_then (λ c. if (length c.1 == 0) && is_call c.0 then Some c.0 else None) (call_at text)
