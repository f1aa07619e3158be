-- The path of each action, written from the action, and the methods that ask for it.
use Rattle.std.specs.Prelude.{ℕ, ◌<◌, ◌^◌, Bool, true, false, not, List, ◌++◌, codes, ⊤}
use Rattle.std.specs.Fmt.{decimal}
use Rattle.auction_calls.specs.Texts.{kind_text}
use Rattle.http_wire.specs.declared.taken.MethodKind.{MethodKind}
use Rattle.http_wire.specs.declared.taken.MethodKind.TheVariants.{Get, HeadOnly, Post, Other}
use Rattle.site_routes.specs.declared.path_actions.SiteAction.{SiteAction}
use Rattle.site_routes.specs.declared.path_actions.SiteAction.TheVariants.{Home, Register, SignIn, SignOut, Categories, AddCategory, Browse, Item, User, About, Sell, Bid, Buy, Close, Feedback, Form}
use Rattle.site_routes.specs.declared.routed.Routed.{Routed}
use Rattle.site_routes.specs.declared.routed.Routed.TheVariants.{Action, NotThere, NotAllowed}

-- the path of an action
abbrev pub path_of : SiteAction → List ℕ
path_of Home = codes "/"
path_of Register = codes "/register"
path_of SignIn = codes "/signin"
path_of SignOut = codes "/signout"
path_of Categories = codes "/categories"
path_of AddCategory = codes "/categories"
path_of (Browse category) = codes "/category/" ++ decimal category
path_of (Item item) = codes "/item/" ++ decimal item
path_of (User user) = codes "/user/" ++ decimal user
path_of About = codes "/about"
path_of Sell = codes "/sell"
path_of Bid = codes "/bid"
path_of Buy = codes "/buy"
path_of Close = codes "/close"
path_of Feedback = codes "/feedback"
path_of (Form kind) = codes "/form/" ++ kind_text kind

-- whether an action only shows a page
abbrev pub is_read : SiteAction → Bool
is_read Home = true
is_read Register = false
is_read SignIn = false
is_read SignOut = false
is_read Categories = true
is_read AddCategory = false
is_read (Browse category) = true
is_read (Item item) = true
is_read (User user) = true
is_read About = true
is_read Sell = false
is_read Bid = false
is_read Buy = false
is_read Close = false
is_read Feedback = false
is_read (Form kind) = true

-- whether a method asks for an action: GET and HEAD for one that only shows a page, and POST for each other
abbrev pub asks : MethodKind → SiteAction → Bool
asks Get asked = is_read asked
asks HeadOnly asked = is_read asked
asks Post asked = not (is_read asked)
asks Other asked = false

-- an id: 1 to 4,294,967,295
abbrev pub IsId : ℕ → Type 0
IsId id = (0 < id) × (id < 2 ^ 32)

-- what an action names has an id, if it names anything
abbrev pub HasId : SiteAction → Type 0
HasId Home = ⊤
HasId Register = ⊤
HasId SignIn = ⊤
HasId SignOut = ⊤
HasId Categories = ⊤
HasId AddCategory = ⊤
HasId (Browse category) = IsId category
HasId (Item item) = IsId item
HasId (User user) = IsId user
HasId About = ⊤
HasId Sell = ⊤
HasId Bid = ⊤
HasId Buy = ⊤
HasId Close = ⊤
HasId Feedback = ⊤
HasId (Form kind) = ⊤

-- whether a path and a method lead to an action
abbrev pub is_action : Routed → Bool
is_action (Action asked) = true
is_action NotThere = false
is_action (NotAllowed allow) = false

-- the field that names the methods of a path, where some lead to an action: GET and HEAD, POST, or all three
abbrev pub methods_field : Bool → Bool → List ℕ
methods_field true false = codes "Allow: GET, HEAD\r\n"
methods_field false true = codes "Allow: POST\r\n"
methods_field true true = codes "Allow: GET, HEAD, POST\r\n"
methods_field false false = codes ""
