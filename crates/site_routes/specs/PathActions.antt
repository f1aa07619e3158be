-- The actions of each path, and which of them a method asks for. `actions_of` is the table of the site: a route by row,
-- with the action that GET and HEAD ask for (`reads`), the one that POST asks for (`writes`), or both.
use Rattle.std.specs.Prelude.{ℕ, ◌==◌, ◌||◌, nat_lt, if◌then◌else◌, List, drop, Option, Some, None}
use Rattle.auction_calls.specs.Reading.{kind_of}
use Rattle.auction_calls.specs.declared.action.FormKind.{FormKind}
use Rattle.decimal_digits.specs.Digits.{plain_number}
use Rattle.http_wire.specs.declared.taken.MethodKind.{MethodKind}
use Rattle.http_wire.specs.declared.taken.MethodKind.TheVariants.{Get, HeadOnly, Post, Other}
use Rattle.site_routes.specs.Routes.{site_route}
use Rattle.site_routes.specs.declared.path_actions.TheConstants.{MAX_ID}
use Rattle.site_routes.specs.declared.path_actions.PathActions.{PathActions}
use Rattle.site_routes.specs.declared.path_actions.PathActions.TheVariants.{Read, Write, Both}
use Rattle.site_routes.specs.declared.path_actions.SiteAction.{SiteAction}
use Rattle.site_routes.specs.declared.path_actions.SiteAction.TheVariants as action
use Rattle.site_routes.specs.declared.routed.Routed.{Routed}
use Rattle.site_routes.specs.declared.routed.Routed.TheVariants.{Action, NotThere, NotAllowed}
use Rattle.site_routes.specs.declared.site_route.SiteRoute.{SiteRoute}
use Rattle.site_routes.specs.declared.site_route.SiteRoute.TheVariants as route

-- a number that is an id: 1 to 4,294,967,295
abbrev pub id_in : Option ℕ → Option ℕ
id_in None = None
id_in (Some number) = if number == 0 || nat_lt MAX_ID number then None else Some number

-- the id that a text writes, with no zero before it
abbrev pub id_of : List ℕ → Option ℕ
id_of text = id_in (plain_number text)

-- this action by GET and HEAD
abbrev pub reads : SiteAction → Option PathActions
reads asked = Some (Read asked)

-- this action by POST
abbrev pub writes : SiteAction → Option PathActions
writes asked = Some (Write asked)

-- the page of the category of an id
abbrev pub browsed : Option ℕ → Option PathActions
browsed None = None
browsed (Some id) = reads (action.Browse id)

-- the page of the item of an id
abbrev pub item_read : Option ℕ → Option PathActions
item_read None = None
item_read (Some id) = reads (action.Item id)

-- the page of the user of an id
abbrev pub user_read : Option ℕ → Option PathActions
user_read None = None
user_read (Some id) = reads (action.User id)

-- the form of a kind
abbrev pub kind_actions : Option FormKind → Option PathActions
kind_actions None = None
kind_actions (Some kind) = reads (action.Form kind)

-- the actions of a path that takes a route, where this text stands for its parameter
abbrev pub actions_of : SiteRoute → List ℕ → Option PathActions
actions_of route.Home text = reads action.Home
actions_of route.Register text = writes action.Register
actions_of route.SignIn text = writes action.SignIn
actions_of route.SignOut text = writes action.SignOut
actions_of route.Categories text = Some (Both action.Categories action.AddCategory)
actions_of route.Category text = browsed (id_of text)
actions_of route.Item text = item_read (id_of text)
actions_of route.User text = user_read (id_of text)
actions_of route.About text = reads action.About
actions_of route.Sell text = writes action.Sell
actions_of route.Bid text = writes action.Bid
actions_of route.Buy text = writes action.Buy
actions_of route.Close text = writes action.Close
actions_of route.Feedback text = writes action.Feedback
actions_of route.Form text = kind_actions (kind_of text)

-- how many bytes a path has before the parameter of its route
abbrev pub text_size : SiteRoute → ℕ
text_size route.Category = 10
text_size route.Item = 6
text_size route.User = 6
text_size route.Form = 6
text_size other = 0

-- the actions of a path that takes this route, if it takes one
abbrev pub actions_by : List ℕ → Option SiteRoute → Option PathActions
actions_by path None = None
actions_by path (Some found) = actions_of found (drop (text_size found) path)

-- the actions of a path
abbrev pub actions_at : List ℕ → Option PathActions
actions_at path = actions_by path (site_route path)

-- the methods that some action is asked for by: 1 is GET and HEAD, 2 is POST, and 3 is all three
abbrev pub allow_of : PathActions → ℕ
allow_of (Read asked) = 1
allow_of (Write asked) = 2
allow_of (Both read written) = 3

-- what GET and HEAD ask for at a path of these actions
abbrev pub read_of : PathActions → Routed
read_of (Read asked) = Action asked
read_of (Write asked) = NotAllowed 2
read_of (Both read written) = Action read

-- what POST asks for at a path of these actions
abbrev pub write_of : PathActions → Routed
write_of (Read asked) = NotAllowed 1
write_of (Write asked) = Action asked
write_of (Both read written) = Action written

-- what a method asks for at a path of these actions
abbrev pub routed_by : MethodKind → PathActions → Routed
routed_by Get actions = read_of actions
routed_by HeadOnly actions = read_of actions
routed_by Post actions = write_of actions
routed_by Other actions = NotAllowed (allow_of actions)

-- what a method asks for at a path of these actions, if it has any
abbrev pub routed_to : MethodKind → Option PathActions → Routed
routed_to method None = NotThere
routed_to method (Some actions) = routed_by method actions

-- what a path and a method lead to: nothing is there, or not by this method, or an action
abbrev pub routed : List ℕ → MethodKind → Routed
routed path method = routed_to method (actions_at path)
