-- The rows of a router that takes routes one after another, each by its text.
use Rattle.std.specs.Prelude.{ℕ, List, [], ◌∷◌, Option, Some, None, option_and_then, Result, Ok, Err, codes}
use Rattle.matchit.specs.Order.{placed}
use Rattle.matchit.specs.Route.{Scan, parse_route}
use Rattle.matchit.specs.Router.{RouteOf, nearest, route_from}
use Rattle.matchit.specs.Rows.{RowsOf}
use Rattle.matchit.specs.declared.error.InsertError.{InsertError}
use Rattle.site_routes.specs.declared.site_route.SiteRoute.{SiteRoute}
use Rattle.site_routes.specs.declared.site_route.SiteRoute.TheVariants.{Home, Register, SignIn, SignOut, Categories, Category, Item, User, About, Sell, Bid, Buy, Close, Feedback, Form}

-- the text of a route, where a parameter stands in braces
abbrev pub route_text : SiteRoute → List ℕ
route_text Home = codes "/"
route_text Register = codes "/register"
route_text SignIn = codes "/signin"
route_text SignOut = codes "/signout"
route_text Categories = codes "/categories"
route_text Category = codes "/category/{id}"
route_text Item = codes "/item/{id}"
route_text User = codes "/user/{id}"
route_text About = codes "/about"
route_text Sell = codes "/sell"
route_text Bid = codes "/bid"
route_text Buy = codes "/buy"
route_text Close = codes "/close"
route_text Feedback = codes "/feedback"
route_text Form = codes "/form/{kind}"

-- the rows of routes
abbrev pub SiteRows : Type 0
SiteRows = RowsOf (RouteOf SiteRoute)

-- rows, where no row conflicts
abbrev pub unless_conflict : Option (RouteOf SiteRoute) → SiteRows → Option SiteRows
unless_conflict None rows = Some rows
unless_conflict (Some row) rows = None

-- the rows with one more route, which its text was read as. None where the text was no route's, or a row conflicts
abbrev pub with_route : Result Scan InsertError → SiteRoute → SiteRows → Option SiteRows
with_route (Ok scan) route rows =
    unless_conflict (nearest scan.pattern rows) (placed (scan.pattern, route_from scan route) rows)
with_route (Err error) route rows = None

-- the rows with these routes. None where the router would refuse one
unfoldable pub inserted : List SiteRoute → SiteRows → Option SiteRows
inserted [] rows = Some rows
inserted (route ∷ routes) rows =
    option_and_then (inserted routes) (with_route (parse_route (route_text route)) route rows)
