-- What a form is filled in for.
use Rattle.auction_calls.specs.declared.action.FormKind.{FormKind}
use Rattle.auction_calls.specs.declared.action.FormKind.TheVariants as kind
use Rattle.site_routes.specs.declared.path_actions.SiteAction.{SiteAction}
use Rattle.site_routes.specs.declared.path_actions.SiteAction.TheVariants as route

-- the action that a form is filled in for
abbrev pub filled_for : FormKind → SiteAction
filled_for kind.Register = route.Register
filled_for kind.SignIn = route.SignIn
filled_for kind.SignOut = route.SignOut
filled_for kind.Category = route.AddCategory
filled_for kind.Sell = route.Sell
filled_for kind.Bid = route.Bid
filled_for kind.Buy = route.Buy
filled_for kind.Close = route.Close
filled_for kind.Feedback = route.Feedback
