-- The sixteen actions: what the site means by a call, and its plan.
use Rattle.std.specs.Prelude.{ℕ, List, Option, Some, None, Ok}
use Rattle.crash_base.specs.declared.rows.RowWrite.{RowWrite}
use Rattle.action_plans.specs.declared.plan.Outcome.{Outcome}
use Rattle.action_plans.specs.declared.plan.Through.{Through}
use Rattle.action_plans.specs.Plans.{Plan, Gives}
use Rattle.action_plans.specs.Steps.{program_of}
use Rattle.call_ticket.specs.declared.next.Answer.{Answer}
use Rattle.call_ticket.specs.declared.next.Next.{Next}
use Rattle.auction_calls.specs.declared.action.Action.{Action}
use Rattle.auction_calls.specs.declared.action.Action.TheVariants as action
use Rattle.auction_calls.specs.declared.action.ActionCall.{ActionCall}
use Rattle.auction_rows.specs.declared.components.TheConstants.{BIDS, PURCHASES, FEEDBACK, CALL, BUY}
use Rattle.auction_rows.specs.Parts.{site_parts}
use Rattle.auction_site.specs.Found.{Found, finished}
use Rattle.auction_site.specs.Outcomes.{Offer, home, signed_out, form_shown}
use Rattle.auction_site.specs.Planned.{register_plan, sign_in_plan, categories_plan, add_category_plan, browse_plan, show_item_plan, show_user_plan, show_own_items_plan, sell_plan, bid_plan, buy_plan, close_plan, give_feedback_plan}
use Rattle.auction_site.specs.Rules.{register, sign_in, categories, add_category, browse, show_item, show_user, show_own_items, sell, bid, buy, close, give_feedback}

-- the offer of these fields
abbrev pub offer_of : List ℕ → ℕ → ℕ → ℕ → ℕ → Offer
offer_of title category start buy_now hours =
    record { title = title; category = category; start = start; buy_now = buy_now; hours = hours }

-- what the site means by an action of a user at a moment
abbrev pub meaning : ActionCall → Action → List RowWrite → Found Outcome
meaning call action.Home rows = Ok (home call.user)
meaning call (action.Register name password) rows = register name password call.fresh call.now.0 rows
meaning call (action.SignIn name password) rows = sign_in name password call.now.0 rows
meaning call action.SignOut rows = Ok (signed_out call.now.0)
meaning call action.Categories rows = categories rows
meaning call (action.AddCategory name) rows = add_category call.user name rows
meaning call (action.Browse category page) rows = browse category page rows
meaning call (action.Item item) rows = show_item item rows
meaning call (action.User user) rows = show_user user rows
meaning call action.About rows = show_own_items call.user rows
meaning call (action.Sell title category start buy_now hours) rows =
    sell call.user call.now.0 (offer_of title category start buy_now hours) rows
meaning call (action.Bid item amount) rows = bid call.user call.now.0 item amount rows
meaning call (action.Buy item) rows = buy call.user call.now.0 item rows
meaning call (action.Close item) rows = close call.user item rows
meaning call (action.Feedback item good text) rows = give_feedback call.user item good text rows
meaning call (action.Form kind) rows = Ok (form_shown call.user call.now.0 call.form kind)

-- What the site writes and answers when a call is made over these rows.
abbrev pub site : ActionCall → List RowWrite → Outcome
site call rows = finished (meaning call call.action rows)

-- the plan of an action of a user at a moment
abbrev pub planned : ActionCall → Action → Plan Outcome
planned call action.Home = Gives (home call.user)
planned call (action.Register name password) = register_plan name password call.fresh call.now.0
planned call (action.SignIn name password) = sign_in_plan name password call.now.0
planned call action.SignOut = Gives (signed_out call.now.0)
planned call action.Categories = categories_plan
planned call (action.AddCategory name) = add_category_plan call.user name
planned call (action.Browse category page) = browse_plan category page
planned call (action.Item item) = show_item_plan item
planned call (action.User user) = show_user_plan user
planned call action.About = show_own_items_plan call.user
planned call (action.Sell title category start buy_now hours) =
    sell_plan call.user call.now.0 (offer_of title category start buy_now hours)
planned call (action.Bid item amount) = bid_plan call.user call.now.0 item amount
planned call (action.Buy item) = buy_plan call.user call.now.0 item
planned call (action.Close item) = close_plan call.user item
planned call (action.Feedback item good text) = give_feedback_plan call.user item good text
planned call (action.Form kind) = Gives (form_shown call.user call.now.0 call.form kind)

-- the plan of a call
abbrev pub plan_of : ActionCall → Plan Outcome
plan_of call = planned call call.action

-- a component of the site, entered by one of its methods
abbrev pub through : ℕ → ℕ → Option Through
through component method = Some (record { component = record { 0 = component }; method = method })

-- The component behind Web that an action goes through: Bids, Purchases or Feedback. Of their methods
-- only that of a purchase may not be called again.
abbrev pub through_of : Action → Option Through
through_of action.Home = None
through_of (action.Register name password) = None
through_of (action.SignIn name password) = None
through_of action.SignOut = None
through_of action.Categories = None
through_of (action.AddCategory name) = None
through_of (action.Browse category page) = None
through_of (action.Item item) = None
through_of (action.User user) = None
through_of action.About = None
through_of (action.Sell title category start buy_now hours) = None
through_of (action.Bid item amount) = through BIDS CALL
through_of (action.Buy item) = through PURCHASES BUY
through_of (action.Close item) = through PURCHASES CALL
through_of (action.Feedback item good text) = through FEEDBACK CALL
through_of (action.Form kind) = None

-- The steps of a call: the program of its plan over the site's tables.
abbrev pub steps_of : ActionCall → List Answer → Next
steps_of call = program_of site_parts.tables (through_of call.action) (plan_of call)
