-- The steps of a call whose action is in its ranges keep the rules of calls in the site's deployment.
use Rattle.std.specs.Prelude.{IsSome}
use Rattle.std.proofs.Common.{◌≡◌, true, List, Option, Some, refl, sym, subst}
use Rattle.std.proofs.lemmas.Bool.{and_parts}
use Rattle.action_plans.proofs.Driving.{plan_run}
use Rattle.action_plans.specs.Steps.{outcome_of}
use Rattle.auction_calls.specs.Calls.{is_action, is_id, is_text, is_user_name}
use Rattle.auction_calls.specs.declared.action.Action.{Action}
use Rattle.auction_calls.specs.declared.action.Action.TheVariants as action
use Rattle.auction_calls.specs.declared.action.ActionCall.{ActionCall}
use Rattle.auction_rows.specs.Parts.{site_components, site_parts, site_references, site_tables}
use Rattle.auction_site.proofs.Showing.{browse_comes, categories_comes, show_item_comes, show_own_items_comes, show_user_comes, sign_in_comes}
use Rattle.auction_site.proofs.Writing.{add_category_comes, bid_comes, buy_comes, close_comes, give_feedback_comes, register_comes, sell_comes}
use Rattle.auction_site.specs.Actions.{meaning, offer_of, plan_of, planned, site, steps_of, through_of}
use Rattle.auction_site.specs.Found.{finished}
use Rattle.call_ticket.specs.Runs.{Ran, run_of}
use Rattle.crash_base.specs.declared.rows.RowWrite.{RowWrite}

-- the plan of an action in its ranges comes to what the site means
action_comes : (call : ActionCall) (a : Action) (rows : List RowWrite) → is_action a ≡ true
    → outcome_of site_parts (through_of a) rows (planned call a) ≡ Some (finished (meaning call a rows))
unfolding outcome_of site_components site_references site_tables
action_comes call action.Home rows is = refl
action_comes call (action.Register name password) rows is =
    register_comes name password call.fresh call.now.0 rows (and_parts (is_user_name name) (is_text 1 72 password) is).0
action_comes call (action.SignIn name password) rows is = sign_in_comes name password call.now.0 rows
action_comes call action.SignOut rows is = refl
action_comes call action.Categories rows is = categories_comes rows
action_comes call (action.AddCategory name) rows is = add_category_comes call.user name rows is
action_comes call (action.Browse category page) rows is = browse_comes category page rows
action_comes call (action.Item item) rows is = show_item_comes item rows
action_comes call (action.User user) rows is = show_user_comes user rows
action_comes call action.About rows is = show_own_items_comes call.user rows
action_comes call (action.Sell title category start buy_now hours) rows is =
    sell_comes call.user call.now.0 (offer_of title category start buy_now hours) rows (and_parts (is_text 1 80 title) _ is).0
action_comes call (action.Bid item amount) rows is = bid_comes call.user call.now.0 item amount rows
action_comes call (action.Buy item) rows is = buy_comes call.user call.now.0 item rows
action_comes call (action.Close item) rows is = close_comes call.user item rows
action_comes call (action.Feedback item good text) rows is =
    give_feedback_comes call.user item good text rows (and_parts (is_id item) (is_text 0 200 text) is).1
action_comes call (action.Form kind) rows is = refl

some-is : (o : Option Ran) (ran : Ran) → o ≡ Some ran → IsSome o
some-is o ran is = subst (λ (x : Option Ran). IsSome x) (sym is) refl

pub action-runs : (call : ActionCall) (rows : List RowWrite) → is_action call.action ≡ true → IsSome (run_of site_parts (steps_of call) rows)
action-runs call rows is =
    let run = plan_run site_parts (through_of call.action) (plan_of call) rows (site call rows) (action_comes call call.action rows is) in
    some-is (run_of site_parts (steps_of call) rows) (record { marks = run.0; writes = (site call rows).writes; done = (site call rows).done }) run.1
