-- Each call comes to what the site means by it.
use Rattle.std.specs.Prelude.{IsSome}
use Rattle.std.proofs.Common.{◌≡◌, true, List, Option, Some, refl, ap, sym, subst}
use Rattle.std.proofs.lemmas.Bool.{and_parts}
use Rattle.crash_base.specs.declared.rows.RowWrite.{RowWrite}
use Rattle.deployment.specs.declared.parts.Parts.{Parts}
use Rattle.journal_model.specs.declared.entry.CommitEntry.{CommitEntry}
use Rattle.journal_model.specs.declared.entry.ActionEntry.{ActionEntry}
use Rattle.journal_model.specs.declared.entry.DoneText.{DoneText}
use Rattle.journal_model.specs.declared.entry.Entry.{Entry}
use Rattle.journal_model.specs.declared.entry.Mark.{Mark}
use Rattle.journal_model.specs.Calls.{Call, entry_of}
use Rattle.journal_model.specs.Legal.{IsCurrent}
use Rattle.journal_model.specs.Rows.{rows_after}
use Rattle.journal_model.specs.Snapshots.{snapshot}
use Rattle.call_ticket.specs.declared.next.Answer.{Answer}
use Rattle.call_ticket.specs.declared.next.Next.{Next}
use Rattle.call_ticket.specs.declared.next.Next.TheVariants as next
use Rattle.call_ticket.specs.Following.{Follows}
use Rattle.call_ticket.specs.Runs.{Ran, Makes, run_of}
use Rattle.call_ticket.proofs.EqualRuns.{serial}
use Rattle.action_plans.proofs.Driving.{plan_run}
use Rattle.action_plans.specs.Steps.{outcome_of}
use Rattle.auction_calls.specs.Calls.{is_text, is_user_name, is_id, is_action, is_call}
use Rattle.auction_calls.specs.declared.action.Action.{Action}
use Rattle.auction_calls.specs.declared.action.Action.TheVariants as action
use Rattle.auction_calls.specs.declared.action.ActionCall.{ActionCall}
use Rattle.auction_calls.specs.Texts.{Spells}
use Rattle.auction_rows.specs.Parts.{site_parts, site_components, site_references, site_tables}
use Rattle.auction_site.specs.Actions.{offer_of, meaning, site, planned, plan_of, through_of, steps_of}
use Rattle.auction_site.specs.Found.{finished}
use Rattle.auction_site.specs.Meant.{IsMade, Means, IsMeant}
use Rattle.auction_site.proofs.Showing.{sign_in_comes, categories_comes, browse_comes, show_item_comes, show_user_comes, show_own_items_comes}
use Rattle.auction_site.proofs.Writing.{register_comes, add_category_comes, sell_comes, bid_comes, buy_comes, close_comes, give_feedback_comes}

-- the plan of an action in its ranges comes to what the site means
action_comes : (call : ActionCall) (a : Action) (rows : List RowWrite) → is_action a ≡ true
    → outcome_of site_parts (through_of a) rows (planned call a) ≡ Some (finished (meaning call a rows))
unfolding outcome_of site_components site_references site_tables
action_comes call action.Home rows is = refl
action_comes call (action.Register name password) rows is =
    register_comes name password call.fresh call.now.0 rows (and_parts (is_user_name name) (is_text 1 72 password) is).0
action_comes call (action.SignIn name password) rows is = sign_in_comes name password call.now.0 rows
action_comes call action.SignOut rows is = refl
action_comes call action.Categories rows is = categories_comes rows
action_comes call (action.AddCategory name) rows is = add_category_comes call.user name rows is
action_comes call (action.Browse category page) rows is = browse_comes category page rows
action_comes call (action.Item item) rows is = show_item_comes item rows
action_comes call (action.User user) rows is = show_user_comes user rows
action_comes call action.About rows is = show_own_items_comes call.user rows
action_comes call (action.Sell title category start buy_now hours) rows is =
    sell_comes call.user call.now.0 (offer_of title category start buy_now hours) rows (and_parts (is_text 1 80 title) _ is).0
action_comes call (action.Bid item amount) rows is = bid_comes call.user call.now.0 item amount rows
action_comes call (action.Buy item) rows is = buy_comes call.user call.now.0 item rows
action_comes call (action.Close item) rows is = close_comes call.user item rows
action_comes call (action.Feedback item good text) rows is =
    give_feedback_comes call.user item good text rows (and_parts (is_id item) (is_text 0 200 text) is).1
action_comes call (action.Form kind) rows is = refl

pub call_comes : (call : ActionCall) (rows : List RowWrite) → is_call call ≡ true
    → outcome_of site_parts (through_of call.action) rows (plan_of call) ≡ Some (site call rows)
call_comes call rows is = action_comes call call.action rows (and_parts (is_action call.action) _ is).0

-- and its run writes and answers just this
pub call_runs : (call : ActionCall) (rows : List RowWrite) → is_call call ≡ true
    → (marks : List Mark) × (run_of site_parts (steps_of call) rows
    ≡ Some (record { marks = marks; writes = (site call rows).writes; done = (site call rows).done }))
call_runs call rows is =
    plan_run site_parts (through_of call.action) (plan_of call) rows (site call rows) (call_comes call rows is)

-- so it is done
pub call_is_done : (call : ActionCall) (rows : List RowWrite) → is_call call ≡ true → IsSome (run_of site_parts (steps_of call) rows)
call_is_done call rows is =
    let ran = call_runs call rows is in
    let P : Option Ran → Type 0 = λ o. IsSome o in
    subst P (sym ran.1) refl

same_run : (o : Option Ran) (a b : Ran) → o ≡ Some a → o ≡ Some b → a ≡ b
same_run o a b x y = cc

-- what a call did over rows is what the site means by it there
made_means : (call : ActionCall) (rows : List RowWrite) (entry : CommitEntry) (action : ActionEntry) → Spells action.text call
    → Makes site_parts (steps_of call) rows entry action.done → Means rows entry action
unfolding Makes
made_means call rows entry action spelled made =
    let runs = call_runs call rows spelled.in_ranges in
    let here : Ran = record { marks = entry.reads; writes = entry.writes; done = action.done } in
    let its : Ran = record { marks = runs.0; writes = (site call rows).writes; done = (site call rows).done } in
    let one : here ≡ its = same_run (run_of site_parts (steps_of call) rows) here its made runs.1 in
    record { call = call; spelled = spelled; writes = ap (λ (r : Ran). r.writes) one; answers = ap (λ (r : Ran). r.done) one }

-- so what is made means what its own action does, at its own place
pub made_at_its_place : (base : List RowWrite) (es : List Entry) (entry : CommitEntry) → IsCurrent base es entry
    → (made : IsMade (snapshot base es entry.at.0) entry) → Means (rows_after base es) entry made.action
made_at_its_place base es entry current made =
    made_means made.call (rows_after base es) entry made.action made.spelled
    (serial site_parts (steps_of made.call) base es entry made.action.done current made.made)

same_action : (o : Option ActionEntry) (a b : ActionEntry) → o ≡ Some a → o ≡ Some b → a ≡ b
same_action o a b x y = cc

-- and a commit is meant at its own place
pub commit_is_meant : (base : List RowWrite) (es : List Entry) (entry : CommitEntry) → IsCurrent base es entry
    → IsMade (snapshot base es entry.at.0) entry → IsMeant (rows_after base es) entry
commit_is_meant base es entry current made = λ action is.
    subst (λ (a : ActionEntry). Means (rows_after base es) entry a) (same_action entry.action made.action action made.is_there is)
    (made_at_its_place base es entry current made)

-- so it is in the site's deployment, for a call in its ranges
pub accepted_is_done : (call : ActionCall) (parts : Parts) (rows : List RowWrite) → (parts ≡ site_parts) × (is_call call ≡ true)
    → IsSome (run_of parts (steps_of call) rows)
accepted_is_done call parts rows accepted =
    subst (λ p. IsSome (run_of p (steps_of call) rows)) (sym accepted.0) (call_is_done call rows accepted.1)

-- what a call that follows a program to its end has marked and written is what its run gives
abbrev pub FollowRule : Type 0
FollowRule = (parts : Parts) (asks : List Answer → Next) (rows : List RowWrite) (answers : List Answer) (call : Call) (d : DoneText)
    → IsSome (run_of parts asks rows) → Follows asks rows answers call → asks answers ≡ next.Done d
    → run_of parts asks rows ≡ Some (record { marks = call.marks; writes = call.writes; done = d })

-- a call that follows its steps to their end has made its entry
pub followed_is_made : FollowRule → (call : ActionCall) (rows : List RowWrite) (answers : List Answer) (made : Call) (action : ActionEntry)
    → Spells action.text call → Follows (steps_of call) rows answers made → steps_of call answers ≡ next.Done action.done
    → IsMade rows (entry_of made (Some action))
unfolding Makes
followed_is_made follow_rule call rows answers made action spelled follows asked = record {
  action = action;
  is_there = refl;
  call = call;
  spelled = spelled;
  made = follow_rule site_parts (steps_of call) rows answers made action.done (call_is_done call rows spelled.in_ranges) follows asked;
}
