-- Only a purchase enters a component by a method that may not be called again.
use Rattle.std.proofs.Common.{◌≡◌, ◌≢◌, ℕ, ◌==◌, ◌&&◌, ◌||◌, nat_lt, not, Bool, true, false, cond, List, [], ◌∷◌, Option, Some, None, refl, ap, sym, subst, slice_get, option_map, find, ◌∙◌}
use Rattle.std.specs.List.{list_all}
use Rattle.crash_base.specs.declared.numbers.ComponentNo.{ComponentNo}
use Rattle.crash_base.specs.declared.rows.RowWrite.{RowWrite}
use Rattle.deployment.specs.declared.parts.TablePart.{TablePart}
use Rattle.deployment.specs.Parts.{idempotent, owner_of}
use Rattle.journal_model.specs.declared.entry.DoneText.{DoneText}
use Rattle.journal_model.specs.declared.entry.ReadMark.{ReadMark}
use Rattle.journal_model.specs.declared.entry.ReadMark.TheVariants.{Row, Table}
use Rattle.call_ticket.specs.declared.next.Answer.{Answer}
use Rattle.call_ticket.specs.declared.next.Answer.TheVariants.{Entered}
use Rattle.call_ticket.specs.declared.next.Next.{Next}
use Rattle.call_ticket.specs.declared.next.Next.TheVariants as next
use Rattle.action_plans.specs.declared.plan.Outcome.{Outcome}
use Rattle.action_plans.specs.declared.plan.Through.{Through}
use Rattle.action_plans.specs.declared.plan.Want.{Want}
use Rattle.action_plans.specs.declared.plan.Want.TheVariants as want
use Rattle.action_plans.specs.Plans.{Plan, walk, wanted}
use Rattle.action_plans.specs.Steps.{enter_count, exit_count, put_count, home_depth, enter_home, is_away, is_home, has_just_entered, access_in, reading, table_of, putting, wanting, program_of, reads_in}
use Rattle.auction_calls.specs.declared.action.Action.{Action}
use Rattle.auction_calls.specs.declared.action.Action.TheVariants as action
use Rattle.auction_calls.specs.declared.action.ActionCall.{ActionCall}
use Rattle.auction_rows.specs.Parts.{site_parts, site_components, site_tables}
use Rattle.auction_site.specs.Actions.{through, through_of, plan_of, steps_of}
use Rattle.call_ticket.specs.Repeated.{may_repeat}

-- a step may be made again
abbrev Repeats : Next → Type 0
Repeats step = may_repeat site_parts step ≡ true

-- whether what an action goes through may be entered again
abbrev home_repeats : Option Through → Bool
home_repeats None = true
home_repeats (Some t) = idempotent site_parts t.component.0 t.method

either : (test : Bool) (a b : Next) → Repeats a → Repeats b → Repeats (cond test a b)
either true a b first second = first
either false a b first second = second

enter_repeats : (through : Option Through) (n : ℕ) → home_repeats through ≡ true → Repeats (enter_home through n)
unfolding site_components
enter_repeats None n is = refl
enter_repeats (Some t) n is = by_first (n == 0)
  where
    by_first : (first : Bool) → Repeats (cond first (enter_home None 0) (next.Enter t.component t.method))
    by_first true = refl
    by_first false = is

-- whether the method `call` of the owner of a table may be called again
abbrev owner_repeats : Option ComponentNo → Bool
owner_repeats None = true
owner_repeats (Some owner) = idempotent site_parts owner.0 0

owners_repeat : (tables : List TablePart) (t : ℕ) → list_all (λ p. idempotent site_parts p.owner.0 0) tables ≡ true
    → owner_repeats (owner_of tables t) ≡ true
owners_repeat [] t all = refl
owners_repeat (p ∷ ps) t all = by_table (p.table == t) (idempotent site_parts p.owner.0 0) refl all (owners_repeat ps t)
  where
    by_table : (here repeats : Bool) → idempotent site_parts p.owner.0 0 ≡ repeats → (repeats && list_all (λ p. idempotent site_parts p.owner.0 0) ps) ≡ true
        → (list_all (λ p. idempotent site_parts p.owner.0 0) ps ≡ true → owner_repeats (owner_of ps t) ≡ true)
        → owner_repeats (option_map (λ p. p.owner) (cond here (Some p) (find (λ p. p.table == t) ps))) ≡ true
    by_table true true is others later = is
    by_table false true is others later = later others
    by_table here false is others later = absurd (cc)

owner_of_site : (t : ℕ) → owner_repeats (owner_of site_tables t) ≡ true
unfolding site_components site_tables
owner_of_site t = owners_repeat site_tables t refl

access_repeats : (through : Option Through) (answers : List Answer) (owner : Option ComponentNo) (x : Next) → owner_repeats owner ≡ true → Repeats x
    → Repeats (access_in through answers owner x)
access_repeats through answers None x is step = step
access_repeats through answers (Some owner) x is step =
    either (is_away through answers || is_home through owner) x (next.Enter owner 0) step is

reading_repeats : (m : ReadMark) → Repeats (reading m)
reading_repeats (Row id) = refl
reading_repeats (Table t) = refl

putting_repeats : (through : Option Through) (answers : List Answer) (done : DoneText) (w : Option RowWrite)
    → Repeats (putting site_tables through answers done w)
putting_repeats through answers done None = either (enter_count answers == exit_count answers) (next.Done done) next.Exit refl refl
putting_repeats through answers done (Some w) =
    access_repeats through answers (owner_of site_tables w.id.table) (next.Put w) (owner_of_site w.id.table) refl

wanting_repeats : (through : Option Through) (answers : List Answer) (w : Want) → Repeats (wanting site_tables through answers w)
wanting_repeats through answers (want.Ask m) =
    access_repeats through answers (owner_of site_tables (table_of m)) (reading m) (owner_of_site (table_of m)) (reading_repeats m)
wanting_repeats through answers (want.Finish o) = putting_repeats through answers o.done (slice_get o.writes (put_count answers))

-- the steps of a program, where its home may be entered again
program_repeats : (through : Option Through) (plan : Plan Outcome) (answers : List Answer) → home_repeats through ≡ true
    → Repeats (program_of site_tables through plan answers)
program_repeats through plan answers is =
    let w : Want = wanted (walk plan (reads_in answers)) in
    either (nat_lt (enter_count answers) (home_depth through)) (enter_home through (enter_count answers)) _ (enter_repeats through (enter_count answers) is)
    (either (is_away through answers && not (has_just_entered answers)) next.Exit (wanting site_tables through answers w) refl (wanting_repeats through answers w))

home_of_action : (a : Action) → ((item : ℕ) → a ≢ action.Buy item) → home_repeats (through_of a) ≡ true
unfolding site_components
home_of_action action.Home other = refl
home_of_action (action.Register name password) other = refl
home_of_action (action.SignIn name password) other = refl
home_of_action action.SignOut other = refl
home_of_action action.Categories other = refl
home_of_action (action.AddCategory name) other = refl
home_of_action (action.Browse category page) other = refl
home_of_action (action.Item item) other = refl
home_of_action (action.User user) other = refl
home_of_action action.About other = refl
home_of_action (action.Sell title category start buy_now hours) other = refl
home_of_action (action.Bid item amount) other = refl
home_of_action (action.Buy item) other = absurd (other item refl)
home_of_action (action.Close item) other = refl
home_of_action (action.Feedback item good text) other = refl
home_of_action (action.Form kind) other = refl

pub others_repeat : (call : ActionCall) (answers : List Answer) → ((item : ℕ) → call.action ≢ action.Buy item)
    → may_repeat site_parts (steps_of call answers) ≡ true
others_repeat call answers other = program_repeats (through_of call.action) (plan_of call) answers (home_of_action call.action other)

-- the second step of what goes through Purchases by its method `buy`
buying : (plan : Plan Outcome) → may_repeat site_parts (program_of site_tables (through 6 1) plan (Entered ∷ [])) ≡ false
unfolding enter_count site_components
buying plan = refl

pub buy_does_not : (call : ActionCall) (item : ℕ) → call.action ≡ action.Buy item → may_repeat site_parts (steps_of call (Entered ∷ [])) ≡ false
buy_does_not call item is =
    let P : Option Through → Type 0 = λ t. may_repeat site_parts (program_of site_tables t (plan_of call) (Entered ∷ [])) ≡ false in
    subst P (sym (ap through_of is)) (buying (plan_of call))

-- the second step of an action that goes through a component
second_step : (component method : ℕ) (plan : Plan Outcome)
    → program_of site_tables (through component method) plan (Entered ∷ []) ≡ next.Enter (record { 0 = component }) method
unfolding enter_count
second_step component method plan = refl

pub goes_through : (call : ActionCall) (a : Action) (component method : ℕ) → through_of a ≡ through component method → call.action ≡ a
    → steps_of call (Entered ∷ []) ≡ next.Enter (record { 0 = component }) method
goes_through call a component method by is =
    let P : Option Through → Type 0 = λ t. program_of site_tables t (plan_of call) (Entered ∷ []) ≡ next.Enter (record { 0 = component }) method in
    subst P (sym (ap through_of is ∙ by)) (second_step component method (plan_of call))
