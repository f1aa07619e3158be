-- What calls of actions enter: Web, what their action goes through, and the owners of what they access next.
use Rattle.std.proofs.Common.{◌≡◌, ℕ, zero, suc, ◌+◌, ◌-◌, ◌≤◌, ◌==◌, ◌&&◌, ◌||◌, nat_le, nat_lt, not, Bool, true, false, cond, List, [], ◌∷◌, ◌++◌, Option, Some, None, refl, ap, subst, slice_get, ◌∙◌, inl, inr, append-nil, arith}
use Rattle.std.proofs.lemmas.Bool.Decides.{nat_tests}
use Rattle.crash_base.specs.declared.numbers.ComponentNo.{ComponentNo}
use Rattle.crash_base.specs.declared.numbers.GroupNo.{GroupNo}
use Rattle.crash_base.specs.declared.rows.RowWrite.{RowWrite}
use Rattle.deployment.specs.Parts.{owner_of}
use Rattle.journal_model.specs.declared.entry.ReadMark.TheVariants.{Row, Table}
use Rattle.call_ticket.specs.declared.next.Answer.{Answer}
use Rattle.call_ticket.specs.declared.next.Answer.TheVariants as answer
use Rattle.call_ticket.specs.declared.next.Next.{Next}
use Rattle.call_ticket.specs.declared.next.Next.TheVariants as next
use Rattle.call_attempts.specs.Attempt.{EntersGroup}
use Rattle.action_plans.specs.declared.plan.Outcome.{Outcome}
use Rattle.action_plans.specs.declared.plan.Through.{Through}
use Rattle.action_plans.specs.declared.plan.TheConstants.{GATEWAY}
use Rattle.action_plans.specs.declared.plan.Want.{Want}
use Rattle.action_plans.specs.declared.plan.Want.TheVariants as want
use Rattle.action_plans.specs.Plans.{walk, wanted}
use Rattle.action_plans.specs.Steps.{enter_count, exit_count, put_count, home_depth, enter_home, is_away, is_home, has_just_entered, access, access_in, putting, wanting, reads_in}
use Rattle.action_plans.proofs.Counting.{IsHome, IsOut, enter_count-push, exit_count-push, put_count-push, reads-push, goes_out, step-out, access-out}
use Rattle.auction_calls.specs.declared.action.Action.{Action}
use Rattle.auction_calls.specs.declared.action.ActionCall.{ActionCall}
use Rattle.auction_rows.specs.Parts.{site_parts, site_tables}
use Rattle.auction_site.specs.Actions.{through_of, plan_of, steps_of}
use Rattle.auction_site.specs.Reached.{stays_within, reach_of}
use Rattle.auction_site.proofs.Reaching.{call_stays}
use Rattle.reach_laws.specs.Uses.{MayEnter, MayEnterGroup, has_table}
use Rattle.reach_laws.proofs.Tables.{read_table, listed_table, put_table}

-- an action has just entered the owner of what it accesses, with the same reads and puts answered
record IsThere (through : Option Through) (answers : List Answer) : Type 0 where
  pub had : List Answer
  pub out : IsOut through had (put_count answers) true
  pub reads : reads_in had ≡ reads_in answers

enter_there : (through : Option Through) (answers had : List Answer) → IsHome through had (put_count answers) → reads_in had ≡ reads_in answers → IsThere through answers
enter_there through answers had home reads = record {
  had = had ++ answer.Entered ∷ [];
  out = goes_out through had (put_count answers) home;
  reads = reads-push had answer.Entered ∙ append-nil (reads_in had) ∙ reads;
}

-- it comes there from below by so many enters more
rise : (through : Option Through) (answers had : List Answer) (n : ℕ) → enter_count had + n ≡ exit_count had + home_depth through → put_count had ≡ put_count answers → reads_in had ≡ reads_in answers
    → IsThere through answers
rise through answers had zero level puts reads = enter_there through answers had (record { level = omega (arith, level); rows = puts }) reads
rise through answers had (suc n) level puts reads =
    rise through answers (had ++ answer.Entered ∷ []) n
    (omega (arith, level, enter_count-push had answer.Entered, exit_count-push had answer.Entered))
    (omega (arith, puts, put_count-push had answer.Entered))
    (reads-push had answer.Entered ∙ append-nil (reads_in had) ∙ reads)

-- and from above by so many exits
sink : (through : Option Through) (answers had : List Answer) (n : ℕ) → enter_count had ≡ (exit_count had + n) + home_depth through → put_count had ≡ put_count answers → reads_in had ≡ reads_in answers
    → IsThere through answers
sink through answers had zero level puts reads = enter_there through answers had (record { level = omega (arith, level); rows = puts }) reads
sink through answers had (suc n) level puts reads =
    sink through answers (had ++ answer.Left ∷ []) n
    (omega (arith, level, enter_count-push had answer.Left, exit_count-push had answer.Left))
    (omega (arith, puts, put_count-push had answer.Left))
    (reads-push had answer.Left ∙ append-nil (reads_in had) ∙ reads)

there : (through : Option Through) (answers : List Answer) → IsThere through answers
there through answers = by (nat_le (enter_count answers) (exit_count answers + home_depth through)) refl
  where
    by : (low : Bool) → nat_le (enter_count answers) (exit_count answers + home_depth through) ≡ low → IsThere through answers
    by true is =
        let low : enter_count answers ≤ exit_count answers + home_depth through = grind (arith, nat_tests) in
        rise through answers answers ((exit_count answers + home_depth through) - enter_count answers) (omega (arith, low)) refl refl
    by false is =
        let high : exit_count answers + home_depth through ≤ enter_count answers = grind (arith, nat_tests) in
        sink through answers answers (enter_count answers - (exit_count answers + home_depth through)) (omega (arith, high)) refl refl

-- a step is what a call wants, whatever it was answered to its enters and exits
abbrev Wants : ActionCall → List Answer → ℕ → Next → Type 0
Wants call answers t x =
    (had : List Answer) → reads_in had ≡ reads_in answers → put_count had ≡ put_count answers
    → wanting site_tables (through_of call.action) had (wanted (walk (plan_of call) (reads_in had))) ≡ access site_tables (through_of call.action) had t x

-- so it comes where the owner of its table has just been entered, and is within the reach of the action
wanted_stays : (call : ActionCall) (answers : List Answer) (t : ℕ) (x : Next) (owner : ComponentNo) → owner_of site_tables t ≡ Some owner → Wants call answers t x
    → stays_within (reach_of call.action) x ≡ true
wanted_stays call answers t x owner owns wants =
    let through : Option Through = through_of call.action in
    let at : IsThere through answers = there through answers in
    let k : ℕ = put_count answers in
    let comes : steps_of call at.had ≡ x =
    step-out site_tables through at.had k true (wanted (walk (plan_of call) (reads_in at.had))) at.out
    ∙ wants at.had at.reads at.out.rows ∙ ap (λ o. access_in through at.had o x) owns ∙ access-out through at.had k true owner x at.out in
    subst (λ y. stays_within (reach_of call.action) y ≡ true) comes (call_stays call at.had)

-- a step enters as an action may, if it enters
abbrev EntersSo : Action → Next → Type 0
EntersSo a (next.Enter c m) = MayEnter a c m
EntersSo a (next.Read id) = Unit {0}
EntersSo a (next.List t) = Unit {0}
EntersSo a (next.Put w) = Unit {0}
EntersSo a next.Exit = Unit {0}
EntersSo a (next.Done d) = Unit {0}

either : (a : Action) (test : Bool) (x y : Next) → EntersSo a x → EntersSo a y → EntersSo a (cond test x y)
either a true x y first second = first
either a false x y first second = second

home : (a : Action) (through : Option Through) (n : ℕ) → through_of a ≡ through → EntersSo a (enter_home through n)
home a None n is = inl (refl, refl)
home a (Some t) n is = either a (n == 0) (next.Enter GATEWAY 0) (next.Enter t.component t.method) (inl (refl, refl)) (inr (inl is))

owner_enters : (call : ActionCall) (answers : List Answer) (t : ℕ) (x : Next) → EntersSo call.action x → Wants call answers t x
    → (stays_within (reach_of call.action) x ≡ true → has_table (reach_of call.action) t ≡ true)
    → EntersSo call.action (access site_tables (through_of call.action) answers t x)
owner_enters call answers t x well wants has = by (owner_of site_tables t) refl
  where
    by : (o : Option ComponentNo) → owner_of site_tables t ≡ o → EntersSo call.action (access_in (through_of call.action) answers o x)
    by None owns = well
    by (Some owner) owns =
        either call.action (is_away (through_of call.action) answers || is_home (through_of call.action) owner) x (next.Enter owner 0) well
        (inr (inr (record { table = t; reached = has (wanted_stays call answers t x owner owns wants); owned = owns }, refl)))

putting_enters : (call : ActionCall) (answers : List Answer) (o : Outcome) (w : Option RowWrite) → wanted (walk (plan_of call) (reads_in answers)) ≡ want.Finish o
    → slice_get o.writes (put_count answers) ≡ w → EntersSo call.action (putting site_tables (through_of call.action) answers o.done w)
putting_enters call answers o None is puts = either call.action (enter_count answers == exit_count answers) (next.Done o.done) next.Exit tt tt
putting_enters call answers o (Some w) is puts =
    let through : Option Through = through_of call.action in
    owner_enters call answers w.id.table (next.Put w) tt
    (λ had reads kept.
    ap (λ rs. wanting site_tables through had (wanted (walk (plan_of call) rs))) reads
    ∙ ap (wanting site_tables through had) is
    ∙ ap (λ k. putting site_tables through had o.done (slice_get o.writes k)) kept
    ∙ ap (putting site_tables through had o.done) puts)
    (put_table (reach_of call.action) w.id.table)

wanting_enters : (call : ActionCall) (answers : List Answer) (w : Want) → wanted (walk (plan_of call) (reads_in answers)) ≡ w
    → EntersSo call.action (wanting site_tables (through_of call.action) answers w)
wanting_enters call answers (want.Ask (Row id)) is =
    let through : Option Through = through_of call.action in
    owner_enters call answers id.table (next.Read id) tt
    (λ had reads kept. ap (λ rs. wanting site_tables through had (wanted (walk (plan_of call) rs))) reads ∙ ap (wanting site_tables through had) is)
    (read_table (reach_of call.action) id.table)
wanting_enters call answers (want.Ask (Table t)) is =
    let through : Option Through = through_of call.action in
    owner_enters call answers t (next.List t) tt
    (λ had reads kept. ap (λ rs. wanting site_tables through had (wanted (walk (plan_of call) rs))) reads ∙ ap (wanting site_tables through had) is)
    (listed_table (reach_of call.action) t)
wanting_enters call answers (want.Finish o) is = putting_enters call answers o (slice_get o.writes (put_count answers)) is refl

call_enters : (call : ActionCall) (answers : List Answer) → EntersSo call.action (steps_of call answers)
call_enters call answers =
    let through : Option Through = through_of call.action in
    let w : Want = wanted (walk (plan_of call) (reads_in answers)) in
    either call.action (nat_lt (enter_count answers) (home_depth through)) (enter_home through (enter_count answers)) _ (home call.action through (enter_count answers) refl)
    (either call.action (is_away through answers && not (has_just_entered answers)) next.Exit (wanting site_tables through answers w) tt
    (wanting_enters call answers w refl))

pub enters_so : (call : ActionCall) (answers : List Answer) (c : ComponentNo) (m : ℕ) → steps_of call answers ≡ next.Enter c m → MayEnter call.action c m
enters_so call answers c m is = subst (EntersSo call.action) is (call_enters call answers)

pub group_is_so : (call : ActionCall) (group : GroupNo) → EntersGroup site_parts (steps_of call) group → MayEnterGroup call.action group
group_is_so call group e = record {
  component = e.component;
  method = e.method;
  may = enters_so call e.answers e.component e.method e.asked;
  group_is = e.group_is;
}
