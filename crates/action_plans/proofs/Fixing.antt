-- Steps that none but the answers decide.
use Rattle.std.proofs.Common.{◌≡◌, ◌&&◌, not, nat_lt, Bool, true, false, cond, List, Option, Some, None, sym}
use Rattle.std.proofs.lemmas.Option.{none-some, same_Some}
use Rattle.deployment.specs.declared.parts.TablePart.{TablePart}
use Rattle.call_ticket.specs.declared.next.Answer.{Answer}
use Rattle.call_ticket.specs.declared.next.Next.{Next}
use Rattle.call_ticket.specs.declared.next.Next.TheVariants as next
use Rattle.action_plans.specs.declared.plan.Outcome.{Outcome}
use Rattle.action_plans.specs.declared.plan.Through.{Through}
use Rattle.action_plans.specs.declared.plan.Want.{Want}
use Rattle.action_plans.specs.Plans.{Plan, walk, wanted}
use Rattle.action_plans.specs.Steps.{enter_count, home_depth, enter_home, is_away, has_just_entered, reads_in, fixed_step, step_to, wanting, program_of}

some_is : {A : Type 0} (b c : Bool) (x y z n : A) → cond b (Some x) (cond c (Some y) None) ≡ Some n → n ≡ cond b x (cond c y z)
some_is true c x y z n is = sym (same_Some x n is)
some_is false true x y z n is = sym (same_Some y n is)
some_is false false x y z n is = absurd (none-some n is)

-- what they decide is the step, whatever the action wants
pub fixed_comes : (tables : List TablePart) (through : Option Through) (had : List Answer) (w : Want) (n : Next) → fixed_step through had ≡ Some n → n ≡ step_to tables through had w
fixed_comes tables through had w n is = some_is (nat_lt (enter_count had) (home_depth through)) (is_away through had && not (has_just_entered had)) (enter_home through (enter_count had)) next.Exit (wanting tables through had w) n is

-- and so it is the step of each program that goes through the same
pub fixed_runs : (tables : List TablePart) (through : Option Through) (plan : Plan Outcome) (had : List Answer) (n : Next) → fixed_step through had ≡ Some n → n ≡ program_of tables through plan had
fixed_runs tables through plan had n is = fixed_comes tables through had (wanted (walk plan (reads_in had))) n is
