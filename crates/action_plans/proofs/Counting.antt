-- Answers with one more at their end.
use Rattle.std.proofs.Common.{◌≡◌, ℕ, suc, ◌+◌, ◌-◌, ◌≤◌, ◌==◌, not, nat_lt, Bool, true, false, cond, List, [], ◌∷◌, ◌++◌, length, Option, Some, refl, ap, ◌∙◌, arith, length-append}
use Rattle.std.specs.Prelude.{count_by, slice_get}
use Rattle.std.proofs.lemmas.Grind.{common_steps}
use Rattle.std.proofs.lemmas.Bool.Decides.{nat_tests}
use Rattle.std.proofs.lemmas.List.Elements.{filter-append}
use Rattle.crash_base.specs.declared.numbers.ComponentNo.{ComponentNo}
use Rattle.deployment.specs.declared.parts.TablePart.{TablePart}
use Rattle.call_ticket.specs.declared.next.Answer.{Answer}
use Rattle.call_ticket.specs.declared.next.Answer.TheVariants as answer
use Rattle.call_ticket.specs.declared.next.Next.{Next}
use Rattle.call_ticket.specs.declared.next.Next.TheVariants as next
use Rattle.action_plans.specs.declared.plan.Through.{Through}
use Rattle.action_plans.specs.declared.plan.Want.{Want}
use Rattle.action_plans.specs.Steps.{is_entered, is_left, is_kept, is_read, enter_count, exit_count, put_count, is_entry, has_just_entered, reads_in, home_depth, is_away, is_home, access_in, wanting, step_to}

count-push : {A : Type 0} (p : A → Bool) (xs : List A) (x : A) → count_by p (xs ++ x ∷ []) ≡ count_by p xs + cond (p x) 1 0
count-push p [] x = grind (arith, common_steps)
count-push p (y ∷ ys) x = grind (arith, common_steps, count-push p ys x)

pub get_at : {A : Type 0} (xs : List A) (y : A) (ys : List A) → slice_get (xs ++ y ∷ ys) (length xs) ≡ Some y
get_at [] y ys = refl
get_at (x ∷ xs) y ys = get_at xs y ys

pub enter_count-push : (had : List Answer) (a : Answer) → enter_count (had ++ a ∷ []) ≡ enter_count had + cond (is_entered a) 1 0
unfolding enter_count
enter_count-push had a = count-push is_entered had a

pub exit_count-push : (had : List Answer) (a : Answer) → exit_count (had ++ a ∷ []) ≡ exit_count had + cond (is_left a) 1 0
unfolding exit_count
exit_count-push had a = count-push is_left had a

pub put_count-push : (had : List Answer) (a : Answer) → put_count (had ++ a ∷ []) ≡ put_count had + cond (is_kept a) 1 0
unfolding put_count
put_count-push had a = count-push is_kept had a

pub fresh-push : (had : List Answer) (a : Answer) → has_just_entered (had ++ a ∷ []) ≡ is_entered a
unfolding has_just_entered
fresh-push had a =
    let last : length (had ++ a ∷ []) - 1 ≡ length had = omega (arith, length-append had (a ∷ [])) in
    ap (λ i. is_entry (slice_get (had ++ a ∷ []) i)) last ∙ ap is_entry (get_at had a [])

pub reads-push : (had : List Answer) (a : Answer) → reads_in (had ++ a ∷ []) ≡ reads_in had ++ cond (is_read a) (a ∷ []) []
unfolding reads_in
reads-push had a = filter-append is_read had (a ∷ [])

-- between its accesses an action is in its home, having kept so many rows
pub record IsHome (through : Option Through) (had : List Answer) (k : ℕ) : Type 0 where
  pub level : enter_count had ≡ exit_count had + home_depth through
  pub rows : put_count had ≡ k

-- and else it is away in an owner
pub record IsOut (through : Option Through) (had : List Answer) (k : ℕ) (new : Bool) : Type 0 where
  pub level : enter_count had ≡ (exit_count had + home_depth through) + 1
  pub rows : put_count had ≡ k
  pub fresh : has_just_entered had ≡ new

eq-test : (a b : ℕ) → a ≡ b → (a == b) ≡ true
eq-test a b same = grind (arith, nat_tests)

apart-test : (a b : ℕ) → suc a ≡ b → (a == b) ≡ false
apart-test a b apart = grind (arith, nat_tests)

high-test : (a b c : ℕ) → a ≡ b + c → nat_lt a c ≡ false
high-test a b c high = grind (arith, nat_tests)

pub away-home : (through : Option Through) (had : List Answer) (k : ℕ) → IsHome through had k → is_away through had ≡ false
away-home through had k home = apart-test (enter_count had) ((exit_count had + home_depth through) + 1) (omega (arith, home.level))

pub away-out : (through : Option Through) (had : List Answer) (k : ℕ) (new : Bool) → IsOut through had k new → is_away through had ≡ true
away-out through had k new out = eq-test (enter_count had) ((exit_count had + home_depth through) + 1) out.level

pub step-home : (tables : List TablePart) (through : Option Through) (had : List Answer) (k : ℕ) (w : Want) → IsHome through had k → step_to tables through had w ≡ wanting tables through had w
step-home tables through had k w home =
    let up : nat_lt (enter_count had) (home_depth through) ≡ false = high-test (enter_count had) (exit_count had) (home_depth through) home.level in
    rw (up, away-home through had k home) refl

pub step-out : (tables : List TablePart) (through : Option Through) (had : List Answer) (k : ℕ) (new : Bool) (w : Want) → IsOut through had k new → step_to tables through had w ≡ cond new (wanting tables through had w) next.Exit
step-out tables through had k new w out =
    let up : nat_lt (enter_count had) (home_depth through) ≡ false = high-test (enter_count had) (exit_count had + 1) (home_depth through) (omega (arith, out.level)) in
    rw (up, away-out through had k new out, out.fresh) (last new)
  where
    last : (b : Bool) → cond (not b) next.Exit (wanting tables through had w) ≡ cond b (wanting tables through had w) next.Exit
    last true = refl
    last false = refl

-- away from home an access is made, and at home where the owner is the home
pub access-out : (through : Option Through) (had : List Answer) (k : ℕ) (new : Bool) (c : ComponentNo) (x : Next) → IsOut through had k new → access_in through had (Some c) x ≡ x
access-out through had k new c x out = rw (away-out through had k new out) refl

pub access-home : (through : Option Through) (had : List Answer) (k : ℕ) (c : ComponentNo) (x : Next) → IsHome through had k → access_in through had (Some c) x ≡ cond (is_home through c) x (next.Enter c 0)
access-home through had k c x home = rw (away-home through had k home) refl

-- the ways between home and away
pub goes_out : (through : Option Through) (had : List Answer) (k : ℕ) → IsHome through had k → IsOut through (had ++ answer.Entered ∷ []) k true
goes_out through had k home = record {
  level = omega (arith, home.level, enter_count-push had answer.Entered, exit_count-push had answer.Entered);
  rows = omega (arith, home.rows, put_count-push had answer.Entered);
  fresh = fresh-push had answer.Entered;
}

-- an answer to an access is neither that it entered nor that it left
pub record IsAccess (a : Answer) : Type 0 where
  pub not_entered : is_entered a ≡ false
  pub not_left : is_left a ≡ false

pub had_out : (through : Option Through) (had : List Answer) (k : ℕ) (a : Answer) → IsAccess a → IsOut through had k true → IsOut through (had ++ a ∷ []) (k + cond (is_kept a) 1 0) false
had_out through had k a is out =
    let e : enter_count (had ++ a ∷ []) ≡ enter_count had + 0 = enter_count-push had a ∙ rw is.not_entered refl in
    let l : exit_count (had ++ a ∷ []) ≡ exit_count had + 0 = exit_count-push had a ∙ rw is.not_left refl in
    record {
      level = omega (arith, out.level, e, l);
      rows = put_count-push had a ∙ ap (λ n. n + cond (is_kept a) 1 0) out.rows;
      fresh = fresh-push had a ∙ is.not_entered;
    }

pub had_home : (through : Option Through) (had : List Answer) (k : ℕ) (a : Answer) → IsAccess a → IsHome through had k → IsHome through (had ++ a ∷ []) (k + cond (is_kept a) 1 0)
had_home through had k a is home =
    let e : enter_count (had ++ a ∷ []) ≡ enter_count had + 0 = enter_count-push had a ∙ rw is.not_entered refl in
    let l : exit_count (had ++ a ∷ []) ≡ exit_count had + 0 = exit_count-push had a ∙ rw is.not_left refl in
    record {
      level = omega (arith, home.level, e, l);
      rows = put_count-push had a ∙ ap (λ n. n + cond (is_kept a) 1 0) home.rows;
    }

pub comes_home : (through : Option Through) (had : List Answer) (k : ℕ) → IsOut through had k false → IsHome through (had ++ answer.Left ∷ []) k
comes_home through had k out = record {
  level = omega (arith, out.level, enter_count-push had answer.Left, exit_count-push had answer.Left);
  rows = omega (arith, out.rows, put_count-push had answer.Left);
}

-- where not more components are open than at home, the step is what is wanted
pub low_step : (tables : List TablePart) (through : Option Through) (had : List Answer) (w : Want) (j : ℕ) → enter_count had ≡ exit_count had + j → home_depth through ≤ enter_count had → j ≤ home_depth through → step_to tables through had w ≡ wanting tables through had w
low_step tables through had w j level up low =
    let high : nat_lt (enter_count had) (home_depth through) ≡ false = grind (arith, nat_tests) in
    let near : is_away through had ≡ false = grind (arith, nat_tests) in
    rw (high, near) refl

pub level_end : (had : List Answer) → enter_count had ≡ exit_count had + 0 → (enter_count had == exit_count had) ≡ true
level_end had level = grind (arith, nat_tests)

pub level_open : (had : List Answer) (j : ℕ) → enter_count had ≡ exit_count had + suc j → (enter_count had == exit_count had) ≡ false
level_open had j level = grind (arith, nat_tests)
