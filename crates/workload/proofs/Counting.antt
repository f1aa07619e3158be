-- What turns count, and whom they leave alone.
use Rattle.std.proofs.Common.{◌≡◌, ◌≢◌, ℕ, ◌+◌, ◌≤◌, Bool, List, [], ◌∷◌, length, refl, arith}
use Rattle.std.specs.List.{fold}
use Rattle.std.proofs.lemmas.List.{get_or-set_other}
use Rattle.boot_core.specs.Boot.{BootValue}
use Rattle.line_steps.specs.Callers.{caller_at}
use Rattle.line_steps.specs.declared.callers.Caller.TheVariants.{Absent}
use Rattle.workload.specs.Choices.{chosen, next_number}
use Rattle.workload.specs.Tally.{answers}
use Rattle.workload.specs.Turns.{TurnLeft, Work, caller_left, first_work, in_hand, turn, worked}
use Rattle.workload.specs.declared.choices.Choice.{Choice}
use Rattle.workload.proofs.Turning.{one_more}

-- what the caller of a turn does
abbrev left_by : Work → Bool → TurnLeft
left_by w keeps =
    let choice : Choice = chosen (next_number w.number) in
    caller_left w.boot w.turns choice keeps (caller_at w.callers choice.caller)

pub others_kept : (w : Work) (keeps : Bool) (n : ℕ) → n ≢ (chosen (next_number w.number)).caller → caller_at (turn w keeps).callers n ≡ caller_at w.callers n
unfolding turn
others_kept w keeps n other =
    get_or-set_other w.callers (chosen (next_number w.number)).caller n (in_hand (left_by w keeps).ticket) Absent other

pub one_answer : (w : Work) (keeps : Bool) → answers (turn w keeps).tally ≤ answers w.tally + 1
unfolding turn
one_answer w keeps = one_more (left_by w keeps).outcome w.tally

one_turn : (w : Work) (keeps : Bool) → (turn w keeps).turns ≡ w.turns + 1
unfolding turn
one_turn w keeps = refl

turns_from : (w : Work) (replies : List Bool) → (fold turn w replies).turns ≡ w.turns + length replies
turns_from w [] = omega arith
turns_from w (r ∷ rs) =
    let rest : (fold turn (turn w r) rs).turns ≡ (turn w r).turns + length rs = turns_from (turn w r) rs in
    let one : (turn w r).turns ≡ w.turns + 1 = one_turn w r in
    omega (arith, rest, one)

pub turns_counted : (number : ℕ) (b : BootValue) (replies : List Bool) → (worked number b replies).turns ≡ length replies
turns_counted number b replies =
    let all : (worked number b replies).turns ≡ 0 + length replies = turns_from (first_work number b) replies in
    omega (arith, all)

answers_from : (w : Work) (replies : List Bool) → answers (fold turn w replies).tally ≤ answers w.tally + length replies
answers_from w [] = omega arith
answers_from w (r ∷ rs) =
    let rest : answers (fold turn (turn w r) rs).tally ≤ answers (turn w r).tally + length rs = answers_from (turn w r) rs in
    let one : answers (turn w r).tally ≤ answers w.tally + 1 = one_answer w r in
    omega (arith, rest, one)

pub few_answers : (number : ℕ) (b : BootValue) (replies : List Bool) → answers (worked number b replies).tally ≤ length replies
few_answers number b replies =
    let all : answers (worked number b replies).tally ≤ 0 + length replies = answers_from (first_work number b) replies in
    omega (arith, all)
