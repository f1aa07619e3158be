-- A program begins at the gateway, and has left all where it is done.
use Rattle.std.proofs.Common.{◌≡◌, ℕ, ◌==◌, ◌&&◌, ◌||◌, nat_lt, not, Bool, true, false, cond, List, [], slice_get, Option, Some, None, refl, arith}
use Rattle.std.proofs.lemmas.Bool.Decides.{nat_tests}
use Rattle.crash_base.specs.declared.numbers.ComponentNo.{ComponentNo}
use Rattle.crash_base.specs.declared.rows.RowWrite.{RowWrite}
use Rattle.deployment.specs.declared.parts.TablePart.{TablePart}
use Rattle.deployment.specs.Parts.{owner_of}
use Rattle.journal_model.specs.declared.entry.DoneText.{DoneText}
use Rattle.journal_model.specs.declared.entry.ReadMark.{ReadMark}
use Rattle.journal_model.specs.declared.entry.ReadMark.TheVariants.{Row, Table}
use Rattle.call_ticket.specs.declared.next.Answer.{Answer}
use Rattle.call_ticket.specs.declared.next.Next.{Next}
use Rattle.call_ticket.specs.declared.next.Next.TheVariants as next
use Rattle.action_plans.specs.declared.plan.Outcome.{Outcome}
use Rattle.action_plans.specs.declared.plan.Through.{Through}
use Rattle.action_plans.specs.declared.plan.TheConstants.{GATEWAY}
use Rattle.action_plans.specs.declared.plan.Want.{Want}
use Rattle.action_plans.specs.declared.plan.Want.TheVariants as want
use Rattle.action_plans.specs.Plans.{Plan, walk, wanted}
use Rattle.action_plans.specs.Steps.{enter_count, exit_count, put_count, reads_in, home_depth, enter_home, is_away, is_home, has_just_entered, access_in, reading, table_of, leaving, putting, wanting, program_of}

pub begins_at_the_gateway : (tables : List TablePart) (through : Option Through) (plan : Plan Outcome)
    → program_of tables through plan [] ≡ next.Enter GATEWAY 0
unfolding enter_count
begins_at_the_gateway tables None plan = refl
begins_at_the_gateway tables (Some t) plan = refl

-- a step by which nothing is done
abbrev NoDone : Next → DoneText → Type 0
NoDone x done = x ≡ next.Done done → ⊥

-- one of two steps, where the first is none by which all is done
second : (test : Bool) (first other : Next) (done : DoneText) → NoDone first done → cond test first other ≡ next.Done done → other ≡ next.Done done
second true first other done none is = absurd (none is)
second false first other done none is = is

-- neither does an access
no_access : (through : Option Through) (answers : List Answer) (owner : Option ComponentNo) (x : Next) (done : DoneText) → NoDone x done
    → NoDone (access_in through answers owner x) done
no_access through answers None x done none is = none is
no_access through answers (Some owner) x done none is = by_place (is_away through answers) (is_home through owner) is
  where
    by_place : (away home : Bool) → cond (away || home) x (next.Enter owner 0) ≡ next.Done done → ⊥
    by_place true home e = none e
    by_place false true e = none e
    by_place false false e = absurd (cc)

no_home : (through : Option Through) (n : ℕ) (done : DoneText) → NoDone (enter_home through n) done
no_home None n done is = absurd (cc)
no_home (Some t) n done is = by_first (n == 0) is
  where
    by_first : (first : Bool) → cond first (next.Enter GATEWAY 0) (next.Enter t.component t.method) ≡ next.Done done → ⊥
    by_first true e = absurd (cc)
    by_first false e = absurd (cc)

no_reading : (m : ReadMark) (done : DoneText) → NoDone (reading m) done
no_reading (Row id) done is = absurd (cc)
no_reading (Table t) done is = absurd (cc)

by_leaving : (answers : List Answer) (d done : DoneText) → leaving answers d ≡ next.Done done → enter_count answers ≡ exit_count answers
by_leaving answers d done is = by_counts (enter_count answers == exit_count answers) refl is
  where
    by_counts : (same : Bool) → (enter_count answers == exit_count answers) ≡ same → cond same (next.Done d) next.Exit ≡ next.Done done
        → enter_count answers ≡ exit_count answers
    by_counts true are e = grind (arith, nat_tests)
    by_counts false are e = absurd (cc)

by_putting : (tables : List TablePart) (through : Option Through) (answers : List Answer) (d done : DoneText) (row : Option RowWrite)
    → putting tables through answers d row ≡ next.Done done → enter_count answers ≡ exit_count answers
by_putting tables through answers d done None is = by_leaving answers d done is
by_putting tables through answers d done (Some w) is =
    absurd (no_access through answers (owner_of tables w.id.table) (next.Put w) done (λ e. absurd (cc)) is)

by_wanting : (tables : List TablePart) (through : Option Through) (answers : List Answer) (w : Want) (done : DoneText)
    → wanting tables through answers w ≡ next.Done done → enter_count answers ≡ exit_count answers
by_wanting tables through answers (want.Ask m) done is =
    absurd (no_access through answers (owner_of tables (table_of m)) (reading m) done (no_reading m done) is)
by_wanting tables through answers (want.Finish o) done is =
    by_putting tables through answers o.done done (slice_get o.writes (put_count answers)) is

pub has_left_all : (tables : List TablePart) (through : Option Through) (plan : Plan Outcome) (answers : List Answer) (done : DoneText)
    → program_of tables through plan answers ≡ next.Done done → enter_count answers ≡ exit_count answers
has_left_all tables through plan answers done is =
    let w : Want = wanted (walk plan (reads_in answers)) in
    let after = second (nat_lt (enter_count answers) (home_depth through)) (enter_home through (enter_count answers)) _ done (no_home through (enter_count answers) done) is in
    by_wanting tables through answers w done
    (second (is_away through answers && not (has_just_entered answers)) next.Exit (wanting tables through answers w) done (λ e. absurd (cc)) after)
