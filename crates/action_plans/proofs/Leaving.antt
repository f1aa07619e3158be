-- The end of a run: all that is open is left, and the action is done.
use Rattle.std.proofs.Common.{◌≡◌, ℕ, suc, ◌+◌, ◌-◌, ◌≤◌, nat_lt, true, cond, List, [], ◌∷◌, ◌++◌, length, take, Option, Some, None, refl, ap, sym, subst, ◌∙◌, arith, append-nil}
use Rattle.std.specs.Prelude.{slice_get}
use Rattle.crash_base.specs.declared.numbers.ComponentNo.{ComponentNo}
use Rattle.crash_base.specs.declared.rows.RowWrite.{RowWrite}
use Rattle.deployment.specs.declared.parts.Parts.{Parts}
use Rattle.deployment.specs.declared.parts.TablePart.{TablePart}
use Rattle.journal_model.specs.declared.entry.Mark.{Mark}
use Rattle.call_ticket.specs.declared.next.Answer.{Answer}
use Rattle.call_ticket.specs.declared.next.Answer.TheVariants as answer
use Rattle.call_ticket.specs.declared.next.Next.TheVariants as next
use Rattle.call_ticket.specs.Runs.{run}
use Rattle.call_ticket.proofs.MoreSteps.{run_step}
use Rattle.action_plans.specs.declared.plan.Outcome.{Outcome}
use Rattle.action_plans.specs.declared.plan.Through.{Through}
use Rattle.action_plans.specs.declared.plan.Want.TheVariants as want
use Rattle.action_plans.specs.declared.plan.TheConstants.{GATEWAY}
use Rattle.action_plans.specs.Plans.{Plan, walk, wanted}
use Rattle.action_plans.specs.Steps.{enter_count, exit_count, put_count, reads_in, home_depth, leaving, putting, wanting, program_of}
use Rattle.action_plans.proofs.Accessing.{Comes, comes_more}
use Rattle.action_plans.proofs.Counting.{enter_count-push, exit_count-push, put_count-push, reads-push, IsHome, low_step, level_end, level_open}
use Rattle.action_plans.proofs.Entering.{state, home_frames}

-- an action that has put all its rows, with so many components open
record IsLeaving (through : Option Through) (plan : Plan Outcome) (o : Outcome) (had : List Answer) (j : ℕ) : Type 0 where
  level : enter_count had ≡ exit_count had + j
  up : home_depth through ≤ enter_count had
  low : j ≤ home_depth through
  none : slice_get o.writes (put_count had) ≡ None
  finish : wanted (walk plan (reads_in had)) ≡ want.Finish o

leaving_step : (tables : List TablePart) (through : Option Through) (plan : Plan Outcome) (o : Outcome) (had : List Answer) (j : ℕ) → IsLeaving through plan o had j → program_of tables through plan had ≡ leaving had o.done
leaving_step tables through plan o had j is =
    low_step tables through had (wanted (walk plan (reads_in had))) j is.level is.up is.low
    ∙ ap (wanting tables through had) is.finish ∙ ap (putting tables through had o.done) is.none

left_one : (through : Option Through) (plan : Plan Outcome) (o : Outcome) (had : List Answer) (j : ℕ) → IsLeaving through plan o had (suc j) → IsLeaving through plan o (had ++ answer.Left ∷ []) j
left_one through plan o had j is =
    let h1 : List Answer = had ++ answer.Left ∷ [] in
    let level = is.level in
    let up = is.up in
    let low = is.low in
    let e : enter_count h1 ≡ enter_count had + 0 = enter_count-push had answer.Left in
    let l : exit_count h1 ≡ exit_count had + 1 = exit_count-push had answer.Left in
    let k0 : put_count h1 ≡ put_count had + 0 = put_count-push had answer.Left in
    let k : put_count h1 ≡ put_count had = omega (arith, k0) in
    let rd : reads_in h1 ≡ reads_in had = reads-push had answer.Left ∙ append-nil (reads_in had) in
    record {
      level = omega (arith, level, e, l);
      up = omega (arith, up, e);
      low = omega (arith, low);
      none = ap (slice_get o.writes) k ∙ is.none;
      finish = ap (λ rs. wanted (walk plan rs)) rd ∙ is.finish;
    }

-- the last open component is left
leave_one : (n : ℕ) (parts : Parts) (rows : List RowWrite) (through : Option Through) (plan : Plan Outcome) (o : Outcome) (had : List Answer) (j r q : ℕ) (ms : List Mark) (ws : List RowWrite) (frames : List ComponentNo) → IsLeaving through plan o had (suc j) → nat_lt 0 (length frames) ≡ true
    → run (suc n) parts (program_of parts.tables through plan) rows (state had frames r q ms ws) ≡ run n parts (program_of parts.tables through plan) rows (state (had ++ answer.Left ∷ []) (take (length frames - 1) frames) r q ms ws)
leave_one n parts rows through plan o had j r q ms ws frames is some =
    let asks = program_of parts.tables through plan in
    let asked : asks had ≡ next.Exit = leaving_step parts.tables through plan o had (suc j) is ∙ ap (λ b. cond b (next.Done o.done) next.Exit) (level_open had j is.level) in
    run_step n parts asks rows (state had frames r q ms ws) next.Exit asked
    ∙ ap (λ b. cond b (run n parts asks rows (state (had ++ answer.Left ∷ []) (take (length frames - 1) frames) r q ms ws)) None) some

-- all is left, and the action is done
leave_end : (n : ℕ) (parts : Parts) (rows : List RowWrite) (through : Option Through) (plan : Plan Outcome) (o : Outcome) (had : List Answer) (r q : ℕ) (ms : List Mark) (ws : List RowWrite) → IsLeaving through plan o had 0
    → Comes (record { writes = ws; done = o.done }) (run (suc n) parts (program_of parts.tables through plan) rows (state had [] r q ms ws))
leave_end n parts rows through plan o had r q ms ws is =
    let asks = program_of parts.tables through plan in
    let asked : asks had ≡ next.Done o.done = leaving_step parts.tables through plan o had 0 is ∙ ap (λ b. cond b (next.Done o.done) next.Exit) (level_end had is.level) in
    (ms, run_step n parts asks rows (state had [] r q ms ws) (next.Done o.done) asked)

-- home is left within three steps
pub leave_home : (f : ℕ) (parts : Parts) (rows : List RowWrite) (through : Option Through) (plan : Plan Outcome) (o : Outcome) (k r q : ℕ) (ms : List Mark) (ws : List RowWrite) (had : List Answer)
    → IsHome through had k → slice_get o.writes k ≡ None → wanted (walk plan (reads_in had)) ≡ want.Finish o
    → Comes (record { writes = ws; done = o.done }) (run (suc (suc (suc f))) parts (program_of parts.tables through plan) rows (state had (home_frames through) r q ms ws))
leave_home f parts rows None plan o k r q ms ws had home none finish =
    let asks = program_of parts.tables None plan in
    let level = home.level in
    let end : Outcome = record { writes = ws; done = o.done } in
    let is : IsLeaving None plan o had 1 = record { level = level; up = omega (arith, level); low = omega arith; none = ap (slice_get o.writes) home.rows ∙ none; finish = finish } in
    let rest = leave_end f parts rows None plan o (had ++ answer.Left ∷ []) r q ms ws (left_one None plan o had 0 is) in
    let made = leave_one (suc f) parts rows None plan o had 0 r q ms ws (GATEWAY ∷ []) is refl in
    comes_more (suc (suc f)) parts asks rows (state had (GATEWAY ∷ []) r q ms ws) end (subst (λ got. Comes end got) (sym made) rest)
leave_home f parts rows (Some h) plan o k r q ms ws had home none finish =
    let level = home.level in
    let end : Outcome = record { writes = ws; done = o.done } in
    let h1 : List Answer = had ++ answer.Left ∷ [] in
    let is : IsLeaving (Some h) plan o had 2 = record { level = level; up = omega (arith, level); low = omega arith; none = ap (slice_get o.writes) home.rows ∙ none; finish = finish } in
    let is1 = left_one (Some h) plan o had 1 is in
    let rest = leave_end f parts rows (Some h) plan o (h1 ++ answer.Left ∷ []) r q ms ws (left_one (Some h) plan o h1 0 is1) in
    let made0 = leave_one (suc (suc f)) parts rows (Some h) plan o had 1 r q ms ws (GATEWAY ∷ h.component ∷ []) is refl in
    let made1 = leave_one (suc f) parts rows (Some h) plan o h1 0 r q ms ws (GATEWAY ∷ []) is1 refl in
    subst (λ got. Comes end got) (sym (made0 ∙ made1)) rest
