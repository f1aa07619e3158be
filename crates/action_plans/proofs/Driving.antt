-- The run of a plan's program.
use Rattle.std.proofs.Common.{◌≡◌, ℕ, zero, suc, ◌+◌, ◌≤◌, ◌&&◌, nat_lt, nat_le, true, cond, List, [], ◌∷◌, ◌++◌, length, Option, Some, None, refl, ap, sym, subst, ◌∙◌, arith, append_assoc, append-nil, length-append}
use Rattle.std.specs.Prelude.{slice_get}
use Rattle.std.proofs.lemmas.Bool.{and_parts}
use Rattle.std.proofs.lemmas.Bool.Decides.{nat_tests}
use Rattle.std.specs.Cmp.Derive.{both_true}
use Rattle.std.proofs.lemmas.Option.{slice_get_past}
use Rattle.crash_base.specs.declared.numbers.ComponentNo.{ComponentNo}
use Rattle.crash_base.specs.declared.rows.RowWrite.{RowWrite}
use Rattle.deployment.specs.declared.parts.Parts.{Parts}
use Rattle.journal_model.specs.declared.entry.Mark.{Mark}
use Rattle.journal_model.specs.declared.entry.ReadMark.{ReadMark}
use Rattle.journal_model.specs.declared.entry.ReadMark.TheVariants.{Row, Table}
use Rattle.journal_model.specs.Calls.{marked_with, with_write}
use Rattle.call_ticket.specs.declared.limits.TheConstants.{MAX_FRAMES, MAX_MARKS, MAX_WRITES}
use Rattle.call_ticket.specs.declared.next.Answer.{Answer}
use Rattle.call_ticket.specs.declared.next.Answer.TheVariants as answer
use Rattle.call_ticket.specs.declared.next.Next.TheVariants as next
use Rattle.call_ticket.specs.Access.{is_inside}
use Rattle.call_ticket.specs.Runs.{Running, Ran, not_run, is_write, marks_after, resume, run, run_of}
use Rattle.call_ticket.proofs.MoreSteps.{run_step}
use Rattle.action_plans.specs.declared.plan.Outcome.{Outcome}
use Rattle.action_plans.specs.declared.plan.Through.{Through}
use Rattle.action_plans.specs.declared.plan.Want.TheVariants as want
use Rattle.action_plans.specs.declared.plan.TheConstants.{GATEWAY, MAX_ACCESSES}
use Rattle.action_plans.specs.Plans.{Plan, Asks, Refuses, Gives, walk, wanted, answer_to, put_each}
use Rattle.action_plans.specs.Steps.{is_kept, is_read, enter_count, exit_count, put_count, reads_in, reading, table_of, putting, wanting, program_of, may_go, reaches, may_put, may_put_all, has_home, outcome, outcome_of}
use Rattle.action_plans.proofs.Accessing.{Comes, comes_more, IsAccessOf, access_run}
use Rattle.action_plans.proofs.Counting.{get_at, IsHome, IsAccess}
use Rattle.action_plans.proofs.Entering.{state, home_frames, taken}
use Rattle.action_plans.proofs.Leaving.{leave_home}

-- the steps for so many accesses and the end
budget : ℕ → ℕ
budget zero = 3
budget (suc n) = suc (suc (suc (budget n)))

leave_budget : (n : ℕ) (parts : Parts) (rows : List RowWrite) (through : Option Through) (plan : Plan Outcome) (o : Outcome) (k r q : ℕ) (ms : List Mark) (ws : List RowWrite) (had : List Answer)
    → IsHome through had k → slice_get o.writes k ≡ None → wanted (walk plan (reads_in had)) ≡ want.Finish o
    → Comes (record { writes = ws; done = o.done }) (run (budget n) parts (program_of parts.tables through plan) rows (state had (home_frames through) r q ms ws))
unfolding budget
leave_budget zero parts rows through plan o k r q ms ws had home none finish = leave_home 0 parts rows through plan o k r q ms ws had home none finish
leave_budget (suc n) parts rows through plan o k r q ms ws had home none finish = leave_home (budget n) parts rows through plan o k r q ms ws had home none finish

-- what is put, one row after the other, and all is left
put_all_run : (n : ℕ) (parts : Parts) (rows : List RowWrite) (through : Option Through) (plan : Plan Outcome) (o : Outcome) (r q : ℕ) (ms : List Mark) (ws xs ps : List RowWrite) (had : List Answer)
    → o.writes ≡ xs ++ ps → length ps ≤ n → q + length ps ≤ MAX_WRITES → may_put_all parts through ps ≡ true → IsHome through had (length xs) → wanted (walk plan (reads_in had)) ≡ want.Finish o
    → Comes (record { writes = put_each ws ps; done = o.done }) (run (budget n) parts (program_of parts.tables through plan) rows (state had (home_frames through) r q ms ws))
unfolding budget
put_all_run n parts rows through plan o r q ms ws xs [] had writes few room may home finish =
    let none : slice_get o.writes (length xs) ≡ None = ap (λ l. slice_get l (length xs)) (writes ∙ append-nil xs) ∙ slice_get_past xs (length xs) (omega arith) in
    leave_budget n parts rows through plan o (length xs) r q ms ws had home none finish
put_all_run zero parts rows through plan o r q ms ws xs (p ∷ ps) had writes few room may home finish = absurd (omega (arith, few))
put_all_run (suc n) parts rows through plan o r q ms ws xs (p ∷ ps) had writes few room may home finish =
    let two = and_parts (may_put parts through p) (may_put_all parts through ps) may in
    let here = and_parts (reaches parts through p.id.table) (is_write p) two.0 in
    let free : nat_lt q MAX_WRITES ≡ true = grind (arith, nat_tests) in
    let there : slice_get o.writes (length xs) ≡ Some p = ap (λ l. slice_get l (length xs)) writes ∙ get_at xs p ps in
    let more : length (xs ++ p ∷ []) ≡ length xs + 1 = length-append xs (p ∷ []) in
    let split : o.writes ≡ (xs ++ p ∷ []) ++ ps = writes ∙ sym (append_assoc xs (p ∷ []) ps) in
    let is : IsAccessOf parts rows through plan (next.Put p) p.id.table answer.Kept had (length xs) r q r (q + 1) ms ms ws (with_write ws p) = record {
      answered = record { not_entered = refl; not_left = refl };
      home = home;
      makes = λ h frames go inside. ap (λ b. cond b (go (state (h ++ answer.Kept ∷ []) frames r (q + 1) ms (with_write ws p))) None)
          (both_true (both_true inside here.1) free);
      wants = λ h same rows_are. ap (λ rs. wanting parts.tables through h (wanted (walk plan rs))) same ∙ ap (wanting parts.tables through h) finish
          ∙ ap (putting parts.tables through h o.done) (ap (slice_get o.writes) rows_are ∙ there);
    } in
    access_run parts rows through plan (next.Put p) p.id.table answer.Kept had (length xs) r q r (q + 1) ms ms ws (with_write ws p) (budget n) (record { writes = put_each (with_write ws p) ps; done = o.done })
    here.0 is
    (λ h home2 same.
    let P : ℕ → Type 0 = λ k. IsHome through h k in
    put_all_run n parts rows through plan o r (q + 1) ms (with_write ws p) (xs ++ p ∷ []) ps h split (omega (arith, few)) (omega (arith, room)) two.1 (subst P (sym more) home2)
    (ap (λ rs. wanted (walk plan rs)) (same ∙ append-nil (reads_in had)) ∙ finish))

-- the marks after a read that no own put answers
marks_of : List RowWrite → ReadMark → List Mark → List Mark
marks_of rows (Row id) ms = marks_after rows [] id ms
marks_of rows (Table t) ms = marked_with (Table t) None ms

-- a read is answered from the rows
read_makes : (parts : Parts) (rows : List RowWrite) (m : ReadMark) (r : ℕ) (ms : List Mark) (h : List Answer) (frames : List ComponentNo) (go : Running → Option Ran) → nat_lt r MAX_MARKS ≡ true → is_inside parts frames (table_of m) ≡ true
    → resume parts rows (state h frames r 0 ms []) (reading m) go ≡ go (state (h ++ answer_to rows m ∷ []) frames (r + 1) 0 (marks_of rows m ms) [])
unfolding marks_of
read_makes parts rows (Row id) r ms h frames go few inside =
    ap (λ b. cond b (go (state (h ++ answer_to rows (Row id) ∷ []) frames (r + 1) 0 (marks_after rows [] id ms) [])) None) (both_true inside few)
read_makes parts rows (Table t) r ms h frames go few inside =
    ap (λ b. cond b (go (state (h ++ answer_to rows (Table t) ∷ []) frames (r + 1) 0 (marked_with (Table t) None ms) [])) None) (both_true inside few)

is_access : (rows : List RowWrite) (m : ReadMark) → IsAccess (answer_to rows m)
is_access rows (Row id) = record { not_entered = refl; not_left = refl }
is_access rows (Table t) = record { not_entered = refl; not_left = refl }

no_kept : (rows : List RowWrite) (m : ReadMark) → 0 + cond (is_kept (answer_to rows m)) 1 0 ≡ 0
no_kept rows (Row id) = refl
no_kept rows (Table t) = refl

one_read : (rows : List RowWrite) (m : ReadMark) → cond (is_read (answer_to rows m)) (answer_to rows m ∷ []) [] ≡ answer_to rows m ∷ []
one_read rows (Row id) = refl
one_read rows (Table t) = refl

-- what is read, one after the other, and what comes of it
read_all_run : (n : ℕ) (parts : Parts) (rows : List RowWrite) (through : Option Through) (plan p : Plan Outcome) (o : Outcome) (r : ℕ) (ms : List Mark) (had : List Answer)
    → r + n ≤ MAX_ACCESSES → IsHome through had 0 → ((more : List Answer) → walk plan (reads_in had ++ more) ≡ walk p more) → outcome n parts through rows p ≡ Some o
    → Comes o (run (budget n) parts (program_of parts.tables through plan) rows (state had (home_frames through) r 0 ms []))
unfolding budget walk
read_all_run n parts rows through plan (Refuses d) o r ms had room home walked is =
    let finish : wanted (walk plan (reads_in had)) ≡ want.Finish (record { writes = []; done = d }) = ap (λ rs. wanted (walk plan rs)) (sym (append-nil (reads_in had))) ∙ ap wanted (walked []) in
    let same : record { writes = []; done = d } ≡ o = cc in
    let P : Outcome → Type 0 = λ o. Comes o (run (budget n) parts (program_of parts.tables through plan) rows (state had (home_frames through) r 0 ms [])) in
    subst P same (leave_budget n parts rows through plan (record { writes = []; done = d }) 0 r 0 ms [] had home refl finish)
read_all_run n parts rows through plan (Gives g) o r ms had room home walked is =
    let finish : wanted (walk plan (reads_in had)) ≡ want.Finish g = ap (λ rs. wanted (walk plan rs)) (sym (append-nil (reads_in had))) ∙ ap wanted (walked []) in
    let got = taken ((nat_le (length g.writes) n && nat_le (length g.writes) MAX_WRITES) && may_put_all parts through g.writes) (Some (record { writes = put_each [] g.writes; done = g.done })) o is in
    let two = and_parts (nat_le (length g.writes) n && nat_le (length g.writes) MAX_WRITES) (may_put_all parts through g.writes) got.0 in
    let sizes = and_parts (nat_le (length g.writes) n) (nat_le (length g.writes) MAX_WRITES) two.0 in
    let few : length g.writes ≤ n = grind (arith, nat_tests, sizes.0) in
    let fit : 0 + length g.writes ≤ MAX_WRITES = grind (arith, nat_tests, sizes.1) in
    let some = got.1 in
    let same : record { writes = put_each [] g.writes; done = g.done } ≡ o = cc in
    let P : Outcome → Type 0 = λ o. Comes o (run (budget n) parts (program_of parts.tables through plan) rows (state had (home_frames through) r 0 ms [])) in
    subst P same (put_all_run n parts rows through plan g r 0 ms [] [] g.writes had refl few fit two.1 home finish)
read_all_run zero parts rows through plan (Asks m go) o r ms had room home walked is = absurd (cc)
read_all_run (suc n) parts rows through plan (Asks m go) o r ms had room home walked is =
    let got = taken (reaches parts through (table_of m)) (outcome n parts through rows (go (answer_to rows m))) o is in
    let few : nat_lt r MAX_MARKS ≡ true = grind (arith, nat_tests) in
    let a : Answer = answer_to rows m in
    let asked : wanted (walk plan (reads_in had)) ≡ want.Ask m = ap (λ rs. wanted (walk plan rs)) (sym (append-nil (reads_in had))) ∙ ap wanted (walked []) in
    let access : IsAccessOf parts rows through plan (reading m) (table_of m) a had 0 r 0 (r + 1) 0 ms (marks_of rows m ms) [] [] = record {
      answered = is_access rows m;
      home = home;
      makes = λ h frames on inside. read_makes parts rows m r ms h frames on few inside;
      wants = λ h same rows_are. ap (λ rs. wanting parts.tables through h (wanted (walk plan rs))) same ∙ ap (wanting parts.tables through h) asked;
    } in
    access_run parts rows through plan (reading m) (table_of m) a had 0 r 0 (r + 1) 0 ms (marks_of rows m ms) [] [] (budget n) o
    got.0 access
    (λ h home2 same.
    let P : ℕ → Type 0 = λ k. IsHome through h k in
    read_all_run n parts rows through plan (go a) o (r + 1) (marks_of rows m ms) h (omega (arith, room)) (subst P (no_kept rows m) home2)
    (λ more. ap (λ rs. walk plan (rs ++ more)) (same ∙ ap (λ l. reads_in had ++ l) (one_read rows m)) ∙ ap (walk plan) (append_assoc (reads_in had) (a ∷ []) more) ∙ walked (a ∷ more))
    got.1)

-- the answers to the steps into the gateway, and into what the action goes through

abbrev in_gateway : List Answer
in_gateway = answer.Entered ∷ []

abbrev in_both : List Answer
in_both = answer.Entered ∷ answer.Entered ∷ []

no_enter : enter_count [] ≡ 0
unfolding enter_count
no_enter = refl

one_enter : enter_count in_gateway ≡ 1
unfolding enter_count
one_enter = refl

gateway_home : IsHome None in_gateway 0
unfolding enter_count exit_count put_count
gateway_home = record { level = refl; rows = refl }

both_home : (h : Through) → IsHome (Some h) in_both 0
unfolding enter_count exit_count put_count
both_home h = record { level = refl; rows = refl }

none_read : (more : List Answer) → (reads_in in_gateway ++ more ≡ more) × (reads_in in_both ++ more ≡ more)
unfolding reads_in
none_read more = (refl, refl)

-- the gateway is entered first
enter_gateway : (n : ℕ) (parts : Parts) (through : Option Through) (plan : Plan Outcome) (rows : List RowWrite) → nat_lt GATEWAY.0 (length parts.components) ≡ true
    → run (suc n) parts (program_of parts.tables through plan) rows not_run ≡ run n parts (program_of parts.tables through plan) rows (state in_gateway (GATEWAY ∷ []) 0 0 [] [])
enter_gateway n parts through plan rows low =
    run_step n parts (program_of parts.tables through plan) rows not_run (next.Enter GATEWAY 0) (asked through)
    ∙ ap (λ b. cond ((b && true) && nat_lt 0 MAX_FRAMES) (run n parts (program_of parts.tables through plan) rows (state in_gateway (GATEWAY ∷ []) 0 0 [] [])) None) low
  where
    asked : (through : Option Through) → program_of parts.tables through plan [] ≡ next.Enter GATEWAY 0
    asked None = rw no_enter refl
    asked (Some h) = rw no_enter refl

enter_through : (n : ℕ) (parts : Parts) (h : Through) (plan : Plan Outcome) (rows : List RowWrite) → may_go parts GATEWAY h.component ≡ true
    → run (suc n) parts (program_of parts.tables (Some h) plan) rows (state in_gateway (GATEWAY ∷ []) 0 0 [] []) ≡ run n parts (program_of parts.tables (Some h) plan) rows (state in_both (home_frames (Some h)) 0 0 [] [])
enter_through n parts h plan rows may =
    let asked : program_of parts.tables (Some h) plan in_gateway ≡ next.Enter h.component h.method = rw one_enter refl in
    run_step n parts (program_of parts.tables (Some h) plan) rows (state in_gateway (GATEWAY ∷ []) 0 0 [] []) (next.Enter h.component h.method) asked
    ∙ ap (λ b. cond (b && nat_lt 1 MAX_FRAMES) (run n parts (program_of parts.tables (Some h) plan) rows (state in_both (home_frames (Some h)) 0 0 [] [])) None) may

pub plan_run : (parts : Parts) (through : Option Through) (plan : Plan Outcome) (rows : List RowWrite) (o : Outcome) → outcome_of parts through rows plan ≡ Some o → Comes o (run_of parts (program_of parts.tables through plan) rows)
unfolding run_of outcome_of budget
plan_run parts None plan rows o is =
    let P : Option Ran → Type 0 = λ got. Comes o got in
    let asks = program_of parts.tables None plan in
    let s : Running = state in_gateway (home_frames None) 0 0 [] [] in
    let got = taken (has_home parts None) (outcome MAX_ACCESSES parts None rows plan) o is in
    let rest = read_all_run MAX_ACCESSES parts rows None plan plan o 0 [] in_gateway (omega arith) gateway_home (λ more. ap (walk plan) (none_read more).0) got.1 in
    subst P (sym (enter_gateway 128 parts None plan rows got.0)) (comes_more 127 parts asks rows s o (comes_more 126 parts asks rows s o rest))
plan_run parts (Some h) plan rows o is =
    let P : Option Ran → Type 0 = λ got. Comes o got in
    let asks = program_of parts.tables (Some h) plan in
    let s : Running = state in_both (home_frames (Some h)) 0 0 [] [] in
    let got = taken (has_home parts (Some h)) (outcome MAX_ACCESSES parts (Some h) rows plan) o is in
    let can = and_parts (nat_lt GATEWAY.0 (length parts.components)) (may_go parts GATEWAY h.component) got.0 in
    let rest = read_all_run MAX_ACCESSES parts rows (Some h) plan plan o 0 [] in_both (omega arith) (both_home h) (λ more. ap (walk plan) (none_read more).1) got.1 in
    subst P (sym (enter_gateway 128 parts (Some h) plan rows can.0 ∙ enter_through 127 parts h plan rows can.1)) (comes_more 126 parts asks rows s o rest)
