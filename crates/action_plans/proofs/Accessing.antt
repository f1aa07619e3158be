-- The run of an access, with the steps into its owner and out of it.
use Rattle.std.proofs.Common.{◌≡◌, ℕ, suc, ◌+◌, ◌||◌, Bool, true, false, cond, List, [], ◌∷◌, ◌++◌, Option, Some, refl, ap, sym, subst, ◌∙◌, append-nil}
use Rattle.crash_base.specs.declared.numbers.ComponentNo.{ComponentNo}
use Rattle.crash_base.specs.declared.rows.RowWrite.{RowWrite}
use Rattle.deployment.specs.declared.parts.Parts.{Parts}
use Rattle.deployment.specs.Parts.{owner_of}
use Rattle.journal_model.specs.declared.entry.Mark.{Mark}
use Rattle.call_ticket.specs.declared.next.Answer.{Answer}
use Rattle.call_ticket.specs.declared.next.Answer.TheVariants as answer
use Rattle.call_ticket.specs.declared.next.Next.{Next}
use Rattle.call_ticket.specs.declared.next.Next.TheVariants as next
use Rattle.call_ticket.specs.Access.{is_inside}
use Rattle.call_ticket.specs.Runs.{Running, Ran, resume, run}
use Rattle.call_ticket.proofs.MoreSteps.{run_more, run_step}
use Rattle.action_plans.specs.declared.plan.Outcome.{Outcome}
use Rattle.action_plans.specs.declared.plan.Through.{Through}
use Rattle.action_plans.specs.Plans.{Plan, walk, wanted}
use Rattle.action_plans.specs.Steps.{is_kept, is_read, put_count, reads_in, home_of, is_home, access, access_in, wanting, program_of, may_go, reaches}
use Rattle.action_plans.proofs.Counting.{reads-push, IsHome, IsAccess, step-home, step-out, access-home, access-out, goes_out, had_out, had_home, comes_home}
use Rattle.action_plans.proofs.Entering.{state, home_frames, second, near, inside_home, inside_owner, enters, leaves}

-- a run comes to an outcome, whatever it marked
abbrev pub Comes : Outcome → Option Ran → Type 0
Comes o got = (marks : List Mark) × (got ≡ Some (record { marks = marks; writes = o.writes; done = o.done }))

pub comes_more : (n : ℕ) (parts : Parts) (asks : List Answer → Next) (rows : List RowWrite) (s : Running) (o : Outcome) → Comes o (run n parts asks rows s) → Comes o (run (suc n) parts asks rows s)
comes_more n parts asks rows s o comes = (comes.0, run_more n parts asks rows s (record { marks = comes.0; writes = o.writes; done = o.done }) comes.1)

-- An access: a step that is made wherever the run is inside the owner of a table, with its answer, and that the action
-- wants until it is answered.
pub record IsAccessOf (parts : Parts) (rows : List RowWrite) (through : Option Through) (plan : Plan Outcome) (x : Next) (t : ℕ) (a : Answer) (had : List Answer) (k r q r2 q2 : ℕ) (ms ms2 : List Mark) (ws ws2 : List RowWrite) : Type 0 where
  pub answered : IsAccess a
  pub home : IsHome through had k
  pub makes : (h : List Answer) (frames : List ComponentNo) (go : Running → Option Ran) → is_inside parts frames t ≡ true
      → resume parts rows (state h frames r q ms ws) x go ≡ go (state (h ++ a ∷ []) frames r2 q2 ms2 ws2)
  pub wants : (h : List Answer) → reads_in h ≡ reads_in had → put_count h ≡ k → wanting parts.tables through h (wanted (walk plan (reads_in h))) ≡ access parts.tables through h t x

-- at home in the owner
access_here : (parts : Parts) (rows : List RowWrite) (through : Option Through) (plan : Plan Outcome) (x : Next) (t : ℕ) (a : Answer) (had : List Answer) (k r q r2 q2 : ℕ) (ms ms2 : List Mark) (ws ws2 : List RowWrite) (f : ℕ) (own : ComponentNo)
    → owner_of parts.tables t ≡ Some own → is_home through own ≡ true → IsAccessOf parts rows through plan x t a had k r q r2 q2 ms ms2 ws ws2
    → run (suc f) parts (program_of parts.tables through plan) rows (state had (home_frames through) r q ms ws) ≡ run f parts (program_of parts.tables through plan) rows (state (had ++ a ∷ []) (home_frames through) r2 q2 ms2 ws2)
access_here parts rows through plan x t a had k r q r2 q2 ms ms2 ws ws2 f own owns at_home is =
    let asks = program_of parts.tables through plan in
    let asked : asks had ≡ x =
    step-home parts.tables through had k (wanted (walk plan (reads_in had))) is.home ∙ is.wants had refl is.home.rows
    ∙ ap (λ o. access_in through had o x) owns ∙ access-home through had k own x is.home ∙ ap (λ b. cond b x (next.Enter own 0)) at_home in
    run_step f parts asks rows (state had (home_frames through) r q ms ws) x asked ∙ is.makes had (home_frames through) (λ u. run f parts asks rows u) (inside_home parts through t own owns at_home)

-- away from home: the owner is entered before, and left behind
access_there : (parts : Parts) (rows : List RowWrite) (through : Option Through) (plan : Plan Outcome) (x : Next) (t : ℕ) (a : Answer) (had : List Answer) (k r q r2 q2 : ℕ) (ms ms2 : List Mark) (ws ws2 : List RowWrite) (f : ℕ) (own : ComponentNo)
    → owner_of parts.tables t ≡ Some own → is_home through own ≡ false → may_go parts (home_of through) own ≡ true → IsAccessOf parts rows through plan x t a had k r q r2 q2 ms ms2 ws ws2
    → run (suc (suc (suc f))) parts (program_of parts.tables through plan) rows (state had (home_frames through) r q ms ws)
    ≡ run f parts (program_of parts.tables through plan) rows (state (((had ++ answer.Entered ∷ []) ++ a ∷ []) ++ answer.Left ∷ []) (home_frames through) r2 q2 ms2 ws2)
access_there parts rows through plan x t a had k r q r2 q2 ms ms2 ws ws2 f own owns away may is =
    let asks = program_of parts.tables through plan in
    let frames : List ComponentNo = home_frames through ++ own ∷ [] in
    let h1 : List Answer = had ++ answer.Entered ∷ [] in
    let h2 : List Answer = h1 ++ a ∷ [] in
    let out1 = goes_out through had k is.home in
    let out2 = had_out through h1 k a is.answered out1 in
    let r1 : reads_in h1 ≡ reads_in had = reads-push had answer.Entered ∙ append-nil (reads_in had) in
    let asked0 : asks had ≡ next.Enter own 0 =
    step-home parts.tables through had k (wanted (walk plan (reads_in had))) is.home ∙ is.wants had refl is.home.rows
    ∙ ap (λ o. access_in through had o x) owns ∙ access-home through had k own x is.home ∙ ap (λ b. cond b x (next.Enter own 0)) away in
    let asked1 : asks h1 ≡ x =
    step-out parts.tables through h1 k true (wanted (walk plan (reads_in h1))) out1 ∙ is.wants h1 r1 out1.rows
    ∙ ap (λ o. access_in through h1 o x) owns ∙ access-out through h1 k true own x out1 in
    let asked2 : asks h2 ≡ next.Exit = step-out parts.tables through h2 (k + cond (is_kept a) 1 0) false (wanted (walk plan (reads_in h2))) out2 in
    run_step (suc (suc f)) parts asks rows (state had (home_frames through) r q ms ws) (next.Enter own 0) asked0
    ∙ enters parts rows through own had r q ms ws (λ u. run (suc (suc f)) parts asks rows u) may
    ∙ run_step (suc f) parts asks rows (state h1 frames r q ms ws) x asked1
    ∙ is.makes h1 frames (λ u. run (suc f) parts asks rows u) (inside_owner parts through t own owns)
    ∙ run_step f parts asks rows (state h2 frames r2 q2 ms2 ws2) next.Exit asked2
    ∙ leaves parts rows through own h2 r2 q2 ms2 ws2 (λ u. run f parts asks rows u)

-- an access, and what comes of the run from there on
pub access_run : (parts : Parts) (rows : List RowWrite) (through : Option Through) (plan : Plan Outcome) (x : Next) (t : ℕ) (a : Answer) (had : List Answer) (k r q r2 q2 : ℕ) (ms ms2 : List Mark) (ws ws2 : List RowWrite) (f : ℕ) (o : Outcome)
    → reaches parts through t ≡ true → IsAccessOf parts rows through plan x t a had k r q r2 q2 ms ms2 ws ws2
    → ((h : List Answer) → IsHome through h (k + cond (is_kept a) 1 0) → reads_in h ≡ reads_in had ++ cond (is_read a) (a ∷ []) [] → Comes o (run f parts (program_of parts.tables through plan) rows (state h (home_frames through) r2 q2 ms2 ws2)))
    → Comes o (run (suc (suc (suc f))) parts (program_of parts.tables through plan) rows (state had (home_frames through) r q ms ws))
access_run parts rows through plan x t a had k r q r2 q2 ms ms2 ws ws2 f o can is later =
    let n = near parts through t can in
    go n.owner n.owns n.near (is_home through n.owner) refl
  where
    go : (own : ComponentNo) → owner_of parts.tables t ≡ Some own → (is_home through own || may_go parts (home_of through) own) ≡ true → (b : Bool) → is_home through own ≡ b
        → Comes o (run (suc (suc (suc f))) parts (program_of parts.tables through plan) rows (state had (home_frames through) r q ms ws))
    go own owns near true at_home =
        let asks = program_of parts.tables through plan in
        let s : Running = state had (home_frames through) r q ms ws in
        let made = access_here parts rows through plan x t a had k r q r2 q2 ms ms2 ws ws2 f own owns at_home is in
        let rest = later (had ++ a ∷ []) (had_home through had k a is.answered is.home) (reads-push had a) in
        comes_more (suc (suc f)) parts asks rows s o (comes_more (suc f) parts asks rows s o (subst (λ got. Comes o got) (sym made) rest))
    go own owns near false away =
        let h1 : List Answer = had ++ answer.Entered ∷ [] in
        let h2 : List Answer = h1 ++ a ∷ [] in
        let h3 : List Answer = h2 ++ answer.Left ∷ [] in
        let out = had_out through h1 k a is.answered (goes_out through had k is.home) in
        let home = comes_home through h2 (k + cond (is_kept a) 1 0) out in
        let rd1 : reads_in h1 ≡ reads_in had = reads-push had answer.Entered ∙ append-nil (reads_in had) in
        let rd2 : reads_in h2 ≡ reads_in had ++ cond (is_read a) (a ∷ []) [] = reads-push h1 a ∙ ap (λ rs. rs ++ cond (is_read a) (a ∷ []) []) rd1 in
        let rd3 : reads_in h3 ≡ reads_in had ++ cond (is_read a) (a ∷ []) [] = reads-push h2 answer.Left ∙ append-nil (reads_in h2) ∙ rd2 in
        let made = access_there parts rows through plan x t a had k r q r2 q2 ms ms2 ws ws2 f own owns away (second (is_home through own) (may_go parts (home_of through) own) away near) is in
        subst (λ got. Comes o got) (sym made) (later h3 home rd3)
