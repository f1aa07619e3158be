-- A run that is done is the same where it may make more steps.
use Rattle.std.proofs.Common.{◌≡◌, ℕ, zero, suc, List, [], ◌∷◌, Some, refl}
use Rattle.std.specs.Prelude.{All}
use Rattle.std.proofs.lemmas.List.Elements.{All-nil, All-cons}
use Rattle.crash_base.specs.declared.rows.RowWrite.{RowWrite}
use Rattle.deployment.specs.declared.parts.Parts.{Parts}
use Rattle.journal_model.specs.declared.entry.Mark.{Mark}
use Rattle.journal_model.specs.declared.entry.ReadMark.{ReadMark}
use Rattle.journal_model.specs.declared.entry.ReadMark.TheVariants.{Row, Table}
use Rattle.journal_model.specs.Snapshots.{AgreeOn}
use Rattle.call_ticket.specs.declared.next.Answer.{Answer}
use Rattle.call_ticket.specs.declared.next.Next.{Next}
use Rattle.call_ticket.specs.Runs.{Running, Ran, resume, run}
use Rattle.call_ticket.proofs.EqualRuns.{step_alike}

agree_self : (rows : List RowWrite) (m : ReadMark) → AgreeOn rows rows m
agree_self rows (Row id) = refl
agree_self rows (Table t) = refl

all_self : (rows : List RowWrite) (marks : List Mark) → All (λ (m : Mark). AgreeOn rows rows m.read) marks
all_self rows [] = All-nil (λ (m : Mark). AgreeOn rows rows m.read)
all_self rows (m ∷ ms) = All-cons (λ (m : Mark). AgreeOn rows rows m.read) m ms (agree_self rows m.read) (all_self rows ms)

pub run_more : (n : ℕ) (parts : Parts) (asks : List Answer → Next) (rows : List RowWrite) (s : Running) (ran : Ran) → run n parts asks rows s ≡ Some ran → run (suc n) parts asks rows s ≡ Some ran
unfolding run
run_more zero parts asks rows s ran is = absurd (cc)
run_more (suc n) parts asks rows s ran is =
    (step_alike parts rows rows s ran (λ t. run n parts asks rows t) (λ t. run (suc n) parts asks rows t) (asks s.answers) (all_self rows ran.marks) (λ t done. (all_self rows t.marks, run_more n parts asks rows t ran done)) is).1

-- the step that is asked for is made
pub run_step : (n : ℕ) (parts : Parts) (asks : List Answer → Next) (rows : List RowWrite) (s : Running) (x : Next) → asks s.answers ≡ x → run (suc n) parts asks rows s ≡ resume parts rows s x (λ t. run n parts asks rows t)
unfolding run
run_step n parts asks rows s x is = rw is refl
