-- A program that reads a row inside its owner, and writes it.
use Rattle.std.specs.Prelude.{◌≡◌, ℕ, suc, ◌<◌, ◌==◌, ◌&&◌, if◌then◌else◌, true, List, [], ◌∷◌, ◌++◌, length, Option, Some, None, IsSome, nat_lt}
use Rattle.std.proofs.Common.{refl, ap, sym, subst, ◌∙◌, arith}
use Rattle.std.proofs.lemmas.Bool.Decides.{nat_tests}
use Rattle.crash_base.specs.declared.numbers.ComponentNo.{ComponentNo}
use Rattle.crash_base.specs.declared.row_id.RowId.{RowId}
use Rattle.crash_base.specs.declared.rows.RowWrite.{RowWrite}
use Rattle.deployment.specs.declared.parts.Parts.{Parts}
use Rattle.deployment.specs.Parts.{owner_of}
use Rattle.journal_model.specs.declared.entry.DoneText.{DoneText}
use Rattle.journal_model.specs.declared.entry.SessionChange.TheVariants.{Keep}
use Rattle.call_ticket.specs.declared.next.Answer.{Answer}
use Rattle.call_ticket.specs.declared.next.Next.{Next}
use Rattle.call_ticket.specs.declared.next.Next.TheVariants as next
use Rattle.call_ticket.specs.Access.{is_same_component}
use Rattle.call_ticket.specs.Runs.{Ran, Running, after_step, keeps_rules, not_run, run, run_of}
use Rattle.call_ticket.proofs.MoreSteps.{run_step}
use Rattle.call_attempts.specs.Attempt.{Continues}

-- component 1
abbrev pub stock : ComponentNo
stock = record { 0 = 1 }

-- the row
abbrev pub noted_id : RowId
noted_id = record { table = 3; key = 7 }

-- the row with one byte
abbrev pub noted_row : RowWrite
noted_row = record { id = noted_id; bytes = 120 ∷ [] }

-- an answer without a page
abbrev pub noted : DoneText
noted = record { status = 200; page = []; session = Keep }

-- It enters component 1 by a method, reads the row, puts it, leaves, and is done.
abbrev pub note : ℕ → List Answer → Next
note method answers =
    if length answers == 0 then next.Enter stock method else (if length answers == 1 then next.Read noted_id else (if length answers == 2 then next.Put noted_row else (if length answers == 3 then next.Exit else next.Done noted)))

-- A deployment in which it runs: component 1 is there, and owns the table of the row.
pub record CanNote (parts : Parts) : Type 0 where
  pub component : 1 < length parts.components
  pub owner : owner_of parts.tables 3 ≡ Some stock

-- a step that keeps the rules
going : (n : ℕ) (parts : Parts) (asks : List Answer → Next) (rows : List RowWrite) (s : Running) (x : Next) → asks s.answers ≡ x → Continues x → keeps_rules parts s x ≡ true
    → run (suc n) parts asks rows s ≡ run n parts asks rows (after_step rows s x)
going n parts asks rows s (next.Enter c m) is on keeps = run_step n parts asks rows s (next.Enter c m) is ∙ ap (λ b. if b then run n parts asks rows (after_step rows s (next.Enter c m)) else None) keeps
going n parts asks rows s (next.Read id) is on keeps = run_step n parts asks rows s (next.Read id) is ∙ ap (λ b. if b then run n parts asks rows (after_step rows s (next.Read id)) else None) keeps
going n parts asks rows s (next.List t) is on keeps = run_step n parts asks rows s (next.List t) is ∙ ap (λ b. if b then run n parts asks rows (after_step rows s (next.List t)) else None) keeps
going n parts asks rows s (next.Put w) is on keeps = run_step n parts asks rows s (next.Put w) is ∙ ap (λ b. if b then run n parts asks rows (after_step rows s (next.Put w)) else None) keeps
going n parts asks rows s next.Exit is on keeps = run_step n parts asks rows s next.Exit is ∙ ap (λ b. if b then run n parts asks rows (after_step rows s next.Exit) else None) keeps
going n parts asks rows s (next.Done d) is on keeps = absurd on

pub note_is_done : (method : ℕ) (parts : Parts) (rows : List RowWrite) → CanNote parts → IsSome (run_of parts (note method) rows)
unfolding run_of
note_is_done method parts rows can =
    let low = can.component in
    let is_there : nat_lt 1 (length parts.components) ≡ true = grind (arith, nat_tests) in
    let s1 : Running = after_step rows not_run (next.Enter stock method) in
    let s2 : Running = after_step rows s1 (next.Read noted_id) in
    let s3 : Running = after_step rows s2 (next.Put noted_row) in
    let s4 : Running = after_step rows s3 next.Exit in
    let one = going 128 parts (note method) rows not_run (next.Enter stock method) refl tt (ap (λ b. (b && true) && true) is_there) in
    let two = going 127 parts (note method) rows s1 (next.Read noted_id) refl tt (ap (λ o. is_same_component (Some stock) o && true) can.owner) in
    let three = going 126 parts (note method) rows s2 (next.Put noted_row) refl tt (ap (λ o. (is_same_component (Some stock) o && true) && true) can.owner) in
    let four = going 125 parts (note method) rows s3 next.Exit refl tt refl in
    let five = run_step 124 parts (note method) rows s4 (next.Done noted) refl in
    let P : Option Ran → Type 0 = λ o. IsSome o in
    subst P (sym (one ∙ two ∙ three ∙ four ∙ five)) refl
