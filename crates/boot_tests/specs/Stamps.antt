-- An action that writes a row where it is not there yet.
use Rattle.std.specs.Prelude.{◌≡◌, ℕ, ◌&&◌, Bool, true, false, cond, List, [], ◌∷◌, Option, Some, None, IsSome}
use Rattle.std.proofs.Common.{refl, ap, sym, subst, ◌∙◌}
use Rattle.crash_base.specs.declared.row_id.RowId.{RowId}
use Rattle.crash_base.specs.declared.rows.RowWrite.{RowWrite}
use Rattle.crash_base.specs.Rows.{row_in}
use Rattle.deployment.specs.declared.parts.Parts.{Parts}
use Rattle.deployment.specs.declared.parts.TablePart.{TablePart}
use Rattle.journal_model.specs.declared.entry.DoneText.{DoneText}
use Rattle.journal_model.specs.declared.entry.ReadMark.TheVariants.{Row}
use Rattle.journal_model.specs.declared.entry.SessionChange.TheVariants.{Keep}
use Rattle.call_ticket.specs.declared.next.Answer.{Answer}
use Rattle.call_ticket.specs.declared.next.Answer.TheVariants as answer
use Rattle.call_ticket.specs.Runs.{Ran, is_write, run_of}
use Rattle.action_plans.specs.declared.plan.Outcome.{Outcome}
use Rattle.action_plans.specs.declared.plan.Through.{Through}
use Rattle.action_plans.specs.Plans.{Plan, Asks, Refuses, Gives}
use Rattle.action_plans.specs.Steps.{has_home, reaches, may_put, outcome, outcome_of, program_of}
use Rattle.action_plans.proofs.Driving.{plan_run}

-- an answer without a page
abbrev pub plain : ℕ → DoneText
plain status = record { status = status; page = []; session = Keep }

-- the row with one byte
abbrev pub stamp_of : RowId → RowWrite
stamp_of id = record { id = id; bytes = 120 ∷ [] }

-- what comes of the answer to the read
abbrev pub stamped : RowId → Answer → Plan Outcome
stamped id (answer.Row None) = Gives (record { writes = stamp_of id ∷ []; done = plain 200 })
stamped id (answer.Row (Some bytes)) = Refuses (plain 409)
stamped id answer.Entered = Refuses (plain 500)
stamped id (answer.Rows rows) = Refuses (plain 500)
stamped id answer.Kept = Refuses (plain 500)
stamped id answer.Left = Refuses (plain 500)

-- The row is read, and written where it is not there.
unfoldable pub stamp_plan : RowId → Plan Outcome
stamp_plan id = Asks (Row id) (stamped id)

-- A deployment in which the action runs: it has these tables, and the action can put the row in it.
pub record CanStamp (tables : List TablePart) (through : Option Through) (id : RowId) (parts : Parts) : Type 0 where
  pub same : parts.tables ≡ tables
  pub home : has_home parts through ≡ true
  pub row : may_put parts through (stamp_of id) ≡ true

first : (a b : Bool) → (a && b) ≡ true → a ≡ true
first true b is = refl
first false b is = absurd (cc)

-- what the plan comes to
stamp_comes : (through : Option Through) (id : RowId) (parts : Parts) (rows : List RowWrite) → has_home parts through ≡ true → may_put parts through (stamp_of id) ≡ true
    → (o : Outcome) × (outcome_of parts through rows (stamp_plan id) ≡ Some o)
unfolding outcome_of stamp_plan
stamp_comes through id parts rows home row =
    let got = go (row_in rows id) in (
      got.0,
      ap (λ b. cond b (cond (reaches parts through id.table) (outcome 40 parts through rows (stamped id (answer.Row (row_in rows id)))) None) None) home
          ∙ ap (λ b. cond b (outcome 40 parts through rows (stamped id (answer.Row (row_in rows id)))) None) near ∙ got.1,
    )
  where
    near : reaches parts through id.table ≡ true
    near = first (reaches parts through id.table) (is_write (stamp_of id)) row

    go : (v : Option (List ℕ)) → (o : Outcome) × (outcome 40 parts through rows (stamped id (answer.Row v)) ≡ Some o)
    go None =
        let o : Outcome = record { writes = stamp_of id ∷ []; done = plain 200 } in
        (o, ap (λ b. cond (b && true) (Some o) None) row)
    go (Some bytes) = let o : Outcome = record { writes = []; done = plain 409 } in (o, refl)

pub stamp_is_done : (tables : List TablePart) (through : Option Through) (id : RowId) (parts : Parts) (rows : List RowWrite) → CanStamp tables through id parts → IsSome (run_of parts (program_of tables through (stamp_plan id)) rows)
stamp_is_done tables through id parts rows can =
    let comes = stamp_comes through id parts rows can.home can.row in
    let ran = plan_run parts through (stamp_plan id) rows comes.0 comes.1 in
    let P : Option Ran → Type 0 = λ o. IsSome o in
    let Q : List TablePart → Type 0 = λ ts. IsSome (run_of parts (program_of ts through (stamp_plan id)) rows) in
    subst Q can.same (subst P (sym ran.1) refl)
