use Rattle.std.proofs.Common.{cond, None, ap, ◌∙◌, subst, sym, ◌≡◌, Bool}
use Rattle.std.specs.List.{Any}
use Rattle.crash_base.specs.Rows.{row_in}
use Rattle.journal_model.specs.declared.entry.Mark.{Mark}
use Rattle.journal_model.specs.declared.entry.ReadMark.TheVariants.{Row, Table}
use Rattle.journal_model.specs.Calls.{marked_with}
use Rattle.journal_model.proofs.Marking.{marks_have, marks_first, marks_again}
use Rattle.journal_model.proofs.step_laws.reads_leave_their_marks.Goals as goal

pub returns-clause-read : goal.returns-clause-read
returns-clause-read c = λ rows id call put.
    let P : Bool → Type 0 = λ b. Any (λ (m : Mark). m.read ≡ Row id) (cond b call.marks (marked_with (Row id) (row_in rows id) call.marks)) in
    subst P (sym put) (marks_have (Row id) (row_in rows id) call.marks)

pub returns-clause-first : goal.returns-clause-first
returns-clause-first c = λ rows id call put none.
    ap (λ b. cond b call.marks (marked_with (Row id) (row_in rows id) call.marks)) put ∙ marks_first (Row id) (row_in rows id) call.marks none

pub returns-clause-again : goal.returns-clause-again
returns-clause-again c = λ rows id call put any.
    ap (λ b. cond b call.marks (marked_with (Row id) (row_in rows id) call.marks)) put ∙ marks_again (Row id) (row_in rows id) call.marks any

pub returns-clause-own : goal.returns-clause-own
returns-clause-own c = λ rows id call put. ap (λ b. cond b call.marks (marked_with (Row id) (row_in rows id) call.marks)) put

pub returns-clause-listed : goal.returns-clause-listed
returns-clause-listed c = λ t call. marks_have (Table t) None call.marks

pub returns-clause-listed_first : goal.returns-clause-listed_first
returns-clause-listed_first c = λ t call none. marks_first (Table t) None call.marks none

pub returns-clause-listed_again : goal.returns-clause-listed_again
returns-clause-listed_again c = λ t call any. marks_again (Table t) None call.marks any
