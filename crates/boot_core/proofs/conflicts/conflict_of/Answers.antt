use Rattle.std.proofs.Common.{map, ap, sym, ◌∙◌}
use Rattle.crash_base.specs.declared.numbers.Place.{Place}
use Rattle.crash_base.specs.declared.rows.RowWrite.{RowWrite}
use Rattle.journal_model.specs.declared.entry.Mark.{Mark}
use Rattle.journal_model.specs.declared.entry.ReadMark.TheVariants.{Row}
use Rattle.journal_model.specs.Conflicts.{conflict_in}
use Rattle.boot_core.proofs.Newer.{newer_first, newer_second}
use Rattle.boot_core.proofs.conflicts.conflict_of.Goals as goal

pub returns-in-Some : goal.returns-in-Some
returns-in-Some c = λ base es are.
    let call = c.args.ticket.now.call in
    let marks = map (λ (m : Mark). m.read) call.marks in
    let writes = map (λ (w : RowWrite). Row w.id) call.writes in
    let found = ap (λ (p : Place). conflict_in es p.0 marks) (sym c.at.ensures) ∙ ap (λ ms. conflict_in es c.at.result.0 (map (λ (m : Mark). m.read) ms)) (sym c.marks.ensures.marks) ∙ sym (c.conflict_of_marks.ensures base es are) ∙ c.in-Some.is in
    sym (newer_first es call.at.0 marks writes c.in-Some.conflict found)

pub returns-in-None : goal.returns-in-None
returns-in-None c = λ base es are.
    let call = c.args.ticket.now.call in
    let marks = map (λ (m : Mark). m.read) call.marks in
    let writes = map (λ (w : RowWrite). Row w.id) call.writes in
    let none = ap (λ (p : Place). conflict_in es p.0 marks) (sym c.at.ensures) ∙ ap (λ ms. conflict_in es c.at.result.0 (map (λ (m : Mark). m.read) ms)) (sym c.marks.ensures.marks) ∙ sym (c.conflict_of_marks.ensures base es are) ∙ c.in-None.is in
    let later = ap (λ (p : Place). conflict_in es p.0 writes) (sym c.at-in-None.ensures) ∙ ap (λ ws. conflict_in es c.at-in-None.result.0 (map (λ (w : RowWrite). Row w.id) ws)) (sym c.writes.ensures.writes) ∙ sym (c.conflict_of_writes.ensures base es are) in
    sym (newer_second es call.at.0 marks writes none ∙ later)
