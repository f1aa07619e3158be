use Rattle.std.proofs.Common.{sym, ◌∙◌}
use Rattle.journal_model.specs.declared.entry.Mark.{Mark}
use Rattle.boot_core.proofs.Newer.{newer_here, newer_past, newer_none_left}
use Rattle.boot_core.proofs.conflicts.conflict_of_marks.Goals as goal

pub loop-mark-preserved : goal.loop-mark-preserved
loop-mark-preserved c = λ base es are.
    sym (newer_past es c.args.at.0 (λ (m : Mark). m.read) c.args.marks.now c.loop-mark.mark-index c.mark-item.result c.loop-mark-test.true c.mark-item.is (sym (c.conflict_at.ensures base es are) ∙ c.in_default.is)) ∙ c.loop-mark.invariant base es are

pub returns-in-Some : goal.returns-in-Some
returns-in-Some c = λ base es are.
    sym (sym (c.loop-mark.invariant base es are) ∙ newer_here es c.args.at.0 (λ (m : Mark). m.read) c.args.marks.now c.loop-mark.mark-index c.mark-item.result c.in-Some.conflict c.loop-mark-test.true c.mark-item.is (sym (c.in-Some.ensures base es are)))

pub returns : goal.returns
returns c = λ base es are.
    sym (newer_none_left es c.args.at.0 (λ (m : Mark). m.read) c.args.marks.now c.loop-mark.mark-index c.loop-mark-test.false) ∙ c.loop-mark.invariant base es are
