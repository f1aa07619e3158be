use Rattle.std.proofs.Common.{sym, ◌∙◌}
use Rattle.crash_base.specs.declared.rows.RowWrite.{RowWrite}
use Rattle.journal_model.specs.declared.entry.ReadMark.TheVariants.{Row}
use Rattle.boot_core.proofs.Newer.{newer_here, newer_past, newer_none_left}
use Rattle.boot_core.proofs.conflicts.conflict_of_writes.Goals as goal

pub loop-write-preserved : goal.loop-write-preserved
loop-write-preserved c = λ base es are.
    sym (newer_past es c.args.at.0 (λ (w : RowWrite). Row w.id) c.args.writes.now c.loop-write.write-index c.write-item.result c.loop-write-test.true c.write-item.is (sym (c.conflict_at.ensures base es are) ∙ c.in_default.is)) ∙ c.loop-write.invariant base es are

pub returns-in-Some : goal.returns-in-Some
returns-in-Some c = λ base es are.
    sym (sym (c.loop-write.invariant base es are) ∙ newer_here es c.args.at.0 (λ (w : RowWrite). Row w.id) c.args.writes.now c.loop-write.write-index c.write-item.result c.in-Some.conflict c.loop-write-test.true c.write-item.is (sym (c.in-Some.ensures base es are)))

pub returns : goal.returns
returns c = λ base es are.
    sym (newer_none_left es c.args.at.0 (λ (w : RowWrite). Row w.id) c.args.writes.now c.loop-write.write-index c.loop-write-test.false) ∙ c.loop-write.invariant base es are
