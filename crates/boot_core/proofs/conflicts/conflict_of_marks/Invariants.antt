use Rattle.std.proofs.Common.{◌≡◌, List, map, drop}
use Rattle.crash_base.specs.declared.rows.RowWrite.{RowWrite}
use Rattle.journal_model.specs.declared.entry.Entry.{Entry}
use Rattle.journal_model.specs.declared.entry.Mark.{Mark}
use Rattle.journal_model.specs.Conflicts.{conflict_in}
use Rattle.row_store.specs.Rows.{AreRowsOf}
use Rattle.boot_core.proofs.conflicts.conflict_of_marks.Given as goal

abbrev pub invariant-loop-mark : goal.invariant-loop-mark
invariant-loop-mark l =
    (base : List RowWrite) (es : List Entry) → AreRowsOf l.rows base es →
    conflict_in es l.at.0 (map (λ (m : Mark). m.read) (drop l.mark-index l.marks)) ≡ conflict_in es l.at.0 (map (λ (m : Mark). m.read) l.marks)
