use Rattle.std.proofs.Common.{◌≡◌, List, map, drop}
use Rattle.crash_base.specs.declared.rows.RowWrite.{RowWrite}
use Rattle.journal_model.specs.declared.entry.Entry.{Entry}
use Rattle.journal_model.specs.declared.entry.ReadMark.TheVariants.{Row}
use Rattle.journal_model.specs.Conflicts.{conflict_in}
use Rattle.row_store.specs.Rows.{AreRowsOf}
use Rattle.boot_core.proofs.conflicts.conflict_of_writes.Given as goal

abbrev pub invariant-loop-write : goal.invariant-loop-write
invariant-loop-write l =
    (base : List RowWrite) (es : List Entry) → AreRowsOf l.rows base es →
    conflict_in es l.at.0 (map (λ (w : RowWrite). Row w.id) (drop l.write-index l.writes)) ≡ conflict_in es l.at.0 (map (λ (w : RowWrite). Row w.id) l.writes)
