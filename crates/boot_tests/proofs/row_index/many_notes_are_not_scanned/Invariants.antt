use Rattle.std.proofs.Common.{◌<◌, All}
use Rattle.row_store.specs.declared.noted.Noted.{Noted}
use Rattle.boot_tests.proofs.row_index.many_notes_are_not_scanned.Given as goal

abbrev pub invariant-loop-n : goal.invariant-loop-n
invariant-loop-n g l = All (λ (n : Noted). n.place.0 < l.n) l.rows.noted
