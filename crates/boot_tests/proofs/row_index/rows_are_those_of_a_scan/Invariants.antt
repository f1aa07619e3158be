use Rattle.std.proofs.Common.{◌<◌, All}
use Rattle.row_store.specs.declared.noted.Noted.{Noted}
use Rattle.boot_tests.proofs.row_index.rows_are_those_of_a_scan.Given as goal

abbrev pub invariant-loop-place : goal.invariant-loop-place
invariant-loop-place g l = All (λ (n : Noted). n.place.0 < l.place) l.rows.noted
