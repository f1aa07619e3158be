use Rattle.std.proofs.Common.{◌≡◌, ◌++◌}
use Rattle.outside.specs.Places.{rows_at}
use Rattle.outside.proofs.row_map.copies_at.Given as goal

abbrev pub invariant-loop-place : goal.invariant-loop-place
invariant-loop-place l = l.copies.items ++ rows_at l.place-iterator ≡ rows_at l.places.entries
