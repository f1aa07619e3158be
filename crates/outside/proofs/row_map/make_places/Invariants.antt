use Rattle.std.proofs.Common.{◌≡◌, take, All}
use Rattle.outside.specs.Places.{rows_at, HasPlace}
use Rattle.outside.proofs.row_map.make_places.Given as goal

abbrev pub invariant-loop-row : goal.invariant-loop-row
invariant-loop-row l =
    (rows_at l.places.entries ≡ rows_at l.fn.places.entries) × All (HasPlace l.places) (take l.row-index l.rows)
