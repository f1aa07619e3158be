use Rattle.std.proofs.Common.{◌≡◌, All}
use Rattle.crash_base.specs.Rows.{put_all}
use Rattle.outside.specs.Places.{rows_at, HasPlace}
use Rattle.outside.proofs.row_map.fill_places.Given as goal

abbrev pub invariant-loop-row : goal.invariant-loop-row
invariant-loop-row l =
    let rest = l.row-iterator.rest.items in
    record {
      rows : put_all rest (rows_at l.places.entries) ≡ put_all l.fn.rows.items (rows_at l.fn.places.entries);
      made : All (HasPlace l.places) rest;
    }
