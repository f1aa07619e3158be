-- Rows at the places of an ordered map.
use Rattle.std.specs.Prelude.{ℕ, List, Option, Some, None}
use Rattle.std.specs.declared.cmp.Ordering.{Ordering}
use Rattle.std.specs.List.{filter_map}
use Rattle.std.specs.BTreeMap.{BTreeMap, ContainsKey}
use Rattle.crash_base.specs.declared.row_id.RowId.{RowId}
use Rattle.crash_base.specs.declared.rows.RowWrite.{RowWrite}
use Rattle.outside.specs.declared.row_map.Place.{Place}
use Rattle.outside.specs.contracts.row_map.PlaceOrd.TheImpl as place_ord

-- the order of places: by table, and within one table by key
abbrev pub place_order : Place → Place → Ordering
place_order = (place_ord.ghosts).cmp

-- the place of an id
abbrev pub place_of : RowId → Place
place_of id = record { table = id.table; key = id.key }

-- the row at a place, where it has one
abbrev pub row_at : Place × Option (List ℕ) → Option RowWrite
row_at (place, None) = None
row_at (place, Some bytes) = Some (record { id = record { table = place.table; key = place.key }; bytes = bytes })

-- the rows at places, in their order
abbrev pub rows_at : List (Place × Option (List ℕ)) → List RowWrite
rows_at places = filter_map row_at places

-- there is a place for this row
abbrev pub HasPlace : BTreeMap Place (Option (List ℕ)) → RowWrite → Type 0
HasPlace places row = ContainsKey place_order places (place_of row.id)
