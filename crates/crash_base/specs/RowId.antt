-- Ids of rows, and their order.
use Rattle.std.specs.Prelude.{◌==◌, ◌&&◌, ◌||◌, nat_lt, Bool}
use Rattle.crash_base.specs.declared.row_id.RowId.{RowId}

-- whether both are the same row
abbrev pub same_id : RowId → RowId → Bool
same_id a b = (a.table == b.table) && (a.key == b.key)

-- whether one row comes before another: by table, and within one table by key
abbrev pub id_before : RowId → RowId → Bool
id_before a b = nat_lt a.table b.table || ((a.table == b.table) && nat_lt a.key b.key)
