-- The rows at a place of a journal, and how long a row or a table has stayed as it is.
use Rattle.std.specs.Prelude.{◌≡◌, ℕ, ◌+◌, ◌==◌, max, Bool, if◌then◌else◌, List, [], ◌∷◌, take, filter}
use Rattle.std.specs.List.{list_any}
use Rattle.crash_base.specs.declared.row_id.RowId.{RowId}
use Rattle.crash_base.specs.declared.rows.RowWrite.{RowWrite}
use Rattle.crash_base.specs.RowId.{same_id}
use Rattle.crash_base.specs.Rows.{row_in}
use Rattle.journal_model.specs.declared.entry.Entry.{Entry}
use Rattle.journal_model.specs.declared.entry.ReadMark.{ReadMark}
use Rattle.journal_model.specs.declared.entry.ReadMark.TheVariants.{Row, Table}
use Rattle.journal_model.specs.Rows.{writes_of, rows_after}

-- the snapshot at a place: the rows that the entries before it leave
abbrev pub snapshot : List RowWrite → List Entry → ℕ → List RowWrite
snapshot base es at = rows_after base (take at es)

-- the rows of a table
abbrev pub table_rows : ℕ → List RowWrite → List RowWrite
table_rows t rows = filter (λ (r : RowWrite). r.id.table == t) rows

-- whether a row is what was read, or of the table that was
abbrev pub covers : ReadMark → RowId → Bool
covers (Row r) id = same_id id r
covers (Table t) id = id.table == t

-- whether one of the writes is of what was read
abbrev pub writes_read : ReadMark → List RowWrite → Bool
writes_read read writes = list_any (λ (w : RowWrite). covers read w.id) writes

-- the place after the last entry that writes of what was read, else 0, where the first of the entries is at i
abbrev pub newest_from : ℕ → List Entry → ReadMark → ℕ
newest_from i [] read = 0
newest_from i (e ∷ es) read =
    max (if writes_read read (writes_of e) then i + 1 else 0) (newest_from (i + 1) es read)

-- the place after the last entry that writes of what was read, else 0
abbrev pub newest : List Entry → ReadMark → ℕ
newest es read = newest_from 0 es read

-- Who reads this finds the same in both lists of rows.
abbrev pub AgreeOn : List RowWrite → List RowWrite → ReadMark → Type 0
AgreeOn rows others (Row id) = row_in rows id ≡ row_in others id
AgreeOn rows others (Table t) = table_rows t rows ≡ table_rows t others
