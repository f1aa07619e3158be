-- What a call finds that reads a row.
use Rattle.std.proofs.Common.{◌≡◌, ℕ, Bool, true, false, cond, List, [], ◌∷◌, ◌++◌, take, Option, None, All, refl}
use Rattle.std.proofs.lemmas.List.Elements.{All-push}
use Rattle.crash_base.specs.declared.row_id.RowId.{RowId}
use Rattle.crash_base.specs.declared.rows.RowWrite.{RowWrite}
use Rattle.crash_base.specs.Rows.{row_in}
use Rattle.crash_base.proofs.Ordering.{row_in-put_all}
use Rattle.journal_model.specs.declared.entry.Entry.{Entry}
use Rattle.journal_model.specs.declared.entry.Mark.{Mark}
use Rattle.journal_model.specs.declared.entry.ReadMark.{ReadMark}
use Rattle.journal_model.specs.declared.entry.ReadMark.TheVariants.{Row, Table}
use Rattle.journal_model.specs.Calls.{Call, is_put, is_marked, marked_with, has_read, has_listed}
use Rattle.journal_model.specs.Fits.{Fits}
use Rattle.journal_model.specs.Rows.{all_writes, row_of, rows_after, value_of, IsRead}
use Rattle.journal_model.specs.Snapshots.{snapshot}

-- the row in the rows is its last write
pub value_found : (base : List RowWrite) (es : List Entry) (id : RowId) → row_in (rows_after base es) id ≡ row_of base es id
value_found base es id = row_in-put_all (all_writes base es) [] id

marks_with : (base : List RowWrite) (es : List Entry) (read : ReadMark) (value : Option (List ℕ)) (marks : List Mark) (b : Bool) → value ≡ value_of base es read → All (IsRead base es) marks → All (IsRead base es) (cond b marks (marks ++ record { read = read; value = value } ∷ []))
marks_with base es read value marks true is all = all
marks_with base es read value marks false is all = All-push (IsRead base es) marks (record { read = read; value = value }) all is

marks_found : (base : List RowWrite) (es : List Entry) (id : RowId) (marks : List Mark) (b : Bool) → All (IsRead base es) marks → All (IsRead base es) (cond b marks (marked_with (Row id) (row_in (rows_after base es) id) marks))
marks_found base es id marks true all = all
marks_found base es id marks false all = marks_with base es (Row id) (row_in (rows_after base es) id) marks (is_marked marks (Row id)) (value_found base es id) all

-- when it has read a row of its snapshot
pub fits_read : (base : List RowWrite) (es : List Entry) (id : RowId) (call : Call) → Fits base es call → Fits base es (has_read (snapshot base es call.at.0) id call)
fits_read base es id call f = record {
  at = f.at;
  marks = marks_found base (take call.at.0 es) id call.marks (is_put call.writes id) f.marks;
  touches = f.touches;
  since = f.since;
  writes = f.writes;
  apart = f.apart;
}

-- when it has listed a table
pub fits_listed : (base : List RowWrite) (es : List Entry) (t : ℕ) (call : Call) → Fits base es call → Fits base es (has_listed t call)
fits_listed base es t call f = record {
  at = f.at;
  marks = marks_with base (take call.at.0 es) (Table t) None call.marks (is_marked call.marks (Table t)) refl f.marks;
  touches = f.touches;
  since = f.since;
  writes = f.writes;
  apart = f.apart;
}
