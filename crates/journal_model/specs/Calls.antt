-- A call, and what its steps leave.
use Rattle.std.specs.Prelude.{ℕ, ◌+◌, ◌-◌, ◌==◌, Bool, false, if◌then◌else◌, List, [], ◌∷◌, ◌++◌, length, take, Option, None}
use Rattle.std.specs.List.{list_any}
use Rattle.crash_base.specs.declared.numbers.ComponentNo.{ComponentNo}
use Rattle.crash_base.specs.declared.numbers.Place.{Place}
use Rattle.crash_base.specs.declared.numbers.RequestNo.{RequestNo}
use Rattle.crash_base.specs.declared.row_id.RowId.{RowId}
use Rattle.crash_base.specs.declared.numbers.WorkerNo.{WorkerNo}
use Rattle.crash_base.specs.declared.rows.RowWrite.{RowWrite}
use Rattle.crash_base.specs.RowId.{same_id}
use Rattle.crash_base.specs.Rows.{row_in, put_all}
use Rattle.journal_model.specs.declared.entry.ActionEntry.{ActionEntry}
use Rattle.journal_model.specs.declared.entry.CommitEntry.{CommitEntry}
use Rattle.journal_model.specs.declared.entry.Entry.{Entry}
use Rattle.journal_model.specs.declared.entry.Mark.{Mark}
use Rattle.journal_model.specs.declared.entry.ReadMark.{ReadMark}
use Rattle.journal_model.specs.declared.entry.ReadMark.TheVariants.{Row, Table}
use Rattle.journal_model.specs.declared.entry.Touch.{Touch}
use Rattle.journal_model.specs.Snapshots.{table_rows}
use Rattle.journal_model.specs.Stale.{new_touch}

-- A call that has not ended. `at` is the length of the journal at its begin, and its open frames are the
-- components that it is in, the last on top.
pub record Call : Type 0 where
  pub request : RequestNo
  pub worker : WorkerNo
  pub at : Place
  pub frames : List ComponentNo
  pub touched : List Touch
  pub marks : List Mark
  pub writes : List RowWrite
  pub steps : ℕ

-- a call that has done nothing yet
abbrev pub begun : RequestNo → WorkerNo → Place → Call
begun request worker at = record {
  request = request;
  worker = worker;
  at = at;
  frames = [];
  touched = [];
  marks = [];
  writes = [];
  steps = 0;
}

-- whether a group is touched
abbrev pub is_touched : List Touch → ℕ → Bool
is_touched touched g = list_any (λ t. t.group.0 == g) touched

-- a group is touched where it was not touched before
abbrev pub touched_with : List Entry → ℕ → List Touch → List Touch
touched_with es g touched = if is_touched touched g then touched else touched ++ new_touch es g ∷ []

-- the call has entered a component of a group
abbrev pub entered : List Entry → ℕ → ComponentNo → Call → Call
entered es g c call = record call {
  frames = call.frames ++ c ∷ [];
  touched = touched_with es g call.touched;
  steps = call.steps + 1;
}

-- the call has left the component that it is in, which it entered last
abbrev pub left : Call → Call
left call =
    record call { frames = take (length call.frames - 1) call.frames; steps = call.steps + 1 }

-- whether one of the writes is of this row
abbrev pub is_put : List RowWrite → RowId → Bool
is_put writes id = list_any (λ (w : RowWrite). same_id w.id id) writes

-- a write takes the place of the earlier write of its row, and else comes last
abbrev pub with_write : List RowWrite → RowWrite → List RowWrite
with_write [] w = w ∷ []
with_write (x ∷ xs) w = if same_id x.id w.id then w ∷ xs else x ∷ with_write xs w

-- the call has put a row
abbrev pub kept : RowWrite → Call → Call
kept w call = record call { writes = with_write call.writes w; steps = call.steps + 1 }

-- whether both are marks of the same row, or of the same table
abbrev pub same_mark : ReadMark → ReadMark → Bool
same_mark (Row a) (Row b) = same_id a b
same_mark (Row a) (Table u) = false
same_mark (Table t) (Row b) = false
same_mark (Table t) (Table u) = t == u

-- whether this row or table was marked as read
abbrev pub is_marked : List Mark → ReadMark → Bool
is_marked marks read = list_any (λ (m : Mark). same_mark m.read read) marks

-- what is read is marked where it was not marked before
abbrev pub marked_with : ReadMark → Option (List ℕ) → List Mark → List Mark
marked_with read value marks =
    if is_marked marks read then marks else marks ++ record { read = read; value = value } ∷ []

-- what a call that has put these writes finds in a row: its own put, else the row
abbrev pub seen : List RowWrite → List RowWrite → RowId → Option (List ℕ)
seen rows writes id = if is_put writes id then row_in writes id else row_in rows id

-- what it finds in a table: the rows, with its own puts laid over
abbrev pub listed : List RowWrite → List RowWrite → ℕ → List RowWrite
listed rows writes t = put_all (table_rows t writes) (table_rows t rows)

-- the marks after a read of a row: its own put adds none
abbrev pub marks_read : List RowWrite → RowId → Call → List Mark
marks_read rows id call =
    if is_put call.writes id then call.marks else marked_with (Row id) (row_in rows id) call.marks

-- the call has read a row of these rows
abbrev pub has_read : List RowWrite → RowId → Call → Call
has_read rows id call =
    record call { marks = marks_read rows id call; steps = call.steps + 1 }

-- the call has listed a table
abbrev pub has_listed : ℕ → Call → Call
has_listed t call =
    record call { marks = marked_with (Table t) None call.marks; steps = call.steps + 1 }

-- the entry of a call that commits, with the action that it made
abbrev pub entry_of : Call → Option ActionEntry → CommitEntry
entry_of call action = record {
  request = call.request;
  worker = call.worker;
  at = call.at;
  touched = call.touched;
  reads = call.marks;
  writes = call.writes;
  action = action;
}
