-- What a ticket holds, and what each step leaves of it.
use Rattle.std.specs.Prelude.{◌≡◌, ℕ, ◌+◌, ◌==◌, ◌&&◌, Bool, false, not, Option, Some, None, List, [], ◌∷◌, ◌++◌, length}
use Rattle.crash_base.specs.declared.numbers.ComponentNo.{ComponentNo}
use Rattle.crash_base.specs.declared.numbers.Place.{Place}
use Rattle.crash_base.specs.declared.numbers.RequestNo.{RequestNo}
use Rattle.crash_base.specs.declared.numbers.WorkerNo.{WorkerNo}
use Rattle.crash_base.specs.declared.row_id.RowId.{RowId}
use Rattle.crash_base.specs.declared.rows.RowWrite.{RowWrite}
use Rattle.journal_model.specs.declared.entry.Mark.{Mark}
use Rattle.journal_model.specs.declared.entry.ReadMark.{ReadMark}
use Rattle.journal_model.specs.declared.entry.Touch.{Touch}
use Rattle.journal_model.specs.Calls.{Call, begun, left, is_touched, is_put, kept}
use Rattle.call_ticket.specs.declared.limits.TheConstants.{MAX_WRITES}
use Rattle.call_ticket.specs.Access.{last_frame}

-- A call. Which instances serve its open frames is between a ticket and the pool that gave it their tokens.
pub record TicketValue : Type 0 where
  pub call : Call

-- the ticket of a call that has done nothing yet
abbrev pub ticket_begun : RequestNo → WorkerNo → Place → TicketValue
ticket_begun request worker at = record { call = begun request worker at }

-- the component of the frame that was opened last, if one is open
abbrev pub top : Call → Option ComponentNo
top call = last_frame call.frames

-- a touch, if there is one, is of a group that was not touched before
abbrev pub IsFirst : List Touch → Option Touch → Type 0
IsFirst touched None = Unit {0}
IsFirst touched (Some t) = is_touched touched t.group.0 ≡ false

-- a touch is added where there is one
abbrev pub with_touch : List Touch → Option Touch → List Touch
with_touch touched None = touched
with_touch touched (Some t) = touched ++ t ∷ []

-- a frame more, and a touch where the group is new
abbrev pub with_frame : TicketValue → ComponentNo → Option Touch → TicketValue
with_frame ticket c touch = record {
  call = record (ticket.call) {
    frames = ticket.call.frames ++ c ∷ [];
    touched = with_touch ticket.call.touched touch;
    steps = ticket.call.steps + 1;
  };
}

-- the ticket of a call that has left the component that it is in
abbrev pub ticket_left : TicketValue → TicketValue
ticket_left ticket = record { call = left ticket.call }

-- the ticket of a call that ends, with none of its frames open any more
abbrev pub ticket_closed : TicketValue → TicketValue
ticket_closed ticket = record { call = record (ticket.call) { frames = [] } }

-- a read is added with its value where there is one
abbrev pub with_read : List Mark → Option ReadMark → Option (List ℕ) → List Mark
with_read marks None value = marks
with_read marks (Some read) value = marks ++ record { read = read; value = value } ∷ []

-- the ticket of a call that has read
abbrev pub ticket_read : TicketValue → Option ReadMark → Option (List ℕ) → TicketValue
ticket_read ticket read value = record {
  call = record (ticket.call) {
    marks = with_read ticket.call.marks read value;
    steps = ticket.call.steps + 1;
  };
}

-- the ticket of a call that has put a row
abbrev pub ticket_kept : RowWrite → TicketValue → TicketValue
ticket_kept w ticket = record { call = kept w ticket.call }

-- whether a put of the row would be one too many
abbrev pub is_full_for : List RowWrite → RowId → Bool
is_full_for writes id = not (is_put writes id) && (length writes == MAX_WRITES)
