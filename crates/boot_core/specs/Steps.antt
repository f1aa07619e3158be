-- What steps leave of a ticket.
use Rattle.std.specs.Prelude.{ℕ, ◌+◌, List, Option}
use Rattle.crash_base.specs.declared.numbers.ComponentNo.{ComponentNo}
use Rattle.journal_model.specs.declared.entry.Entry.{Entry}
use Rattle.journal_model.specs.declared.entry.ReadMark.{ReadMark}
use Rattle.crash_base.specs.declared.row_id.RowId.{RowId}
use Rattle.crash_base.specs.declared.rows.RowWrite.{RowWrite}
use Rattle.journal_model.specs.Calls.{entered, marked_with, has_read, has_listed}
use Rattle.call_ticket.specs.Ticket.{TicketValue}

-- the ticket of a call that has entered a component of a group
abbrev pub ticket_entered : List Entry → ℕ → ComponentNo → TicketValue → TicketValue
ticket_entered es g c ticket = record ticket { call = entered es g c ticket.call }

-- the ticket of a call whose step marks what it read, where that is not marked yet
abbrev pub ticket_marked : ReadMark → Option (List ℕ) → TicketValue → TicketValue
ticket_marked read value ticket = record ticket {
  call = record (ticket.call) {
    marks = marked_with read value ticket.call.marks;
    steps = ticket.call.steps + 1;
  };
}

-- the ticket of a call that has read a row of these rows
abbrev pub ticket_has_read : List RowWrite → RowId → TicketValue → TicketValue
ticket_has_read rows id ticket = record ticket { call = has_read rows id ticket.call }

-- the ticket of a call that has listed a table
abbrev pub ticket_has_listed : ℕ → TicketValue → TicketValue
ticket_has_listed t ticket = record ticket { call = has_listed t ticket.call }
