-- Lines of one live call.
use Rattle.std.specs.Prelude.{ℕ, ◌==◌, not, List, [], length, Option, Some, None}
use Rattle.crash_base.specs.declared.row_id.RowId.{RowId}
use Rattle.crash_base.specs.declared.rows.RowWrite.{RowWrite}
use Rattle.call_ticket.specs.Ticket.{TicketValue, ticket_kept, ticket_left}
use Rattle.deployment.specs.Groups.{group_of}
use Rattle.deployment.specs.Parts.{named, component_no}
use Rattle.boot_core.specs.Boot.{BootValue, with_entered}
use Rattle.call_ticket.specs.Access.{is_in_owner, may_enter}
use Rattle.journal_model.specs.Calls.{seen, listed}
use Rattle.journal_model.specs.Snapshots.{snapshot}
use Rattle.boot_core.specs.Refusals.{enter_refusal, exit_refusal, read_refusal, list_refusal, put_refusal}
use Rattle.boot_core.specs.Steps.{ticket_entered, ticket_has_read, ticket_has_listed}
use Rattle.boot_core.specs.declared.refusals.CallRefusal.{CallRefusal}
use Rattle.scenario_text.specs.declared.call_line.CallLine.{CallLine}
use Rattle.scenario_text.specs.declared.call_line.CallLine.TheVariants as calls
use Rattle.scenario_text.specs.Answer.{Answer, Done, refused_if, or_refused}
use Rattle.line_steps.specs.Tables.{table_of}
use Rattle.line_steps.specs.Texts.{refusal_text, row_answer_text, list_answer_text}

-- what a line of a call leaves: the boot, and what it was done to
pub record CallDone (S : Type 0) : Type 0 where
  pub boot : BootValue
  pub left : S

-- this boot, and what was left so
abbrev pub done_in : {S : Type 0} → BootValue → S → CallDone S
done_in b left = record { boot = b; left = left }

-- what was done to a part, as done to the whole
abbrev pub done_within : {A S : Type 0} → (A → S) → CallDone A → CallDone S
done_within whole done = record { boot = done.boot; left = whole done.left }

-- a step of a call is refused, writes so and leaves all as it was; or it leaves this boot and this ticket, and writes
-- this text
abbrev pub step_answer : BootValue → ℕ → TicketValue → Option CallRefusal → BootValue → TicketValue → List ℕ → Answer (CallDone TicketValue)
step_answer b caller ticket None after next text = Done (done_in after next) text
step_answer b caller ticket (Some refusal) after next text = Done (done_in b ticket) (refusal_text caller refusal)

-- A component is entered, which counts. Refused are an unknown name, and a component that the one that the call is in
-- may not call.
unfoldable pub enter_step : BootValue → ℕ → TicketValue → List ℕ → Answer (CallDone TicketValue)
enter_step b caller ticket name =
    or_refused (named b.start.deployment.components name) (λ x.
    refused_if (not (may_enter b.start.deployment ticket.call (component_no x)))
    (step_answer b caller ticket
    (enter_refusal b ticket.call (component_no x))
    (with_entered b (component_no x))
    (ticket_entered b.entries (group_of b.start.deployment x) (component_no x) ticket) []))

-- The component that was entered last is left. Refused is a call that is in none.
unfoldable pub exit_step : BootValue → ℕ → TicketValue → Answer (CallDone TicketValue)
exit_step b caller ticket =
    refused_if (length ticket.call.frames == 0)
    (step_answer b caller ticket (exit_refusal b.entries ticket.call) b (ticket_left ticket) [])

-- a row, by its table and its key
abbrev pub row_id : ℕ → ℕ → RowId
row_id table key = record { table = table; key = key }

-- a row of these bytes
abbrev pub row : ℕ → ℕ → List ℕ → RowWrite
row table key bytes = record { id = row_id table key; bytes = bytes }

-- the rows as they were when the call began
abbrev pub rows_then : BootValue → TicketValue → List RowWrite
rows_then b ticket = snapshot b.start.base b.entries ticket.call.at.0

-- A row is read, and what was found is written. Refused are a number of no table, and a table whose owner the call is
-- not in.
unfoldable pub read_step : BootValue → ℕ → TicketValue → ℕ → ℕ → Answer (CallDone TicketValue)
read_step b caller ticket number key =
    or_refused (table_of number) (λ table.
    refused_if (not (is_in_owner b.start.deployment ticket.call table))
    (step_answer b caller ticket
    (read_refusal b.entries ticket.call (row_id table key))
    b
    (ticket_has_read (rows_then b ticket) (row_id table key) ticket)
    (row_answer_text caller (seen (rows_then b ticket) ticket.call.writes (row_id table key)))))

-- A table is listed, and its rows are written. Refused are a number of no table, and a table whose owner the call is
-- not in.
unfoldable pub list_step : BootValue → ℕ → TicketValue → ℕ → Answer (CallDone TicketValue)
list_step b caller ticket number =
    or_refused (table_of number) (λ table.
    refused_if (not (is_in_owner b.start.deployment ticket.call table))
    (step_answer b caller ticket
    (list_refusal b.entries ticket.call table)
    b
    (ticket_has_listed table ticket)
    (list_answer_text caller (listed (rows_then b ticket) ticket.call.writes table))))

-- A row is put. Refused are a number of no table, and a table whose owner the call is not in.
unfoldable pub put_step : BootValue → ℕ → TicketValue → ℕ → ℕ → List ℕ → Answer (CallDone TicketValue)
put_step b caller ticket number key bytes =
    or_refused (table_of number) (λ table.
    refused_if (not (is_in_owner b.start.deployment ticket.call table))
    (step_answer b caller ticket
    (put_refusal b.entries ticket.call (row_id table key))
    b
    (ticket_kept (row table key bytes) ticket) []))

-- a line of one live call
abbrev pub call_line : BootValue → ℕ → TicketValue → CallLine → Answer (CallDone TicketValue)
call_line b caller ticket (calls.Enter name) = enter_step b caller ticket name
call_line b caller ticket calls.Exit = exit_step b caller ticket
call_line b caller ticket (calls.Read table key) = read_step b caller ticket table key
call_line b caller ticket (calls.List table) = list_step b caller ticket table
call_line b caller ticket (calls.Put table key bytes) = put_step b caller ticket table key bytes
