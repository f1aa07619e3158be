-- Lines of calls leave their boot as it was, but for how often its components were entered.
use Rattle.std.proofs.Common.{ℕ, ◌==◌, List, [], length, Option, Some, None, refl}
use Rattle.std.specs.Prelude.{not, slice_set}
use Rattle.call_ticket.specs.Access.{is_in_owner, may_enter}
use Rattle.call_ticket.specs.Ticket.{TicketValue, ticket_kept, ticket_left}
use Rattle.deployment.specs.Groups.{group_of}
use Rattle.deployment.specs.Parts.{component_no, named}
use Rattle.journal_model.specs.Calls.{seen, listed}
use Rattle.boot_core.specs.Boot.{BootValue, HasOnlyEntered, with_entered}
use Rattle.boot_core.specs.Refusals.{enter_refusal, exit_refusal, read_refusal, list_refusal, put_refusal}
use Rattle.boot_core.specs.Steps.{ticket_entered, ticket_has_read, ticket_has_listed}
use Rattle.boot_core.specs.declared.refusals.CallRefusal.{CallRefusal}
use Rattle.scenario_text.specs.declared.call_line.CallLine.{CallLine}
use Rattle.scenario_text.specs.declared.call_line.CallLine.TheVariants as calls
use Rattle.line_steps.specs.declared.callers.Caller.{Caller}
use Rattle.line_steps.specs.declared.callers.Caller.TheVariants.{Absent, Live}
use Rattle.line_steps.specs.CallLines.{CallDone, done_within, step_answer, row, row_id, rows_then, enter_step, exit_step, read_step, list_step, put_step, call_line}
use Rattle.line_steps.specs.Callers.{caller_at, caller_line, call_step}
use Rattle.line_steps.specs.Tables.{table_of}
use Rattle.line_steps.specs.Texts.{row_answer_text, list_answer_text}
use Rattle.scenario_text.proofs.Leaving.{Leaves, leaves-refused_if, leaves-or_refused, leaves-within}

-- what a line left has the boot as it was, but for how often its components were entered
abbrev pub HasEntered : {S : Type 0} → BootValue → CallDone S → Type 0
HasEntered b done = HasOnlyEntered b done.boot

step_enters : (b : BootValue) (caller : ℕ) (ticket next : TicketValue) (after : BootValue) (text : List ℕ) (refusal : Option CallRefusal) → HasOnlyEntered b after → Leaves (HasEntered b) (step_answer b caller ticket refusal after next text)
step_enters b caller ticket next after text None is = is
step_enters b caller ticket next after text (Some refusal) is = refl

enter_enters : (b : BootValue) (caller : ℕ) (ticket : TicketValue) (name : List ℕ) → Leaves (HasEntered b) (enter_step b caller ticket name)
unfolding enter_step
enter_enters b caller ticket name =
    leaves-or_refused (HasEntered b) (named b.start.deployment.components name) _ (λ x found.
    leaves-refused_if (HasEntered b) (not (may_enter b.start.deployment ticket.call (component_no x))) _ (λ free.
    step_enters b caller ticket (ticket_entered b.entries (group_of b.start.deployment x) (component_no x) ticket) (with_entered b (component_no x)) [] (enter_refusal b ticket.call (component_no x)) refl))

exit_enters : (b : BootValue) (caller : ℕ) (ticket : TicketValue) → Leaves (HasEntered b) (exit_step b caller ticket)
unfolding exit_step
exit_enters b caller ticket =
    leaves-refused_if (HasEntered b) (length ticket.call.frames == 0) _ (λ inside.
    step_enters b caller ticket (ticket_left ticket) b [] (exit_refusal b.entries ticket.call) refl)

read_enters : (b : BootValue) (caller : ℕ) (ticket : TicketValue) (number key : ℕ) → Leaves (HasEntered b) (read_step b caller ticket number key)
unfolding read_step
read_enters b caller ticket number key =
    leaves-or_refused (HasEntered b) (table_of number) _ (λ table is.
    leaves-refused_if (HasEntered b) (not (is_in_owner b.start.deployment ticket.call table)) _ (λ inside.
    step_enters b caller ticket (ticket_has_read (rows_then b ticket) (row_id table key) ticket) b (row_answer_text caller (seen (rows_then b ticket) ticket.call.writes (row_id table key))) (read_refusal b.entries ticket.call (row_id table key)) refl))

list_enters : (b : BootValue) (caller : ℕ) (ticket : TicketValue) (number : ℕ) → Leaves (HasEntered b) (list_step b caller ticket number)
unfolding list_step
list_enters b caller ticket number =
    leaves-or_refused (HasEntered b) (table_of number) _ (λ table is.
    leaves-refused_if (HasEntered b) (not (is_in_owner b.start.deployment ticket.call table)) _ (λ inside.
    step_enters b caller ticket (ticket_has_listed table ticket) b (list_answer_text caller (listed (rows_then b ticket) ticket.call.writes table)) (list_refusal b.entries ticket.call table) refl))

put_enters : (b : BootValue) (caller : ℕ) (ticket : TicketValue) (number key : ℕ) (bytes : List ℕ) → Leaves (HasEntered b) (put_step b caller ticket number key bytes)
unfolding put_step
put_enters b caller ticket number key bytes =
    leaves-or_refused (HasEntered b) (table_of number) _ (λ table is.
    leaves-refused_if (HasEntered b) (not (is_in_owner b.start.deployment ticket.call table)) _ (λ inside.
    step_enters b caller ticket (ticket_kept (row table key bytes) ticket) b [] (put_refusal b.entries ticket.call (row_id table key)) refl))

line_enters : (b : BootValue) (caller : ℕ) (ticket : TicketValue) (line : CallLine) → Leaves (HasEntered b) (call_line b caller ticket line)
line_enters b caller ticket (calls.Enter name) = enter_enters b caller ticket name
line_enters b caller ticket calls.Exit = exit_enters b caller ticket
line_enters b caller ticket (calls.Read table key) = read_enters b caller ticket table key
line_enters b caller ticket (calls.List table) = list_enters b caller ticket table
line_enters b caller ticket (calls.Put table key bytes) = put_enters b caller ticket table key bytes

caller_enters : (b : BootValue) (n : ℕ) (line : CallLine) (caller : Caller) → Leaves (HasEntered b) (caller_line b n line caller)
caller_enters b n line Absent = tt
caller_enters b n line (Live ticket) = leaves-within (HasEntered b) (done_within (λ t. Live t)) (call_line b n ticket line) (line_enters b n ticket line)

pub call_enters : (b : BootValue) (callers : List Caller) (n : ℕ) (line : CallLine) → Leaves (HasEntered b) (call_step b callers n line)
unfolding call_step
call_enters b callers n line =
    leaves-within (HasEntered b) (done_within (slice_set callers n)) (caller_line b n line (caller_at callers n)) (caller_enters b n line (caller_at callers n))
