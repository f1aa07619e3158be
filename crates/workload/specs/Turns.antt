-- The turns of the workload: what each leaves of the boot, of the caller's call, and of the tally.
use Rattle.std.specs.Prelude.{ℕ, ◌+◌, ◌%◌, ◌^◌, ◌==◌, nat_lt, Bool, true, if◌then◌else◌, List, [], ◌∷◌, length, Option, Some, None, slice_set}
use Rattle.std.specs.Int.{to_be_bytes, w32}
use Rattle.std.specs.List.{fold}
use Rattle.crash_base.specs.declared.numbers.ComponentNo.{ComponentNo}
use Rattle.crash_base.specs.declared.numbers.RequestNo.{RequestNo}
use Rattle.crash_base.specs.declared.row_id.RowId.{RowId}
use Rattle.crash_base.specs.declared.rows.RowWrite.{RowWrite}
use Rattle.crash_base.specs.declared.scope.Scope.{Scope}
use Rattle.crash_base.specs.declared.scope.Scope.TheVariants.{Group}
use Rattle.deployment.specs.declared.parts.Parts.{Parts}
use Rattle.deployment.specs.Groups.{group_no, group_of}
use Rattle.deployment.specs.Parts.{component_no}
use Rattle.journal_model.specs.declared.entry.Entry.TheVariants.{Commit, Down, Up}
use Rattle.journal_model.specs.Calls.{Call, entry_of}
use Rattle.call_ticket.specs.Access.{is_in_owner}
use Rattle.call_ticket.specs.Ticket.{TicketValue, ticket_begun, ticket_kept}
use Rattle.boot_core.specs.Boot.{BootValue, with_entered, with_entry}
use Rattle.boot_core.specs.Refusals.{enter_refusal, read_refusal, list_refusal, put_refusal, commit_refusal, reboot_refusal}
use Rattle.boot_core.specs.Steps.{ticket_entered, ticket_has_read, ticket_has_listed}
use Rattle.boot_core.specs.declared.refusals.CallRefusal.{CallRefusal}
use Rattle.boot_core.specs.declared.refusals.CallRefusal.TheVariants as calls
use Rattle.boot_core.specs.declared.refusals.CommitRefusal.{CommitRefusal}
use Rattle.boot_core.specs.declared.refusals.CommitRefusal.TheVariants as commits
use Rattle.boot_core.specs.declared.refusals.RebootRefusal.{RebootRefusal}
use Rattle.line_steps.specs.CallLines.{row, row_id, rows_then}
use Rattle.line_steps.specs.Callers.{caller_at, padded}
use Rattle.line_steps.specs.declared.callers.Caller.{Caller}
use Rattle.line_steps.specs.declared.callers.Caller.TheVariants.{Absent, Live}
use Rattle.workload.specs.Choices.{chosen, next_number}
use Rattle.workload.specs.Tally.{counted_if, nothing_counted}
use Rattle.workload.specs.declared.choices.Choice.{Choice}
use Rattle.workload.specs.declared.choices.Deed.{Deed}
use Rattle.workload.specs.declared.choices.Deed.TheVariants as deeds
use Rattle.workload.specs.declared.choices.TheConstants.{LAST_CALLER}
use Rattle.workload.specs.declared.deploying.TheConstants.{A, C, A_TABLE, C_TABLE}
use Rattle.workload.specs.declared.tally.Outcome.{Outcome}
use Rattle.workload.specs.declared.tally.Outcome.TheVariants as outcomes
use Rattle.workload.specs.declared.tally.Tally.{Tally}

-- What a turn leaves: the boot, the call of its caller if it goes on, and how a call was answered that ended.
pub record TurnLeft : Type 0 where
  pub boot : BootValue
  pub ticket : Option TicketValue
  pub outcome : Option Outcome

-- a call goes on with this ticket
abbrev pub goes_on : BootValue → TicketValue → TurnLeft
goes_on b ticket = record { boot = b; ticket = Some ticket; outcome = None }

-- a call was dropped
abbrev pub dropped : BootValue → TurnLeft
dropped b = record { boot = b; ticket = None; outcome = None }

-- a call has ended with this answer
abbrev pub ends : BootValue → Outcome → TurnLeft
ends b outcome = record { boot = b; ticket = None; outcome = Some outcome }

-- how a refused step of a call is counted
abbrev pub step_outcome : CallRefusal → Outcome
step_outcome (calls.Revoked stale) = outcomes.Revoked
step_outcome calls.Depth = outcomes.Refused
step_outcome calls.Steps = outcomes.Refused
step_outcome calls.Reads = outcomes.Refused
step_outcome calls.Writes = outcomes.Refused
step_outcome (calls.Sentinel group down) = outcomes.Refused
step_outcome (calls.Hung component fault) = outcomes.Refused
step_outcome (calls.Raised component fault) = outcomes.Refused
step_outcome calls.OutOfMemory = outcomes.Refused

-- how a refused commit is counted
abbrev pub commit_outcome : CommitRefusal → Outcome
commit_outcome (commits.Already place) = outcomes.Refused
commit_outcome (commits.Revoked stale) = outcomes.Revoked
commit_outcome (commits.Conflict conflict) = outcomes.Conflict
commit_outcome (commits.JournalFull full) = outcomes.Refused
commit_outcome commits.OutOfMemory = outcomes.Refused
commit_outcome commits.KeeperFailed = outcomes.Refused

-- a step that is not refused leaves this ticket, and a refused one drops the call
abbrev pub step_left : BootValue → TicketValue → Option CallRefusal → TurnLeft
step_left b next None = goes_on b next
step_left b next (Some refusal) = ends b (step_outcome refusal)

-- the component that a call enters by its key: A where that is even, else C
abbrev pub entered_by : ℕ → ComponentNo
entered_by key = if key % 2 == 0 then component_no A else component_no C

-- the request of the call that begins in a turn
abbrev pub request_of : BootValue → ℕ → RequestNo
request_of b k = record { boot = b.start.boot; serial = 2 ^ 63 + k }

-- the ticket of a call that begins in a turn
abbrev pub new_ticket : BootValue → ℕ → ℕ → TicketValue
new_ticket b caller k =
    ticket_begun (request_of b k) (record { 0 = caller }) (record { 0 = length b.entries })

-- a call enters a component, which counts, and goes on with this ticket; where that is refused, the call is dropped
abbrev pub enter_ends : BootValue → ComponentNo → TicketValue → Option CallRefusal → TurnLeft
enter_ends b c next None = goes_on (with_entered b c) next
enter_ends b c next (Some refusal) = ends b (step_outcome refusal)

-- a call has entered this component, unless that is refused
abbrev pub enter_left : BootValue → TicketValue → ComponentNo → TurnLeft
enter_left b ticket c =
    enter_ends b c
    (ticket_entered b.entries (group_of b.start.deployment c.0) c ticket)
    (enter_refusal b ticket.call c)

-- a caller that is not live begins a call, and enters A or C
unfoldable pub begin_left : BootValue → ℕ → ℕ → ℕ → TurnLeft
begin_left b caller k key = enter_left b (new_ticket b caller k) (entered_by key)

-- the table of the component that a call is in: that of A, else that of C
abbrev pub own_table : Parts → Call → ℕ
own_table parts call = if is_in_owner parts call A_TABLE then A_TABLE else C_TABLE

-- the row of a key in a call's own table
abbrev pub own_row : Parts → Call → ℕ → RowId
own_row parts call key = row_id (own_table parts call) key

-- the row of a key that a put of a turn writes: the number of the turn, as four bytes
abbrev pub own_write : Parts → Call → ℕ → ℕ → RowWrite
own_write parts call k key = row (own_table parts call) key (to_be_bytes w32 k)

-- a call puts the number of the turn
unfoldable pub put_left : BootValue → TicketValue → ℕ → ℕ → TurnLeft
put_left b ticket k key =
    step_left b (ticket_kept (own_write b.start.deployment ticket.call k key) ticket)
    (put_refusal b.entries ticket.call (own_row b.start.deployment ticket.call key))

-- a call reads a row
unfoldable pub read_left : BootValue → TicketValue → ℕ → TurnLeft
read_left b ticket key =
    step_left b (ticket_has_read (rows_then b ticket) (own_row b.start.deployment ticket.call key) ticket)
    (read_refusal b.entries ticket.call (own_row b.start.deployment ticket.call key))

-- a call lists its table
unfoldable pub list_left : BootValue → TicketValue → TurnLeft
list_left b ticket =
    step_left b (ticket_has_listed (own_table b.start.deployment ticket.call) ticket)
    (list_refusal b.entries ticket.call (own_table b.start.deployment ticket.call))

-- whether the keeper keeps the writes of a commit: it is not asked where there are none
abbrev pub are_kept : List RowWrite → Bool → Bool
are_kept [] keeps = true
are_kept (w ∷ ws) keeps = keeps

-- the refusal of a commit: that of the boot, else that of a keeper that does not keep the writes
abbrev pub with_reply : Option CommitRefusal → List RowWrite → Bool → Option CommitRefusal
with_reply (Some refusal) writes keeps = Some refusal
with_reply None writes keeps = if are_kept writes keeps then None else Some commits.KeeperFailed

-- a call joins the journal, or is refused; it ends in each case
abbrev pub commit_ends : BootValue → TicketValue → Option CommitRefusal → TurnLeft
commit_ends b ticket None = ends (with_entry b (Commit (entry_of ticket.call None))) outcomes.Committed
commit_ends b ticket (Some refusal) = ends b (commit_outcome refusal)

-- a call commits, where the keeper replies so
unfoldable pub commit_left : BootValue → TicketValue → Bool → TurnLeft
commit_left b ticket keeps =
    commit_ends b ticket
    (with_reply (commit_refusal b.start.limits b.entries ticket.call None) ticket.call.writes keeps)

-- the group of a component
abbrev pub scope_of : BootValue → ComponentNo → Scope
scope_of b c = Group (group_no (group_of b.start.deployment c.0))

-- a scope goes down and comes up, and the call goes on; where that is refused, the call is dropped
abbrev pub reboot_ends : BootValue → TicketValue → Scope → Option RebootRefusal → TurnLeft
reboot_ends b ticket s None = goes_on (with_entry (with_entry b (Down s)) (Up s)) ticket
reboot_ends b ticket s (Some refusal) = ends b outcomes.Refused

-- the group of a component is rebooted by a caller
unfoldable pub reboot_left : BootValue → TicketValue → ComponentNo → TurnLeft
reboot_left b ticket c =
    reboot_ends b ticket (scope_of b c)
    (reboot_refusal b.start.limits b.entries (scope_of b c))

-- a caller reboots A where the key is below 4, C where it is below 8, and else drops its call
abbrev pub reboot_by_key : BootValue → TicketValue → ℕ → TurnLeft
reboot_by_key b ticket key =
    if nat_lt key 4 then reboot_left b ticket (component_no A)
    else if nat_lt key 8 then reboot_left b ticket (component_no C)
    else dropped b

-- what a live caller does
abbrev pub deed_left : BootValue → TicketValue → ℕ → ℕ → Bool → Deed → TurnLeft
deed_left b ticket k key keeps deeds.Put = put_left b ticket k key
deed_left b ticket k key keeps deeds.Read = read_left b ticket key
deed_left b ticket k key keeps deeds.List = list_left b ticket
deed_left b ticket k key keeps deeds.Commit = commit_left b ticket keeps
deed_left b ticket k key keeps deeds.Reboot = reboot_by_key b ticket key

-- what a caller does: it begins where it is not live, and else does what is chosen
abbrev pub caller_left : BootValue → ℕ → Choice → Bool → Caller → TurnLeft
caller_left b k choice keeps Absent = begin_left b choice.caller k choice.key
caller_left b k choice keeps (Live ticket) = deed_left b ticket k choice.key keeps choice.deed

-- the workload between two turns: the number that was drawn last, how many turns were taken, the boot, what each caller
-- has in hand, and the tally
pub record Work : Type 0 where
  pub number : ℕ
  pub turns : ℕ
  pub boot : BootValue
  pub callers : List Caller
  pub tally : Tally

-- the workload between two turns, of its parts
abbrev pub work_at : ℕ → ℕ → BootValue → List Caller → Tally → Work
work_at number turns b callers tally =
    record { number = number; turns = turns; boot = b; callers = callers; tally = tally }

-- what a caller has in hand
abbrev pub in_hand : Option TicketValue → Caller
in_hand None = Absent
in_hand (Some ticket) = Live ticket

-- the workload after a turn of this caller
abbrev pub after_turn : Work → ℕ → ℕ → TurnLeft → Work
after_turn w number caller left = record {
  number = number;
  turns = w.turns + 1;
  boot = left.boot;
  callers = slice_set w.callers caller (in_hand left.ticket);
  tally = counted_if left.outcome w.tally;
}

-- a turn, by the number that was drawn for it
abbrev pub turn_by : Work → ℕ → Choice → Bool → Work
turn_by w number choice keeps =
    after_turn w number choice.caller
    (caller_left w.boot w.turns choice keeps (caller_at w.callers choice.caller))

-- A turn, where the keeper replies so to a commit.
unfoldable pub turn : Work → Bool → Work
turn w keeps = turn_by w (next_number w.number) (chosen (next_number w.number)) keeps

-- no turn was taken in a boot: no caller is live
abbrev pub first_work : ℕ → BootValue → Work
first_work number b = record {
  number = number;
  turns = 0;
  boot = b;
  callers = padded [] LAST_CALLER;
  tally = nothing_counted;
}

-- The workload after as many turns as there are replies of the keeper.
abbrev pub worked : ℕ → BootValue → List Bool → Work
worked number b replies = fold turn (first_work number b) replies
