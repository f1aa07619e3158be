-- An attempt: a call that follows a program, step by step.
use Rattle.std.specs.Prelude.{◌≡◌, ◌↔◌, ◌⊎◌, ℕ, ◌<◌, ◌-◌, ◌&&◌, Bool, true, false, List, [], ◌∷◌, ◌++◌, length, take, Option, Some, None, All, slice_get}
use Rattle.std.specs.List.{flat_map, range_with_len}
use Rattle.crash_base.specs.declared.numbers.ComponentNo.{ComponentNo}
use Rattle.crash_base.specs.declared.numbers.GroupNo.{GroupNo}
use Rattle.crash_base.specs.declared.numbers.Place.{Place}
use Rattle.crash_base.specs.declared.numbers.RequestNo.{RequestNo}
use Rattle.crash_base.specs.declared.numbers.WorkerNo.{WorkerNo}
use Rattle.crash_base.specs.declared.rows.RowWrite.{RowWrite}
use Rattle.deployment.specs.declared.parts.Parts.{Parts}
use Rattle.deployment.specs.Groups.{group_of, group_no}
use Rattle.journal_model.specs.declared.entry.Mark.{Mark}
use Rattle.journal_model.specs.declared.entry.ReadMark.{ReadMark}
use Rattle.journal_model.specs.declared.entry.ReadMark.TheVariants as read
use Rattle.journal_model.specs.declared.entry.Touch.{Touch}
use Rattle.journal_model.specs.Calls.{Call, seen, listed}
use Rattle.journal_model.specs.Snapshots.{snapshot}
use Rattle.journal_model.specs.Stale.{IsSince}
use Rattle.call_ticket.specs.declared.next.Answer.{Answer}
use Rattle.call_ticket.specs.declared.next.Answer.TheVariants as answer
use Rattle.call_ticket.specs.declared.next.Next.{Next}
use Rattle.call_ticket.specs.declared.next.Next.TheVariants as next
use Rattle.call_ticket.specs.Following.{Follows}
use Rattle.call_ticket.specs.Repeated.{may_repeat}
use Rattle.call_ticket.specs.Ticket.{TicketValue, ticket_begun, ticket_kept, ticket_left}
use Rattle.boot_core.specs.Boot.{BootValue, with_entered}
use Rattle.boot_core.specs.Fits.{FitsIn}
use Rattle.boot_core.specs.Steps.{ticket_entered, ticket_has_read, ticket_has_listed}
use Rattle.container_core.specs.Container.{ContainerValue, with_boot}
use Rattle.call_attempts.specs.Stops.{stop_of}
use Rattle.call_attempts.specs.declared.stop.Stop.{Stop}
use Rattle.call_attempts.specs.declared.steps.Made.{Made}
use Rattle.call_attempts.specs.declared.steps.Made.TheVariants as made
use Rattle.call_attempts.specs.declared.attempt.Stepped.{Stepped}
use Rattle.call_attempts.specs.declared.attempt.Stepped.TheVariants.{Went, Done, Stopped}

-- an attempt: its ticket, the answers that it had, whether each step that it made may be made again, and the components
-- that it entered, in order
pub record AttemptValue : Type 0 where
  pub ticket : TicketValue
  pub answers : List Answer
  pub repeats : Bool
  pub entered : List ComponentNo

-- an attempt that begins with this ticket
abbrev pub attempt_of : TicketValue → AttemptValue
attempt_of ticket = record { ticket = ticket; answers = []; repeats = true; entered = [] }

-- an attempt that has done nothing yet
abbrev pub attempt_begun : RequestNo → WorkerNo → Place → AttemptValue
attempt_begun request worker at = attempt_of (ticket_begun request worker at)

-- the step that an attempt of a program asks for
abbrev pub wanted : (List Answer → Next) → AttemptValue → Next
wanted asks a = asks a.answers

-- the last of these components, where this was the answer to an enter
abbrev pub if_entered : List ComponentNo → Option Answer → Option ComponentNo
if_entered entered None = None
if_entered entered (Some answer.Entered) = slice_get entered (length entered - 1)
if_entered entered (Some (answer.Row row)) = None
if_entered entered (Some (answer.Rows rows)) = None
if_entered entered (Some answer.Kept) = None
if_entered entered (Some answer.Left) = None

-- the component that the last step of an attempt entered, if it entered one
abbrev pub last_entered : AttemptValue → Option ComponentNo
last_entered a = if_entered a.entered (slice_get a.answers (length a.answers - 1))

-- the rows that a call sees: those at its begin
abbrev pub rows_at_begin : BootValue → Call → List RowWrite
rows_at_begin boot call = snapshot boot.start.base boot.entries call.at.0

-- the table that a step accesses, if it accesses one
abbrev pub table_of : Next → Option ℕ
table_of (next.Enter c m) = None
table_of (next.Read id) = Some id.table
table_of (next.List table) = Some table
table_of (next.Put w) = Some w.id.table
table_of next.Exit = None
table_of (next.Done d) = None

-- the table of what is read
abbrev pub table_in : ReadMark → ℕ
table_in (read.Row id) = id.table
table_in (read.Table t) = t

-- A program enters a component by a method that may not be called again.
pub record EntersOnce (parts : Parts) (asks : List Answer → Next) : Type 0 where
  pub answers : List Answer
  pub once : may_repeat parts (asks answers) ≡ false

-- A program enters a component of a group.
pub record EntersGroup (parts : Parts) (asks : List Answer → Next) (group : GroupNo) : Type 0 where
  pub answers : List Answer
  pub component : ComponentNo
  pub method : ℕ
  pub asked : asks answers ≡ next.Enter component method
  pub group_is : group ≡ group_no (group_of parts component.0)

-- the component that a step enters, if it enters one
abbrev pub entered_in : Next → List ComponentNo
entered_in (next.Enter c m) = c ∷ []
entered_in (next.Read id) = []
entered_in (next.List table) = []
entered_in (next.Put w) = []
entered_in next.Exit = []
entered_in (next.Done d) = []

-- the components that a program entered by the steps that were answered so, in order
unfoldable pub entered_by : (List Answer → Next) → List Answer → List ComponentNo
entered_by asks answers =
    flat_map (λ before. entered_in (asks (take before answers))) (range_with_len 0 (length answers))

-- A program asks to enter a component that fails, and this is its path: the components that it entered before, in
-- order, and this one, last.
pub record FailsOnItsWay (asks : List Answer → Next) (component : ComponentNo) (path : List ComponentNo) : Type 0 where
  pub answers : List Answer
  pub method : ℕ
  pub asked : asks answers ≡ next.Enter component method
  pub path_is : path ≡ entered_by asks answers ++ component ∷ []

-- A program accesses a table: it reads a row of it, lists it, or puts a row of it.
pub record Accesses (asks : List Answer → Next) (table : ℕ) : Type 0 where
  pub answers : List Answer
  pub access : table_of (asks answers) ≡ Some table

-- Among the steps that were answered is one that may not be made again: the one after the first so many answers.
pub record HasEnteredOnce (parts : Parts) (asks : List Answer → Next) (answers : List Answer) : Type 0 where
  pub before : ℕ
  pub answered : before < length answers
  pub once : may_repeat parts (asks (take before answers)) ≡ false

-- An attempt of a program is under way in a boot: its ticket fits, and its call made just the steps that the program
-- asked for, over the rows at its begin. Since then it entered groups of components of the program alone, read and put
-- rows of tables of the program alone, `repeats` tells whether each of its steps may be made again, and `entered` which
-- components they entered.
pub record IsUnderWay (boot : BootValue) (asks : List Answer → Next) (a : AttemptValue) : Type 0 where
  pub fits : FitsIn boot a.ticket.call
  pub follows : Follows asks (rows_at_begin boot a.ticket.call) a.answers a.ticket.call
  pub since : All (IsSince a.ticket.call.at.0) a.ticket.call.touched
  pub groups : All (λ (t : Touch). EntersGroup boot.start.deployment asks t.group) a.ticket.call.touched
  pub marks : All (λ (m : Mark). Accesses asks (table_in m.read)) a.ticket.call.marks
  pub writes : All (λ (w : RowWrite). Accesses asks w.id.table) a.ticket.call.writes
  pub once : (a.repeats ≡ false) ↔ HasEnteredOnce boot.start.deployment asks a.answers
  pub entered : a.entered ≡ entered_by asks a.answers

-- the answer to a step over these rows; the end of a call has none
abbrev pub answer_to : List RowWrite → Call → Next → Answer
answer_to rows call (next.Enter c m) = answer.Entered
answer_to rows call (next.Read id) = answer.Row (seen rows call.writes id)
answer_to rows call (next.List table) = answer.Rows (listed rows call.writes table)
answer_to rows call (next.Put w) = answer.Kept
answer_to rows call next.Exit = answer.Left
answer_to rows call (next.Done d) = answer.Left

-- the ticket after a step in a boot
abbrev pub ticket_after : BootValue → TicketValue → Next → TicketValue
ticket_after boot t (next.Enter c m) =
    ticket_entered boot.entries (group_of boot.start.deployment c.0) c t
ticket_after boot t (next.Read id) = ticket_has_read (rows_at_begin boot t.call) id t
ticket_after boot t (next.List table) = ticket_has_listed table t
ticket_after boot t (next.Put w) = ticket_kept w t
ticket_after boot t next.Exit = ticket_left t
ticket_after boot t (next.Done d) = t

-- an attempt whose step was answered
abbrev pub stepped : BootValue → AttemptValue → Next → AttemptValue
stepped boot a x = record {
  ticket = ticket_after boot a.ticket x;
  answers = a.answers ++ answer_to (rows_at_begin boot a.ticket.call) a.ticket.call x ∷ [];
  repeats = a.repeats && may_repeat boot.start.deployment x;
  entered = a.entered ++ entered_in x;
}

-- the step is none that ends the call
abbrev pub Continues : Next → Type 0
Continues (next.Enter c m) = Unit {0}
Continues (next.Read id) = Unit {0}
Continues (next.List table) = Unit {0}
Continues (next.Put w) = Unit {0}
Continues next.Exit = Unit {0}
Continues (next.Done d) = ⊥

-- what stops the step that an attempt asks for
abbrev pub stop_of_attempt : BootValue → (List Answer → Next) → AttemptValue → Option Stop
stop_of_attempt boot asks a = stop_of boot a.ticket.call (wanted asks a)

-- the boot after a step that was answered: it counts a component that was entered
abbrev pub boot_after : BootValue → Next → BootValue
boot_after boot (next.Enter c m) = with_entered boot c
boot_after boot (next.Read id) = boot
boot_after boot (next.List table) = boot
boot_after boot (next.Put w) = boot
boot_after boot next.Exit = boot
boot_after boot (next.Done d) = boot

-- A container is as it was, or as a step leaves it that was answered.
abbrev pub HasAtMostMade : ContainerValue → Next → ContainerValue → Type 0
HasAtMostMade old x new = (new ≡ old) ⊎ (new ≡ with_boot old (boot_after old.boot x))

-- the boot after a step, by what that came to
abbrev pub boot_left : BootValue → Next → Stepped → BootValue
boot_left boot x Went = boot_after boot x
boot_left boot x (Done d) = boot
boot_left boot x (Stopped stop) = boot

-- the same, of a step that is made
abbrev pub boot_made : BootValue → Next → Made → BootValue
boot_made boot x (made.Answered a) = boot_after boot x
boot_made boot x (made.Done d) = boot
boot_made boot x (made.Stopped stop) = boot

-- A step has come to this: it was answered, and leaves this ticket; or it ends the call; or something stops it, and the
-- ticket is as before.
abbrev pub HasMade : BootValue → TicketValue → Next → Made → TicketValue → Type 0
HasMade boot old x (made.Answered a) new =
    Continues x × (stop_of boot old.call x ≡ None)
    × (a ≡ answer_to (rows_at_begin boot old.call) old.call x) × (new ≡ ticket_after boot old x)
HasMade boot old x (made.Done d) new = (x ≡ next.Done d) × (new ≡ old)
HasMade boot old x (made.Stopped stop) new =
    Continues x × (stop_of boot old.call x ≡ Some stop) × (new ≡ old)

-- An attempt has made a step: the one that it asks for was answered; or it asks for none, since the call is done; or
-- something stops the step. One of the three holds, and no two do, so what a step comes to is fixed.
abbrev pub HasStepped : BootValue → (List Answer → Next) → AttemptValue → Stepped → AttemptValue → Type 0
HasStepped boot asks old Went new =
    Continues (wanted asks old) × (stop_of_attempt boot asks old ≡ None)
    × (new ≡ stepped boot old (wanted asks old))
HasStepped boot asks old (Done d) new = (wanted asks old ≡ next.Done d) × (new ≡ old)
HasStepped boot asks old (Stopped stop) new =
    Continues (wanted asks old) × (stop_of_attempt boot asks old ≡ Some stop) × (new ≡ old)
