-- The steps of an action's program.
use Rattle.std.specs.Prelude.{ℕ, zero, suc, ◌+◌, ◌-◌, ◌==◌, ◌&&◌, ◌||◌, not, nat_lt, nat_le, Bool, true, false, if◌then◌else◌, List, [], ◌∷◌, length, filter, count_by, slice_get, Option, Some, None}
use Rattle.crash_base.specs.declared.numbers.ComponentNo.{ComponentNo}
use Rattle.crash_base.specs.declared.rows.RowWrite.{RowWrite}
use Rattle.deployment.specs.declared.parts.Parts.{Parts}
use Rattle.deployment.specs.declared.parts.TablePart.{TablePart}
use Rattle.deployment.specs.Parts.{may_call, owner_of}
use Rattle.journal_model.specs.declared.entry.DoneText.{DoneText}
use Rattle.journal_model.specs.declared.entry.ReadMark.{ReadMark}
use Rattle.journal_model.specs.declared.entry.ReadMark.TheVariants.{Row, Table}
use Rattle.call_ticket.specs.declared.limits.TheConstants.{MAX_WRITES}
use Rattle.call_ticket.specs.declared.next.Answer.{Answer}
use Rattle.call_ticket.specs.declared.next.Answer.TheVariants as answer
use Rattle.call_ticket.specs.declared.next.Next.{Next}
use Rattle.call_ticket.specs.declared.next.Next.TheVariants as next
use Rattle.call_ticket.specs.Runs.{is_write}
use Rattle.action_plans.specs.declared.plan.Outcome.{Outcome}
use Rattle.action_plans.specs.declared.plan.Through.{Through}
use Rattle.action_plans.specs.declared.plan.Want.{Want}
use Rattle.action_plans.specs.declared.plan.Want.TheVariants as want
use Rattle.action_plans.specs.declared.plan.TheConstants.{GATEWAY, MAX_ACCESSES}
use Rattle.action_plans.specs.Plans.{Plan, Asks, Refuses, Gives, walk, wanted, answer_to, put_each}

-- whether an answer is one to an enter
abbrev pub is_entered : Answer → Bool
is_entered answer.Entered = true
is_entered (answer.Row r) = false
is_entered (answer.Rows r) = false
is_entered answer.Kept = false
is_entered answer.Left = false

-- whether an answer is one to an exit
abbrev pub is_left : Answer → Bool
is_left answer.Entered = false
is_left (answer.Row r) = false
is_left (answer.Rows r) = false
is_left answer.Kept = false
is_left answer.Left = true

-- whether an answer is one to a put
abbrev pub is_kept : Answer → Bool
is_kept answer.Entered = false
is_kept (answer.Row r) = false
is_kept (answer.Rows r) = false
is_kept answer.Kept = true
is_kept answer.Left = false

-- whether an answer is one to a read or a list
abbrev pub is_read : Answer → Bool
is_read answer.Entered = false
is_read (answer.Row r) = true
is_read (answer.Rows r) = true
is_read answer.Kept = false
is_read answer.Left = false

-- how many enters were answered
unfoldable pub enter_count : List Answer → ℕ
enter_count answers = count_by is_entered answers

-- how many exits were answered
unfoldable pub exit_count : List Answer → ℕ
exit_count answers = count_by is_left answers

-- how many puts were answered
unfoldable pub put_count : List Answer → ℕ
put_count answers = count_by is_kept answers

-- whether there is an answer, and it is one to an enter
abbrev pub is_entry : Option Answer → Bool
is_entry None = false
is_entry (Some a) = is_entered a

-- whether the last step was an enter
unfoldable pub has_just_entered : List Answer → Bool
has_just_entered answers = is_entry (slice_get answers (length answers - 1))

-- the answers to reads and lists
unfoldable pub reads_in : List Answer → List Answer
reads_in answers = filter is_read answers

-- how many components are open while the action is at home: the gateway, and what it goes through
abbrev pub home_depth : Option Through → ℕ
home_depth None = 1
home_depth (Some t) = 2

-- where the action is at home: in what it goes through, else in the gateway
abbrev pub home_of : Option Through → ComponentNo
home_of None = GATEWAY
home_of (Some t) = t.component

-- the steps into the home: first the gateway is entered, and then what the action goes through
abbrev pub enter_home : Option Through → ℕ → Next
enter_home None n = next.Enter GATEWAY 0
enter_home (Some t) n = if n == 0 then next.Enter GATEWAY 0 else next.Enter t.component t.method

-- whether the action is away from home, in the owner of the table that it accesses
abbrev pub is_away : Option Through → List Answer → Bool
is_away through answers = enter_count answers == (exit_count answers + home_depth through) + 1

-- whether a component is the home of the action
abbrev pub is_home : Option Through → ComponentNo → Bool
is_home through c = c.0 == (home_of through).0

-- An access is made inside the owner of its table, which is entered before where it is not the home.
abbrev pub access_in : Option Through → List Answer → Option ComponentNo → Next → Next
access_in through answers None x = x
access_in through answers (Some owner) x =
    if is_away through answers || is_home through owner then x else next.Enter owner 0

-- the access of a table, or the enter of its owner before
abbrev pub access : List TablePart → Option Through → List Answer → ℕ → Next → Next
access tables through answers t x = access_in through answers (owner_of tables t) x

-- the step that reads a row or lists a table
abbrev pub reading : ReadMark → Next
reading (Row id) = next.Read id
reading (Table t) = next.List t

-- the table that is accessed by a read
abbrev pub table_of : ReadMark → ℕ
table_of (Row id) = id.table
table_of (Table t) = t

-- every open component is left, and then the action is done
abbrev pub leaving : List Answer → DoneText → Next
leaving answers d = if enter_count answers == exit_count answers then next.Done d else next.Exit

-- the next row is put, and after the last one all is left
abbrev pub putting : List TablePart → Option Through → List Answer → DoneText → Option RowWrite → Next
putting tables through answers d None = leaving answers d
putting tables through answers d (Some w) = access tables through answers w.id.table (next.Put w)

-- the step to what the action wants
abbrev pub wanting : List TablePart → Option Through → List Answer → Want → Next
wanting tables through answers (want.Ask m) =
    access tables through answers (table_of m) (reading m)
wanting tables through answers (want.Finish o) =
    putting tables through answers o.done (slice_get o.writes (put_count answers))

-- The next step where none but the answers decide it: into the home, and back from an owner where the action has made
-- its access.
abbrev pub fixed_step : Option Through → List Answer → Option Next
fixed_step through answers =
    if nat_lt (enter_count answers) (home_depth through) then Some (enter_home through (enter_count answers))
    else (if is_away through answers && not (has_just_entered answers) then Some next.Exit
    else None)

-- The next step of an action after these answers: into its home, back from an owner where it has made its access, and
-- else to what it wants.
abbrev pub step_to : List TablePart → Option Through → List Answer → Want → Next
step_to tables through answers w =
    if nat_lt (enter_count answers) (home_depth through) then enter_home through (enter_count answers)
    else (if is_away through answers && not (has_just_entered answers) then next.Exit
    else wanting tables through answers w)

-- The program of a plan: after these answers it makes the next step to what the plan wants.
abbrev pub program_of : List TablePart → Option Through → Plan Outcome → List Answer → Next
program_of tables through plan answers =
    step_to tables through answers (wanted (walk plan (reads_in answers)))

-- whether a component may be entered from another
abbrev pub may_go : Parts → ComponentNo → ComponentNo → Bool
may_go parts from to = nat_lt to.0 (length parts.components) && may_call parts from.0 to.0

-- whether a component is there that is the home of the action, or may be entered from it
abbrev pub is_near : Parts → Option Through → Option ComponentNo → Bool
is_near parts through None = false
is_near parts through (Some owner) =
    is_home through owner || may_go parts (home_of through) owner

-- whether the action can access a table: its owner is the home of the action, or may be entered from it
abbrev pub reaches : Parts → Option Through → ℕ → Bool
reaches parts through t = is_near parts through (owner_of parts.tables t)

-- whether the action can put a row
abbrev pub may_put : Parts → Option Through → RowWrite → Bool
may_put parts through w = reaches parts through w.id.table && is_write w

-- whether it can put each of these
abbrev pub may_put_all : Parts → Option Through → List RowWrite → Bool
may_put_all parts through [] = true
may_put_all parts through (w ∷ ws) = may_put parts through w && may_put_all parts through ws

-- whether the action can enter its home
abbrev pub has_home : Parts → Option Through → Bool
has_home parts None = nat_lt GATEWAY.0 (length parts.components)
has_home parts (Some t) =
    nat_lt GATEWAY.0 (length parts.components) && may_go parts GATEWAY t.component

-- What a plan comes to over rows in so many reads and puts at most, where it can make each of them.
abbrev pub outcome : ℕ → Parts → Option Through → List RowWrite → Plan Outcome → Option Outcome
outcome n parts through rows (Refuses d) = Some (record { writes = []; done = d })
outcome n parts through rows (Gives o) =
    if (nat_le (length o.writes) n && nat_le (length o.writes) MAX_WRITES) && may_put_all parts through o.writes
    then Some (record { writes = put_each [] o.writes; done = o.done })
    else None
outcome zero parts through rows (Asks m go) = None
outcome (suc n) parts through rows (Asks m go) =
    if reaches parts through (table_of m)
    then outcome n parts through rows (go (answer_to rows m))
    else None

-- What a plan comes to over rows, where its action can make each access and makes at most `MAX_ACCESSES`.
unfoldable pub outcome_of : Parts → Option Through → List RowWrite → Plan Outcome → Option Outcome
outcome_of parts through rows plan =
    if has_home parts through then outcome MAX_ACCESSES parts through rows plan else None
