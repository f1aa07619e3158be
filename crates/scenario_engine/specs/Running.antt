-- Event lines, over a boot that is started.
use Rattle.std.specs.Prelude.{ℕ, ◌+◌, Bool, true, if◌then◌else◌, List, [], ◌∷◌, ◌++◌, length, Option, Some, None, bytes_eq, option_map}
use Rattle.call_ticket.specs.Ticket.{TicketValue}
use Rattle.crash_base.specs.declared.names.TheConstants.{APPLICATION}
use Rattle.container_core.specs.declared.history.Event.{Event}
use Rattle.container_core.specs.declared.history.Event.TheVariants.{Added, KeeperFailed}
use Rattle.crash_base.specs.declared.numbers.RequestNo.{RequestNo}
use Rattle.crash_base.specs.declared.rows.RowWrite.{RowWrite}
use Rattle.crash_base.specs.declared.scope.Scope.{Scope}
use Rattle.crash_base.specs.declared.scope.Scope.TheVariants.{Group, App}
use Rattle.deployment.specs.declared.parts.Parts.{Parts}
use Rattle.deployment.specs.Groups.{group_no, group_of}
use Rattle.deployment.specs.Parts.{named}
use Rattle.journal_model.specs.declared.entry.Entry.{Entry}
use Rattle.journal_model.specs.declared.entry.Entry.TheVariants.{Commit, Down, Up}
use Rattle.journal_model.specs.Calls.{entry_of}
use Rattle.journal_model.specs.Reboots.{undone_of}
use Rattle.journal_model.specs.Rows.{rows_after}
use Rattle.boot_core.specs.Boot.{new_boot, with_entry}
use Rattle.boot_core.specs.declared.boot.Start.{Start}
use Rattle.boot_core.specs.Refusals.{commit_refusal, reboot_refusal}
use Rattle.boot_core.specs.declared.refusals.CommitRefusal.{CommitRefusal}
use Rattle.boot_core.specs.declared.refusals.CommitRefusal.TheVariants as commits
use Rattle.boot_core.specs.declared.refusals.RebootRefusal.{RebootRefusal}
use Rattle.scenario_text.specs.declared.boot_line.BootLine.{BootLine}
use Rattle.scenario_text.specs.declared.boot_line.BootLine.TheVariants as boots
use Rattle.line_steps.specs.declared.callers.Caller.{Caller}
use Rattle.line_steps.specs.declared.callers.Caller.TheVariants.{Absent, Live}
use Rattle.scenario_engine.specs.KeeperCalls.{KeeperCall, apply_calls}
use Rattle.scenario_engine.specs.State.{RunningState}
use Rattle.seat_lines.specs.Giving.{sessions_given_back, without_seats}
use Rattle.seat_lines.specs.Hearing.{report_line}
use Rattle.seat_lines.specs.Site.{SeatsState}
use Rattle.session_steps.specs.Sessions.{SessionsState, reopened}
use Rattle.scenario_text.specs.Answer.{Answer, Refused, Done, or_refused, within}
use Rattle.line_steps.specs.CallLines.{CallDone}
use Rattle.line_steps.specs.Callers.{caller_at, ended, begin_step}
use Rattle.line_steps.specs.Texts.{committed_text, commit_refusal_text, down_text, up_text, reboot_refusal_text, table_text, journal_text}

-- a boot of the site or of another deployment that was just started over these sessions and connections, without
-- callers
abbrev pub started : SessionsState → SeatsState → Bool → Start → RunningState
started sessions seats site start =
    record {
      boot = new_boot start;
      since = [];
      callers = [];
      sessions = reopened sessions start.boot;
      seats = seats;
      site = site;
    }

-- the next boot: the callers are gone; the connections gave back what they hold of the bricks, and are gone; and the
-- manager stays
abbrev pub reopened_over : RunningState → Start → RunningState
reopened_over r start = started (sessions_given_back r.seats.seats r.sessions) (without_seats r.seats) r.site start

-- the same boot with these callers
abbrev pub with_callers : RunningState → List Caller → RunningState
with_callers r callers = record r { callers = callers }

-- the boot and the callers that a line of a call left
abbrev pub with_called : RunningState → CallDone (List Caller) → RunningState
with_called r done = record r { boot = done.boot; callers = done.left }

-- the same boot with these connections, and their manager
abbrev pub with_seats : RunningState → SeatsState → RunningState
with_seats r seats = record r { seats = seats }

-- the same boot with these sessions
abbrev pub with_sessions : RunningState → SessionsState → RunningState
with_sessions r sessions = record r { sessions = sessions }

-- the same callers of a boot whose journal and history have one entry more
abbrev pub with_boot_entry : RunningState → Entry → RunningState
with_boot_entry r e = record r { boot = with_entry r.boot e; since = r.since ++ Added e ∷ [] }

-- the events since the start, after a commit that was refused: a keeper that failed is marked
abbrev pub since_refused : List Event → RequestNo → CommitRefusal → List Event
since_refused since request commits.KeeperFailed = since ++ KeeperFailed request ∷ []
since_refused since request commits.OutOfMemory = since
since_refused since request (commits.Already place) = since
since_refused since request (commits.Revoked s) = since
since_refused since request (commits.Conflict c) = since
since_refused since request (commits.JournalFull full) = since

-- The call of a caller joins the journal, or is refused; it ends in each case.
abbrev pub commit_ends : RunningState → ℕ → TicketValue → Option CommitRefusal → Answer RunningState
commit_ends r caller ticket None =
    Done (record (with_boot_entry r (Commit (entry_of ticket.call None))) {
      callers = ended r.callers caller;
    }) (committed_text caller (length r.boot.entries))
commit_ends r caller ticket (Some refusal) =
    Done (record r {
      since = since_refused r.since ticket.call.request refusal;
      callers = ended r.callers caller;
    }) (commit_refusal_text caller refusal)

-- Whether the keeper keeps the writes of a commit: it is not called where there are none.
abbrev pub are_kept : List RowWrite → Bool → Bool
are_kept [] keeps = true
are_kept (w ∷ ws) keeps = keeps

-- the refusal of a commit: that of the boot, else that of a keeper that does not keep the writes
abbrev pub with_keeper : Option CommitRefusal → List RowWrite → Bool → Option CommitRefusal
with_keeper (Some refusal) writes keeps = Some refusal
with_keeper None writes keeps = if are_kept writes keeps then None else Some commits.KeeperFailed

-- what the boot refuses of a call that would commit
abbrev pub boot_refusal : RunningState → TicketValue → Option CommitRefusal
boot_refusal r ticket = commit_refusal r.boot.start.limits r.boot.entries ticket.call None

-- the call of a caller commits, if it is live
abbrev pub caller_commits : RunningState → ℕ → Bool → Caller → Answer RunningState
caller_commits r caller keeps Absent = Refused
caller_commits r caller keeps (Live ticket) =
    commit_ends r caller ticket (with_keeper (boot_refusal r ticket) ticket.call.writes keeps)

-- A live caller's call commits, where the keeper replies so.
unfoldable pub commit_step : RunningState → ℕ → Bool → Answer RunningState
commit_step r caller keeps = caller_commits r caller keeps (caller_at r.callers caller)

-- the call of the keeper that a commit makes: one where it has writes and nothing refuses it
abbrev pub keep_calls : Option CommitRefusal → List RowWrite → Bool → List KeeperCall
keep_calls (Some refusal) writes keeps = []
keep_calls None [] keeps = []
keep_calls None (w ∷ ws) keeps = apply_calls (w ∷ ws) keeps

-- the calls of the keeper when a caller commits
abbrev pub caller_calls : RunningState → Bool → Caller → List KeeperCall
caller_calls r keeps Absent = []
caller_calls r keeps (Live ticket) = keep_calls (boot_refusal r ticket) ticket.call.writes keeps

-- the calls of the keeper that a commit line makes
unfoldable pub commit_calls : RunningState → ℕ → Bool → List KeeperCall
commit_calls r caller keeps = caller_calls r keeps (caller_at r.callers caller)

-- the call of a caller is dropped, if it is live
abbrev pub caller_drops : RunningState → ℕ → Caller → Answer RunningState
caller_drops r caller Absent = Refused
caller_drops r caller (Live ticket) = Done (with_callers r (ended r.callers caller)) []

-- A live caller's call is dropped.
unfoldable pub drop_step : RunningState → ℕ → Answer RunningState
drop_step r caller = caller_drops r caller (caller_at r.callers caller)

-- the scope that a word names: the whole application by app, or the group of a component by its name
abbrev pub scope_of : Parts → List ℕ → Option Scope
scope_of parts word =
    if bytes_eq word APPLICATION.now
    then Some App
    else option_map (λ c. Group (group_no (group_of parts c))) (named parts.components word)

-- a scope goes down, unless that is refused
abbrev pub goes_down : RunningState → Scope → Option RebootRefusal → Answer RunningState
goes_down r s None = Done (with_boot_entry r (Down s)) (down_text (length r.boot.entries))
goes_down r s (Some refusal) = Done r (reboot_refusal_text refusal)

-- A scope goes down. Refused is a word that names no scope.
unfoldable pub down_step : RunningState → List ℕ → Answer RunningState
down_step r word =
    or_refused (scope_of r.boot.start.deployment word) (λ s.
    goes_down r s (reboot_refusal r.boot.start.limits r.boot.entries s))

-- A scope comes up. Refused are a word that names no scope, and a scope of which no Down waits for its Up.
unfoldable pub up_step : RunningState → List ℕ → Answer RunningState
up_step r word =
    or_refused (scope_of r.boot.start.deployment word) (λ s.
    or_refused (undone_of r.boot.entries s) (λ place.
    Done (with_boot_entry r (Up s)) (up_text (length r.boot.entries))))

-- a scope goes down and comes up, unless that is refused
abbrev pub reboots : RunningState → Scope → Option RebootRefusal → Answer RunningState
reboots r s None =
    Done (with_boot_entry (with_boot_entry r (Down s)) (Up s))
    (down_text (length r.boot.entries) ++ up_text (length r.boot.entries + 1))
reboots r s (Some refusal) = Done r (reboot_refusal_text refusal)

-- A scope goes down and comes up at once. Refused is a word that names no scope.
unfoldable pub reboot_step : RunningState → List ℕ → Answer RunningState
reboot_step r word =
    or_refused (scope_of r.boot.start.deployment word) (λ s.
    reboots r s (reboot_refusal r.boot.start.limits r.boot.entries s))

-- the current rows, in order of id
unfoldable pub table_step : RunningState → Answer RunningState
table_step r = Done r (table_text (rows_after r.boot.start.base r.boot.entries))

-- the journal, in order of place
unfoldable pub journal_step : RunningState → Answer RunningState
journal_step r = Done r (journal_text r.boot.entries)

-- a line over the boot
abbrev pub boot_line : RunningState → BootLine → Answer RunningState
boot_line r (boots.Begin c) = within (with_callers r) (begin_step r.boot r.callers c)
boot_line r (boots.Drop c) = drop_step r c
boot_line r (boots.Down word) = down_step r word
boot_line r (boots.Up word) = up_step r word
boot_line r (boots.Reboot word) = reboot_step r word
boot_line r boots.Table = table_step r
boot_line r boots.Journal = journal_step r
boot_line r (boots.Report names) =
    within (with_seats r) (report_line r.boot.start.deployment r.seats names r.sessions.moment)
