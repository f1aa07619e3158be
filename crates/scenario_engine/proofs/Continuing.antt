-- What lines of callers, of boots and of sessions leave of a boot: its connections, the key, and a history that only
-- grows, at no earlier moment.
use Rattle.std.proofs.Common.{◌≡◌, ℕ, ◌≤◌, Bool, List, [], ◌∷◌, ◌++◌, append-nil, append_assoc, Option, Some, None, refl, sym, ap, arith}
use Rattle.boot_core.specs.declared.refusals.CommitRefusal.{CommitRefusal}
use Rattle.boot_core.specs.declared.refusals.CommitRefusal.TheVariants as commits
use Rattle.boot_core.specs.declared.refusals.RebootRefusal.{RebootRefusal}
use Rattle.boot_core.specs.Refusals.{reboot_refusal}
use Rattle.call_ticket.specs.Ticket.{TicketValue}
use Rattle.container_core.specs.declared.history.Event.{Event}
use Rattle.container_core.specs.declared.history.Event.TheVariants.{Added, KeeperFailed}
use Rattle.crash_base.specs.declared.numbers.RequestNo.{RequestNo}
use Rattle.crash_base.specs.declared.scope.Scope.{Scope}
use Rattle.journal_model.specs.Calls.{entry_of}
use Rattle.journal_model.specs.Reboots.{undone_of}
use Rattle.journal_model.specs.declared.entry.Entry.{Entry}
use Rattle.journal_model.specs.declared.entry.Entry.TheVariants.{Commit, Down, Up}
use Rattle.line_steps.specs.Callers.{begin_step, caller_at, call_step}
use Rattle.line_steps.specs.declared.callers.Caller.{Caller}
use Rattle.line_steps.specs.declared.callers.Caller.TheVariants.{Absent, Live}
use Rattle.scenario_text.proofs.Leaving.{Leaves, leaves-or_refused}
use Rattle.scenario_text.specs.Answer.{Answer, Refused, Done, within}
use Rattle.scenario_text.specs.declared.boot_line.BootLine.{BootLine}
use Rattle.scenario_text.specs.declared.boot_line.BootLine.TheVariants as boots
use Rattle.scenario_text.specs.declared.session_line.SessionLine.{SessionLine}
use Rattle.seat_lines.specs.Site.{SiteState}
use Rattle.session_steps.specs.Sessions.{SessionsState, session_line}
use Rattle.scenario_engine.specs.Running.{with_callers, with_called, with_sessions, with_boot_entry, since_refused, commit_ends, with_keeper, boot_refusal, caller_commits, caller_drops, commit_step, drop_step, scope_of, goes_down, reboots, down_step, up_step, reboot_step, table_step, journal_step, boot_line}
use Rattle.scenario_engine.specs.State.{RunningState, site_of}
use Rattle.scenario_engine.proofs.SessionSerials.{GoesOn, session_goes}
use Rattle.boot_core.specs.Boot.{BootValue}
use Rattle.scenario_engine.proofs.Entered.{leaves_called}
use Rattle.scenario_text.specs.declared.call_line.CallLine.{CallLine}
use Rattle.scenario_engine.proofs.Reported.{leaves_report}

-- A site goes on to another of the same boot: the key is the same, the moment is none before, and events were added.
pub record Continues (s t : SiteState) : Type 0 where
  pub key : t.sessions.key ≡ s.sessions.key
  pub later : s.sessions.moment.0 ≤ t.sessions.moment.0
  pub start : t.boot.start ≡ s.boot.start
  pub more : List Event
  pub since : t.since ≡ s.since ++ more

pub continues_itself : (s : SiteState) → Continues s s
continues_itself s = record { key = refl; later = omega arith; start = refl; more = []; since = sym (append-nil s.since) }

-- a boot whose connections are as they were, and which goes on so
pub record Beside (r q : RunningState) : Type 0 where
  pub seats : q.seats.seats ≡ r.seats.seats
  pub continues : Continues (site_of r) (site_of q)

-- the connections and the sessions are as they were, and these events were added
adds : (r q : RunningState) (more : List Event) → q.seats.seats ≡ r.seats.seats → q.sessions ≡ r.sessions → q.boot.start ≡ r.boot.start → q.since ≡ r.since ++ more → Beside r q
adds r q more seats sessions start since =
    let moment : q.sessions.moment.0 ≡ r.sessions.moment.0 = ap (λ (x : SessionsState). x.moment.0) sessions in
    record {
      seats = seats;
      continues = record {
        key = ap (λ (x : SessionsState). x.key) sessions;
        later = omega (arith, moment);
        start = start;
        more = more;
        since = since;
      };
    }

pub beside_itself : (r : RunningState) → Beside r r
beside_itself r = adds r r [] refl refl refl (sym (append-nil r.since))

beside_callers : (r : RunningState) (a : Answer (List Caller)) → Leaves (Beside r) (within (with_callers r) a)
beside_callers r Refused = tt
beside_callers r (Done callers text) = adds r (with_callers r callers) [] refl refl refl (sym (append-nil r.since))

pub beside_called : (r : RunningState) (n : ℕ) (line : CallLine) → Leaves (Beside r) (within (with_called r) (call_step r.boot r.callers n line))
beside_called r n line =
    leaves_called (Beside r) r n line (λ done is. adds r (with_called r done) [] refl refl (ap (λ (b : BootValue). b.start) is) (sym (append-nil r.since)))

pub beside_sessions : (r : RunningState) (line : SessionLine) → Leaves (Beside r) (within (with_sessions r) (session_line r.sessions line))
beside_sessions r line = by (session_line r.sessions line) (session_goes r.sessions line)
  where
    by : (a : Answer SessionsState) → Leaves (GoesOn r.sessions) a → Leaves (Beside r) (within (with_sessions r) a)
    by Refused goes = tt
    by (Done sessions text) goes = record {
      seats = refl;
      continues = record { key = goes.key; later = goes.later; start = refl; more = []; since = sym (append-nil r.since) };
    }

-- the journal has one entry more
beside_entry : (r : RunningState) (e : Entry) → Beside r (with_boot_entry r e)
beside_entry r e = adds r (with_boot_entry r e) (Added e ∷ []) refl refl refl refl

-- what a commit that was refused adds
refused_adds : (since : List Event) (request : RequestNo) (refusal : CommitRefusal) → (more : List Event) × (since_refused since request refusal ≡ since ++ more)
refused_adds since request commits.KeeperFailed = (KeeperFailed request ∷ [], refl)
refused_adds since request commits.OutOfMemory = ([], sym (append-nil since))
refused_adds since request (commits.Already place) = ([], sym (append-nil since))
refused_adds since request (commits.Revoked s) = ([], sym (append-nil since))
refused_adds since request (commits.Conflict c) = ([], sym (append-nil since))
refused_adds since request (commits.JournalFull full) = ([], sym (append-nil since))

beside_commit_ends : (r : RunningState) (n : ℕ) (ticket : TicketValue) (refusal : Option CommitRefusal) → Leaves (Beside r) (commit_ends r n ticket refusal)
beside_commit_ends r n ticket None = adds r _ (Added (Commit (entry_of ticket.call None)) ∷ []) refl refl refl refl
beside_commit_ends r n ticket (Some refusal) =
    let added : (more : List Event) × (since_refused r.since ticket.call.request refusal ≡ r.since ++ more) = refused_adds r.since ticket.call.request refusal in
    adds r _ added.0 refl refl refl added.1

beside_caller_commits : (r : RunningState) (n : ℕ) (keeps : Bool) (caller : Caller) → Leaves (Beside r) (caller_commits r n keeps caller)
beside_caller_commits r n keeps Absent = tt
beside_caller_commits r n keeps (Live ticket) = beside_commit_ends r n ticket (with_keeper (boot_refusal r ticket) ticket.call.writes keeps)

pub beside_commit : (r : RunningState) (n : ℕ) (keeps : Bool) → Leaves (Beside r) (commit_step r n keeps)
unfolding commit_step
beside_commit r n keeps = beside_caller_commits r n keeps (caller_at r.callers n)

beside_caller_drops : (r : RunningState) (n : ℕ) (caller : Caller) → Leaves (Beside r) (caller_drops r n caller)
beside_caller_drops r n Absent = tt
beside_caller_drops r n (Live ticket) = adds r _ [] refl refl refl (sym (append-nil r.since))

beside_drop : (r : RunningState) (n : ℕ) → Leaves (Beside r) (drop_step r n)
unfolding drop_step
beside_drop r n = beside_caller_drops r n (caller_at r.callers n)

beside_goes_down : (r : RunningState) (s : Scope) (refusal : Option RebootRefusal) → Leaves (Beside r) (goes_down r s refusal)
beside_goes_down r s None = beside_entry r (Down s)
beside_goes_down r s (Some refusal) = beside_itself r

beside_down : (r : RunningState) (name : List ℕ) → Leaves (Beside r) (down_step r name)
unfolding down_step
beside_down r name =
    leaves-or_refused (Beside r) (scope_of r.boot.start.deployment name) (λ s. goes_down r s (reboot_refusal r.boot.start.limits r.boot.entries s)) (λ s known.
    beside_goes_down r s (reboot_refusal r.boot.start.limits r.boot.entries s))

beside_up : (r : RunningState) (name : List ℕ) → Leaves (Beside r) (up_step r name)
unfolding up_step
beside_up r name =
    leaves-or_refused (Beside r) (scope_of r.boot.start.deployment name) _ (λ s known.
    leaves-or_refused (Beside r) (undone_of r.boot.entries s) _ (λ place found. beside_entry r (Up s)))

beside_reboots : (r : RunningState) (s : Scope) (refusal : Option RebootRefusal) → Leaves (Beside r) (reboots r s refusal)
beside_reboots r s None = adds r _ (Added (Down s) ∷ Added (Up s) ∷ []) refl refl refl (append_assoc r.since (Added (Down s) ∷ []) (Added (Up s) ∷ []))
beside_reboots r s (Some refusal) = beside_itself r

beside_reboot : (r : RunningState) (name : List ℕ) → Leaves (Beside r) (reboot_step r name)
unfolding reboot_step
beside_reboot r name =
    leaves-or_refused (Beside r) (scope_of r.boot.start.deployment name) (λ s. reboots r s (reboot_refusal r.boot.start.limits r.boot.entries s)) (λ s known.
    beside_reboots r s (reboot_refusal r.boot.start.limits r.boot.entries s))

pub beside_boot : (r : RunningState) (line : BootLine) → Leaves (Beside r) (boot_line r line)
unfolding table_step journal_step
beside_boot r (boots.Begin c) = beside_callers r (begin_step r.boot r.callers c)
beside_boot r (boots.Drop c) = beside_drop r c
beside_boot r (boots.Down name) = beside_down r name
beside_boot r (boots.Up name) = beside_up r name
beside_boot r (boots.Reboot name) = beside_reboot r name
beside_boot r boots.Table = beside_itself r
beside_boot r boots.Journal = beside_itself r
beside_boot r (boots.Report names) =
    leaves_report (Beside r) r names (λ manager. adds r _ [] refl refl refl (sym (append-nil r.since)))
