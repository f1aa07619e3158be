-- What turns leave of a keeper that tells.
use Rattle.std.proofs.Common.{◌≡◌, ℕ, ◌+◌, ◌<◌, arith, Bool, true, false, if◌then◌else◌, List, [], ◌∷◌, ◌++◌, length, Option, Some, None, refl, sym, ap, ◌∙◌, subst}
use Rattle.std.specs.Prelude.{nat_le, nat_lt, IfSome, All}
use Rattle.std.proofs.lemmas.Bool.Decides.{nat_tests}
use Rattle.crash_base.specs.declared.row_id.RowId.{RowId}
use Rattle.crash_base.specs.declared.rows.RowWrite.{RowWrite}
use Rattle.crash_base.specs.declared.scope.Scope.{Scope}
use Rattle.crash_base.specs.Rows.{put_all, AreOrdered}
use Rattle.call_ticket.specs.Ticket.{TicketValue}
use Rattle.deployment.specs.declared.parts.Parts.{Parts}
use Rattle.journal_model.specs.declared.entry.Entry.{Entry}
use Rattle.journal_model.specs.declared.entry.Entry.TheVariants.{Commit, Down, Up}
use Rattle.journal_model.specs.declared.limits.JournalLimits.{JournalLimits}
use Rattle.journal_model.specs.Calls.{entry_of}
use Rattle.journal_model.specs.Reboots.{undone_of}
use Rattle.journal_model.specs.Rows.{writes_of, rows_after}
use Rattle.journal_model.proofs.Adding.{rows_after-push}
use Rattle.outside.specs.Keeper.{KeeperTold, after_call}
use Rattle.boot_core.specs.declared.boot.Start.{Start}
use Rattle.boot_core.specs.Boot.{BootValue}
use Rattle.boot_core.specs.Refusals.{reboot_refusal}
use Rattle.boot_core.specs.Sound.{IsSound}
use Rattle.boot_core.specs.declared.refusals.CommitRefusal.{CommitRefusal}
use Rattle.boot_core.specs.declared.refusals.RebootRefusal.{RebootRefusal}
use Rattle.scenario_engine.specs.declared.failure.UnstartedCause.TheVariants as causes
use Rattle.container_core.specs.Start.{first_bad, last_boot, greatest_boot, boot_row, start_over}
use Rattle.container_core.proofs.Raising.{start_rows}
use Rattle.scenario_text.specs.declared.line.Line.{Line}
use Rattle.scenario_text.specs.declared.line.Line.TheVariants as lines
use Rattle.scenario_text.specs.declared.line.TheConstants.{MAX_LINE_BYTES}
use Rattle.scenario_text.specs.Line.{is_event}
use Rattle.scenario_text.specs.Reading.{line_of}
use Rattle.scenario_text.specs.declared.boot_line.BootLine.{BootLine}
use Rattle.scenario_text.specs.declared.boot_line.BootLine.TheVariants as boots
use Rattle.line_steps.specs.declared.callers.Caller.{Caller}
use Rattle.line_steps.specs.declared.callers.Caller.TheVariants.{Absent, Live}
use Rattle.line_steps.specs.declared.head.Head.{Head}
use Rattle.scenario_text.specs.Answer.{Answer, Refused, Done, within}
use Rattle.session_steps.specs.Sessions.{SessionsState, session_line}
use Rattle.line_steps.specs.Callers.{caller_at, begin_step, call_step}
use Rattle.line_steps.specs.Head.{head_line}
use Rattle.scenario_text.proofs.Leaving.{Leaves, leaves-or_refused, leaves-within, leaves-weaker, leaves-nothing}
use Rattle.scenario_engine.specs.Engine.{Replies, first_keeps, Target, TheHead, TheBoot, TheUnstarted, opened_target, target_of, target_calls, in_head, next_opening, reopens, line_over, line_on, step, calls_over, calls_on, line_calls, ended_by, ends_over, ends_on, ended_boots}
use Rattle.scenario_engine.specs.Seats.{in_boot, seat_over}
use Rattle.scenario_engine.specs.KeeperCalls.{apply_calls, TellsCalls}
use Rattle.scenario_engine.specs.Opening.{StartReplies, Opening, Opened, UnstartedBoot, is_spent, opening, opening_of, opening_over, calls_over_rows, start_calls, start_calls_of}
use Rattle.scenario_engine.specs.Running.{with_callers, with_called, with_sessions, with_boot_entry, commit_ends, with_keeper, boot_refusal, keep_calls, caller_commits, caller_calls, caller_drops, commit_step, commit_calls, drop_step, scope_of, goes_down, reboots, down_step, up_step, reboot_step, table_step, journal_step, boot_line}
use Rattle.scenario_engine.specs.State.{RunningState, State, Heading, Running, Outcome, RefusedIn, DoneTo, UnstartedIn, UnderWayIn}
use Rattle.scenario_engine.specs.Told.{HoldsStateRows, IsOver, IsChained, Tells}
use Rattle.scenario_engine.specs.Transcript.{Turn, first, answer_to, turn_outcome, calls_to, turn_calls, ends_to, turn_ends, calls_from, boots_in, boots_from, end_from, last_state, RefusedAt, TooLong, Unstarted, UnderWay}
use Rattle.scenario_engine.proofs.Numbering.{GoesOn, AreLinked, chained_over}
use Rattle.scenario_engine.proofs.Keeping.{LeavesTo}
use Rattle.scenario_engine.proofs.SeatRows.{HoldsIn, left_seat}
use Rattle.scenario_engine.proofs.TellingCalls.{none_after, Halves, halves, rows_told, rows_failed}
use Rattle.crash_base.specs.declared.fault_plans.FaultPlan.{FaultPlan}
use Rattle.component_pool.specs.Plans.{left_by_process}
use Rattle.scenario_engine.proofs.Entered.{leaves_called}
use Rattle.scenario_text.specs.declared.call_line.CallLine.{CallLine}
use Rattle.scenario_engine.proofs.Reported.{leaves_report}

-- what a start leaves

-- The boot that opens is over the rows that the keeper held, of these parts and limits, and begins with those that it
-- holds; else they stay.
record OpensOver (parts : Parts) (plans : List FaultPlan) (limits : JournalLimits) (t u : KeeperTold) (start : Start) : Type 0 where
  over : IsOver t.rows start
  deployment : start.deployment ≡ parts
  planned : start.plans ≡ plans
  limited : start.limits ≡ limits
  rows : u.rows ≡ rows_after start.base []

abbrev StartLeaves : Parts → List FaultPlan → JournalLimits → KeeperTold → KeeperTold → Opening → Type 0
StartLeaves parts plans limits t u (Opened start) = OpensOver parts plans limits t u start
StartLeaves parts plans limits t u (UnstartedBoot refusal) = u.rows ≡ t.rows

above : (n m : ℕ) → nat_le n m ≡ false → m < n
above n m less = grind (arith, nat_tests)

-- where a number is left, it is below the greatest
is_left : (rows : List RowWrite) → is_spent rows ≡ false → last_boot rows < greatest_boot
is_left rows left = above greatest_boot (last_boot rows) left

start_kept : (parts : Parts) (plans : List FaultPlan) (limits : JournalLimits) (rows : List RowWrite) (t v u : KeeperTold) (keeps : Bool) → rows ≡ t.rows → AreOrdered rows → v.rows ≡ t.rows
    → first_bad rows ≡ None → is_spent rows ≡ false
    → TellsCalls (apply_calls (boot_row (last_boot rows + 1) ∷ []) keeps) (Some v) (Some u)
    → StartLeaves parts plans limits t u (if keeps then Opened (start_over parts plans limits rows) else UnstartedBoot causes.KeeperFailed)
start_kept parts plans limits rows t v u true given ordered same good left told =
    let row : List RowWrite = boot_row (last_boot rows + 1) ∷ [] in
    let put : u.rows ≡ put_all row v.rows = ap rows_told told.2 ∙ ap rows_told told.1 in
    let P : List RowWrite → Type 0 = λ held. IsOver held (start_over parts plans limits rows) in
    record {
      over = subst P given (record { over = refl; good = good; unspent = is_left rows left });
      deployment = refl;
      planned = refl;
      limited = refl;
      rows = put ∙ ap (put_all row) (same ∙ sym given) ∙ start_rows rows (last_boot rows + 1) ordered;
    }
start_kept parts plans limits rows t v u false given ordered same good left told = rows_failed v u told ∙ same

start_unspent : (parts : Parts) (plans : List FaultPlan) (limits : JournalLimits) (rows : List RowWrite) (t v u : KeeperTold) (spent keeps : Bool) → rows ≡ t.rows → AreOrdered rows → v.rows ≡ t.rows
    → first_bad rows ≡ None → is_spent rows ≡ spent
    → TellsCalls (if spent then [] else apply_calls (boot_row (last_boot rows + 1) ∷ []) keeps) (Some v) (Some u)
    → StartLeaves parts plans limits t u (if spent then UnstartedBoot causes.BootsSpent else (if keeps then Opened (start_over parts plans limits rows) else UnstartedBoot causes.KeeperFailed))
start_unspent parts plans limits rows t v u true keeps given ordered same good left told = ap rows_told told ∙ same
start_unspent parts plans limits rows t v u false keeps given ordered same good left told = start_kept parts plans limits rows t v u keeps given ordered same good left told

start_given : (parts : Parts) (plans : List FaultPlan) (limits : JournalLimits) (rows : List RowWrite) (t v u : KeeperTold) (bad : Option RowId) (keeps : Bool) → rows ≡ t.rows → AreOrdered rows → v.rows ≡ t.rows
    → first_bad rows ≡ bad
    → TellsCalls (calls_over_rows rows keeps bad) (Some v) (Some u) → StartLeaves parts plans limits t u (opening_over parts plans limits rows keeps bad)
start_given parts plans limits rows t v u (Some id) keeps given ordered same good told = ap rows_told told ∙ same
start_given parts plans limits rows t v u None keeps given ordered same good told =
    start_unspent parts plans limits rows t v u (is_spent rows) keeps given ordered same good refl told

start_replied : (parts : Parts) (plans : List FaultPlan) (limits : JournalLimits) (t u : KeeperTold) (given : Option (List RowWrite)) (keeps : Bool)
    → TellsCalls (start_calls_of given keeps) (Some t) (Some u) → StartLeaves parts plans limits t u (opening_of parts plans limits given keeps)
start_replied parts plans limits t u None keeps told = rows_failed t u told
start_replied parts plans limits t u (Some rows) keeps (between, (given, is), rest) =
    let P : Option KeeperTold → Type 0 = λ o. TellsCalls (calls_over_rows rows keeps (first_bad rows)) o (Some u) in
    start_given parts plans limits rows t (after_call t) u (first_bad rows) keeps given.0 given.1 refl refl (subst P is rest)

start_leaves : (parts : Parts) (plans : List FaultPlan) (limits : JournalLimits) (replies : StartReplies) (t u : KeeperTold)
    → TellsCalls (start_calls replies) (Some t) (Some u) → StartLeaves parts plans limits t u (opening parts plans limits replies)
start_leaves parts plans limits replies t u told = start_replied parts plans limits t u replies.rows replies.keeps told

-- where a keeper that tells stands to a state: it holds the rows that the journal leaves, and the boot is started as
-- the next one has to be; where no boot is started, it holds the rows that it held first, and the next one has to be
-- over these

abbrev HoldsBoot : (Start → Type 0) → KeeperTold → BootValue → Type 0
HoldsBoot P t b = P b.start × (t.rows ≡ rows_after b.start.base b.entries)

abbrev HoldsFirst : List RowWrite → (Start → Type 0) → KeeperTold → Type 0
HoldsFirst held P t = ((start : Start) → IsOver held start → P start) × (t.rows ≡ held)

abbrev IsAt : List RowWrite → (Start → Type 0) → KeeperTold → State → Type 0
IsAt held P t (Heading head) = HoldsFirst held P t
IsAt held P t (Running r) = HoldsBoot P t r.boot

abbrev IsOn : List RowWrite → (Start → Type 0) → KeeperTold → Target → Type 0
IsOn held P t (TheHead head) = HoldsFirst held P t
IsOn held P t (TheBoot r) = HoldsBoot P t r.boot
IsOn held P t (TheUnstarted head refusal) = HoldsFirst held P t

same_told : (P : KeeperTold → Type 0) (t u : KeeperTold) → Some u ≡ Some t → P t → P u
same_told P t u same h = let Q : Option KeeperTold → Type 0 = λ o. IfSome o P in subst Q (sym same) h

first_over : (held : List RowWrite) (P : Start → Type 0) (t : KeeperTold) (start : Start) → HoldsFirst held P t → IsOver t.rows start → P start
first_over held P t start holds over = let Q : List RowWrite → Type 0 = λ rows. IsOver rows start in holds.0 start (subst Q holds.1 over)

on_opened : (held : List RowWrite) (P : Start → Type 0) (head : Head) (how : Opening) (t u : KeeperTold) → HoldsFirst held P t → StartLeaves head.parts head.plans head.limits t u how → IsOn held P u (opened_target head how)
on_opened held P head (Opened start) t u holds leaves =
    (first_over held P t start holds leaves.over, leaves.rows)
on_opened held P head (UnstartedBoot refusal) t u holds leaves = (holds.0, leaves ∙ holds.1)

on_target : (held : List RowWrite) (P : Start → Type 0) (s : State) (event : Bool) (replies : StartReplies) (t u : KeeperTold) → IsAt held P t s
    → TellsCalls (target_calls s event replies) (Some t) (Some u) → IsOn held P u (target_of s event replies)
on_target held P (Running r) event replies t u at told = same_told (λ v. HoldsBoot P v r.boot) t u told at
on_target held P (Heading head) false replies t u at told = same_told (HoldsFirst held P) t u told at
on_target held P (Heading head) true replies t u at told =
    on_opened held P head (opening head.parts head.plans head.limits replies) t u at (start_leaves head.parts head.plans head.limits replies t u told)

-- lines that leave the rows

-- the boot is of the same start, and its journal leaves the same rows
abbrev pub HasSameRows : RunningState → RunningState → Type 0
HasSameRows old new =
    (new.boot.start ≡ old.boot.start)
    × (rows_after new.boot.start.base new.boot.entries ≡ rows_after old.boot.start.base old.boot.entries)

rows_pushed : (r : RunningState) (e : Entry) → writes_of e ≡ [] → HasSameRows r (with_boot_entry r e)
rows_pushed r e none =
    let base = r.boot.start.base in
    let es = r.boot.entries in
    (refl, rows_after-push base es e ∙ ap (λ ws. put_all ws (rows_after base es)) none)

pub rows_called : (r : RunningState) (a : Answer (List Caller)) → Leaves (HasSameRows r) (within (with_callers r) a)
rows_called r a =
    leaves-within (HasSameRows r) (with_callers r) a
    (leaves-weaker (λ callers. Unit {0}) (λ callers. HasSameRows r (with_callers r callers)) a (λ callers h. (refl, refl)) (leaves-nothing a))

pub rows_entered : (r : RunningState) (n : ℕ) (line : CallLine) → Leaves (HasSameRows r) (within (with_called r) (call_step r.boot r.callers n line))
rows_entered r n line =
    leaves_called (HasSameRows r) r n line (λ done is.
    (ap (λ (b : BootValue). b.start) is, ap (λ (b : BootValue). rows_after b.start.base b.entries) is))

rows_dropped : (r : RunningState) (n : ℕ) (caller : Caller) → Leaves (HasSameRows r) (caller_drops r n caller)
rows_dropped r n Absent = tt
rows_dropped r n (Live ticket) = (refl, refl)

rows_drop : (r : RunningState) (n : ℕ) → Leaves (HasSameRows r) (drop_step r n)
unfolding drop_step
rows_drop r n = rows_dropped r n (caller_at r.callers n)

rows_gone : (r : RunningState) (s : Scope) (refusal : Option RebootRefusal) → Leaves (HasSameRows r) (goes_down r s refusal)
rows_gone r s None = rows_pushed r (Down s) refl
rows_gone r s (Some refusal) = (refl, refl)

rows_down : (r : RunningState) (name : List ℕ) → Leaves (HasSameRows r) (down_step r name)
unfolding down_step
rows_down r name =
    leaves-or_refused (HasSameRows r) (scope_of r.boot.start.deployment name) (λ s. goes_down r s (reboot_refusal r.boot.start.limits r.boot.entries s)) (λ s found.
    rows_gone r s (reboot_refusal r.boot.start.limits r.boot.entries s))

rows_up : (r : RunningState) (name : List ℕ) → Leaves (HasSameRows r) (up_step r name)
unfolding up_step
rows_up r name =
    leaves-or_refused (HasSameRows r) (scope_of r.boot.start.deployment name) _ (λ s known.
    leaves-or_refused (HasSameRows r) (undone_of r.boot.entries s) _ (λ place found.
    rows_pushed r (Up s) refl))

rows_rebooted : (r : RunningState) (s : Scope) (refusal : Option RebootRefusal) → Leaves (HasSameRows r) (reboots r s refusal)
rows_rebooted r s None =
    let down : HasSameRows r (with_boot_entry r (Down s)) = rows_pushed r (Down s) refl in
    let up : HasSameRows (with_boot_entry r (Down s)) (with_boot_entry (with_boot_entry r (Down s)) (Up s)) = rows_pushed (with_boot_entry r (Down s)) (Up s) refl in
    (refl, up.1 ∙ down.1)
rows_rebooted r s (Some refusal) = (refl, refl)

rows_reboot : (r : RunningState) (name : List ℕ) → Leaves (HasSameRows r) (reboot_step r name)
unfolding reboot_step
rows_reboot r name =
    leaves-or_refused (HasSameRows r) (scope_of r.boot.start.deployment name) (λ s. reboots r s (reboot_refusal r.boot.start.limits r.boot.entries s)) (λ s found.
    rows_rebooted r s (reboot_refusal r.boot.start.limits r.boot.entries s))

pub rows_session : (r : RunningState) (a : Answer SessionsState) → Leaves (HasSameRows r) (within (with_sessions r) a)
rows_session r Refused = tt
rows_session r (Done sessions text) = (refl, refl)

pub rows_boot : (r : RunningState) (line : BootLine) → Leaves (HasSameRows r) (boot_line r line)
unfolding table_step journal_step
rows_boot r (boots.Begin c) = rows_called r (begin_step r.boot r.callers c)
rows_boot r (boots.Drop c) = rows_drop r c
rows_boot r (boots.Down name) = rows_down r name
rows_boot r (boots.Up name) = rows_up r name
rows_boot r (boots.Reboot name) = rows_reboot r name
rows_boot r boots.Table = (refl, refl)
rows_boot r boots.Journal = (refl, refl)
rows_boot r (boots.Report names) = leaves_report (HasSameRows r) r names (λ manager. (refl, refl))

-- a commit

-- the keeper holds what the journal leaves of the same start
abbrev HoldsNext : RunningState → KeeperTold → RunningState → Type 0
HoldsNext old u new =
    (new.boot.start ≡ old.boot.start) × (u.rows ≡ rows_after new.boot.start.base new.boot.entries)

holds_next : (held : List RowWrite) (P : Start → Type 0) (t u : KeeperTold) (r next : RunningState) → HoldsBoot P t r.boot → HoldsNext r u next → HoldsBoot P u next.boot
holds_next held P t u r next holds leaves =
    (subst P (sym leaves.0) holds.0, leaves.1)

holds_kept : (r : RunningState) (n : ℕ) (ticket : TicketValue) (writes : List RowWrite) (t u : KeeperTold) → ticket.call.writes ≡ writes → t.rows ≡ rows_after r.boot.start.base r.boot.entries → u.rows ≡ put_all writes t.rows
    → Leaves (HoldsNext r u) (commit_ends r n ticket None)
holds_kept r n ticket writes t u made holds put =
    let base = r.boot.start.base in
    let es = r.boot.entries in
    let e : Entry = Commit (entry_of ticket.call None) in
    let ends : put_all writes (rows_after base es) ≡ put_all (writes_of e) (rows_after base es) = ap (λ ws. put_all ws (rows_after base es)) (sym made) in
    (refl, put ∙ ap (put_all writes) holds ∙ ends ∙ sym (rows_after-push base es e))

holds_commit : (r : RunningState) (n : ℕ) (ticket : TicketValue) (refusal : Option CommitRefusal) (writes : List RowWrite) (keeps : Bool) (t u : KeeperTold) → ticket.call.writes ≡ writes → t.rows ≡ rows_after r.boot.start.base r.boot.entries
    → TellsCalls (keep_calls refusal writes keeps) (Some t) (Some u)
    → Leaves (HoldsNext r u) (commit_ends r n ticket (with_keeper refusal writes keeps))
holds_commit r n ticket (Some refusal) writes keeps t u made holds told = (refl, ap rows_told told ∙ holds)
holds_commit r n ticket None [] keeps t u made holds told = holds_kept r n ticket [] t u made holds (ap rows_told told)
holds_commit r n ticket None (w ∷ ws) true t u made holds told =
    holds_kept r n ticket (w ∷ ws) t u made holds (ap rows_told told.2 ∙ ap rows_told told.1)
holds_commit r n ticket None (w ∷ ws) false t u made holds told = (refl, rows_failed t u told ∙ holds)

holds_caller : (r : RunningState) (n : ℕ) (keeps : Bool) (caller : Caller) (t u : KeeperTold) → t.rows ≡ rows_after r.boot.start.base r.boot.entries
    → TellsCalls (caller_calls r keeps caller) (Some t) (Some u) → Leaves (HoldsNext r u) (caller_commits r n keeps caller)
holds_caller r n keeps Absent t u holds told = tt
holds_caller r n keeps (Live ticket) t u holds told =
    holds_commit r n ticket (boot_refusal r ticket) ticket.call.writes keeps t u refl holds told

holds_commit_step : (r : RunningState) (n : ℕ) (keeps : Bool) (t u : KeeperTold) → t.rows ≡ rows_after r.boot.start.base r.boot.entries
    → TellsCalls (commit_calls r n keeps) (Some t) (Some u) → Leaves (HoldsNext r u) (commit_step r n keeps)
unfolding commit_step commit_calls
holds_commit_step r n keeps t u holds told = holds_caller r n keeps (caller_at r.callers n) t u holds told

-- one turn

-- The first of these boots is started so, and each other one goes on from the one before; and what is left is so.
abbrev AreLinkedTo : (Start → Type 0) → List BootValue → ((Start → Type 0) → Type 0) → Type 0
AreLinkedTo P [] Q = Q P
AreLinkedTo P (b ∷ bs) Q = P b.start × AreLinkedTo (GoesOn b) bs Q

-- where the keeper stands after an outcome
abbrev IsLeft : List RowWrite → KeeperTold → Outcome → (Start → Type 0) → Type 0
IsLeft held t outcome P = LeavesTo (IsAt held P t) outcome

left_in_head : (held : List RowWrite) (P : Start → Type 0) (t : KeeperTold) (head : Head) (a : Answer Head) → HoldsFirst held P t → IsLeft held t (in_head head a) P
left_in_head held P t head Refused holds = holds
left_in_head held P t head (Done next text) holds = holds

left_in_boot : (held : List RowWrite) (P : Start → Type 0) (t u : KeeperTold) (r : RunningState) (a : Answer RunningState) → HoldsBoot P t r.boot → u.rows ≡ t.rows → Leaves (HasSameRows r) a → IsLeft held u (in_boot r a) P
left_in_boot held P t u r Refused holds same leaves = (holds.0, same ∙ holds.1)
left_in_boot held P t u r (Done next text) holds same leaves =
    holds_next held P t u r next holds (leaves.0, same ∙ holds.1 ∙ sym leaves.1)

left_by_commit : (held : List RowWrite) (P : Start → Type 0) (t u : KeeperTold) (r : RunningState) (a : Answer RunningState) → HoldsBoot P t r.boot → (a ≡ Refused → u.rows ≡ t.rows) → Leaves (HoldsNext r u) a → IsLeft held u (in_boot r a) P
left_by_commit held P t u r Refused holds same leaves = (holds.0, same refl ∙ holds.1)
left_by_commit held P t u r (Done next text) holds same leaves = holds_next held P t u r next holds leaves

-- a commit that is refused as a line calls no keeper

ends_done : (r : RunningState) (n : ℕ) (ticket : TicketValue) (refusal : Option CommitRefusal) → commit_ends r n ticket refusal ≡ Refused → ⊥
ends_done r n ticket None is = cc
ends_done r n ticket (Some refusal) is = cc

caller_refused : (r : RunningState) (n : ℕ) (keeps : Bool) (caller : Caller) (t u : KeeperTold) → TellsCalls (caller_calls r keeps caller) (Some t) (Some u) → caller_commits r n keeps caller ≡ Refused → u.rows ≡ t.rows
caller_refused r n keeps Absent t u told is = ap rows_told told
caller_refused r n keeps (Live ticket) t u told is = absurd (ends_done r n ticket (with_keeper (boot_refusal r ticket) ticket.call.writes keeps) is)

commit_refused : (r : RunningState) (n : ℕ) (keeps : Bool) (t u : KeeperTold) → TellsCalls (commit_calls r n keeps) (Some t) (Some u) → commit_step r n keeps ≡ Refused → u.rows ≡ t.rows
unfolding commit_step commit_calls
commit_refused r n keeps t u told is = caller_refused r n keeps (caller_at r.callers n) t u told is

left_reopened : (held : List RowWrite) (P : Start → Type 0) (t u : KeeperTold) (r : RunningState) (how : Opening) → HoldsBoot P t r.boot → StartLeaves r.boot.start.deployment (left_by_process r.boot.start.plans) r.boot.start.limits t u how
    → AreLinkedTo P (ended_by r how) (IsLeft held u (reopens r how))
left_reopened held P t u r (Opened start) holds leaves =
    let Q : List RowWrite → Type 0 = λ rows. IsOver rows start in
    let next : GoesOn r.boot start = record { over = subst Q holds.1 leaves.over; deployment = leaves.deployment; plans = leaves.planned; limits = leaves.limited } in
    (holds.0, (next, leaves.rows))
left_reopened held P t u r (UnstartedBoot refusal) holds leaves = (holds.0, leaves ∙ holds.1)

-- a line about connections

left_boot : (held : List RowWrite) (P : Start → Type 0) (u : KeeperTold) (r : RunningState) (s : State) → P r.boot.start → HoldsIn r.boot u s → IsAt held P u s
left_boot held P u r (Heading head) so rows = absurd rows
left_boot held P u r (Running q) so rows = (subst P (sym rows.start) so, rows.rows)

left_in_site : (held : List RowWrite) (P : Start → Type 0) (u : KeeperTold) (r : RunningState) (o : Outcome) → P r.boot.start → LeavesTo (HoldsIn r.boot u) o → IsLeft held u o P
left_in_site held P u r (RefusedIn s) so rows = left_boot held P u r s so rows
left_in_site held P u r (DoneTo s text) so rows = left_boot held P u r s so rows
left_in_site held P u r (UnstartedIn s refusal) so rows = left_boot held P u r s so rows
left_in_site held P u r (UnderWayIn s) so rows = left_boot held P u r s so rows

left_over : (held : List RowWrite) (P : Start → Type 0) (t u : KeeperTold) (r : RunningState) (line : Line) (replies : Replies) → HoldsBoot P t r.boot
    → TellsCalls (calls_over r line replies) (Some t) (Some u)
    → AreLinkedTo P (ends_over r line replies) (IsLeft held u (line_over r line replies))
left_over held P t u r lines.Pass replies holds told =
    left_in_boot held P t u r (Done r []) holds (ap rows_told told) (refl, refl)
left_over held P t u r (lines.Head line) replies holds told =
    left_in_boot held P t u r Refused holds (ap rows_told told) tt
left_over held P t u r (lines.Call n line) replies holds told =
    left_in_boot held P t u r (within (with_called r) (call_step r.boot r.callers n line)) holds (ap rows_told told) (rows_entered r n line)
left_over held P t u r (lines.Boot line) replies holds told =
    left_in_boot held P t u r (boot_line r line) holds (ap rows_told told) (rows_boot r line)
left_over held P t u r (lines.Session line) replies holds told =
    left_in_boot held P t u r (within (with_sessions r) (session_line r.sessions line)) holds (ap rows_told told) (rows_session r (session_line r.sessions line))
left_over held P t u r (lines.Commit n) replies holds told =
    left_by_commit held P t u r (commit_step r n (first_keeps replies.keeps)) holds (commit_refused r n (first_keeps replies.keeps) t u told)
    (holds_commit_step r n (first_keeps replies.keeps) t u holds.1 told)
left_over held P t u r (lines.Seat line) replies holds told =
    left_in_site held P u r (seat_over r line replies.keeps) holds.0 (left_seat r line replies.keeps t u holds.1 told)
left_over held P t u r lines.Reopen replies holds told =
    left_reopened held P t u r (next_opening r replies.again) holds
    (start_leaves r.boot.start.deployment (left_by_process r.boot.start.plans) r.boot.start.limits replies.again t u told)

left_on : (held : List RowWrite) (P : Start → Type 0) (t u : KeeperTold) (target : Target) (line : Line) (replies : Replies) → IsOn held P t target
    → TellsCalls (calls_on target line replies) (Some t) (Some u)
    → AreLinkedTo P (ends_on target line replies) (IsLeft held u (line_on target line replies))
left_on held P t u (TheHead head) line replies on told =
    left_in_head held P u head (head_line head line) (same_told (HoldsFirst held P) t u told on)
left_on held P t u (TheBoot r) line replies on told = left_over held P t u r line replies on told
left_on held P t u (TheUnstarted head refusal) line replies on told = same_told (HoldsFirst held P) t u told on

left_by_step : (held : List RowWrite) (P : Start → Type 0) (t u : KeeperTold) (s : State) (line : Line) (replies : Replies) → IsAt held P t s
    → TellsCalls (line_calls s line replies) (Some t) (Some u)
    → AreLinkedTo P (ended_boots s line replies) (IsLeft held u (step s line replies))
unfolding step line_calls ended_boots
left_by_step held P t u s line replies at told =
    let target : Target = target_of s (is_event line) replies.first in
    let two : Halves (target_calls s (is_event line) replies.first) (calls_on target line replies) t u =
    halves (target_calls s (is_event line) replies.first) (calls_on target line replies) t u told in
    left_on held P two.half u target line replies
    (on_target held P s (is_event line) replies.first t two.half at two.before) two.after

left_by_answer : (held : List RowWrite) (P : Start → Type 0) (t u : KeeperTold) (s : State) (o : Option Line) (replies : Replies) → IsAt held P t s
    → TellsCalls (calls_to s o replies) (Some t) (Some u)
    → AreLinkedTo P (ends_to s o replies) (IsLeft held u (answer_to s o replies))
left_by_answer held P t u s None replies at told = same_told (λ v. IsAt held P v s) t u told at
left_by_answer held P t u s (Some line) replies at told = left_by_step held P t u s line replies at told

left_by_turn : (held : List RowWrite) (P : Start → Type 0) (t u : KeeperTold) (s : State) (turn : Turn) → IsAt held P t s
    → TellsCalls (turn_calls s turn) (Some t) (Some u)
    → AreLinkedTo P (turn_ends s turn) (IsLeft held u (turn_outcome s turn))
unfolding turn_outcome turn_calls turn_ends
left_by_turn held P t u s turn at told = left_by_answer held P t u s (line_of turn.line) turn.replies at told

-- all turns

linked-append : (P : Start → Type 0) (bs cs : List BootValue) (Q : (Start → Type 0) → Type 0) → AreLinkedTo P bs Q
    → ((later : Start → Type 0) → Q later → AreLinked later cs) → AreLinked P (bs ++ cs)
linked-append P [] cs Q linked on = on P linked
linked-append P (b ∷ bs) cs Q linked on = (linked.0, linked-append (GoesOn b) bs cs Q linked.1 on)

linked_left : (P : Start → Type 0) (bs : List BootValue) (Q : (Start → Type 0) → Type 0) (R : Type 0) → AreLinkedTo P bs Q
    → ((later : Start → Type 0) → Q later → R) → R
linked_left P [] Q R linked on = on P linked
linked_left P (b ∷ bs) Q R linked on = linked_left (GoesOn b) bs Q R linked.1 on

linked_in : (held : List RowWrite) (P : Start → Type 0) (t : KeeperTold) (s : State) → IsAt held P t s → AreLinked P (boots_in s)
linked_in held P t (Heading head) at = tt
linked_in held P t (Running r) at = (at.0, tt)

linked_all : (held : List RowWrite) (P : Start → Type 0) (t u : KeeperTold) (s : State) (turns : List Turn) → IsAt held P t s
    → TellsCalls (calls_from s turns) (Some t) (Some u) → AreLinked P (boots_from s turns)
linked_all held P t u s [] at told = linked_in held P t s at
linked_all held P t u s (turn ∷ turns) at told =
    go (nat_lt MAX_LINE_BYTES (length turn.line)) (turn_outcome s turn) (λ v made. left_by_turn held P t v s turn at made)
    (λ later v next there. linked_all held later v u next turns there) told
  where
    go : (long : Bool) (o : Outcome)
        → ((v : KeeperTold) → TellsCalls (turn_calls s turn) (Some t) (Some v) → AreLinkedTo P (turn_ends s turn) (IsLeft held v o))
        → ((later : Start → Type 0) (v : KeeperTold) (next : State) → IsAt held later v next → TellsCalls (calls_from next turns) (Some v) (Some u) → AreLinked later (boots_from next turns))
        → TellsCalls (if long then [] else (turn_calls s turn ++ (elim o [
          | RefusedIn t ↦ []
          | DoneTo t text ↦ calls_from t turns
          | UnstartedIn t refusal ↦ []
          | UnderWayIn t ↦ []
        ]))) (Some t) (Some u)
        → AreLinked P (if long then boots_in s else (turn_ends s turn ++ (elim o [
          | RefusedIn t ↦ boots_in t
          | DoneTo t text ↦ boots_from t turns
          | UnstartedIn t refusal ↦ boots_in t
          | UnderWayIn t ↦ boots_in t
        ])))
    go true o one all told = linked_in held P t s at
    go false (RefusedIn next) one all told =
        let two : Halves (turn_calls s turn) [] t u = halves (turn_calls s turn) [] t u told in
        linked-append P (turn_ends s turn) (boots_in next) (IsLeft held two.half (RefusedIn next)) (one two.half two.before)
        (λ later there. linked_in held later two.half next there)
    go false (DoneTo next text) one all told =
        let two : Halves (turn_calls s turn) (calls_from next turns) t u = halves (turn_calls s turn) (calls_from next turns) t u told in
        linked-append P (turn_ends s turn) (boots_from next turns) (IsLeft held two.half (DoneTo next text)) (one two.half two.before)
        (λ later there. all later two.half next there two.after)
    go false (UnstartedIn next refusal) one all told =
        let two : Halves (turn_calls s turn) [] t u = halves (turn_calls s turn) [] t u told in
        linked-append P (turn_ends s turn) (boots_in next) (IsLeft held two.half (UnstartedIn next refusal)) (one two.half two.before)
        (λ later there. linked_in held later two.half next there)
    go false (UnderWayIn next) one all told =
        let two : Halves (turn_calls s turn) [] t u = halves (turn_calls s turn) [] t u told in
        linked-append P (turn_ends s turn) (boots_in next) (IsLeft held two.half (UnderWayIn next)) (one two.half two.before)
        (λ later there. linked_in held later two.half next there)

-- the rows that are held at the end
abbrev HoldsAtEnd : List RowWrite → KeeperTold → State → Type 0
HoldsAtEnd held t (Heading head) = t.rows ≡ held
HoldsAtEnd held t (Running r) = t.rows ≡ rows_after r.boot.start.base r.boot.entries

held_at : (held : List RowWrite) (P : Start → Type 0) (t : KeeperTold) (s : State) → IsAt held P t s → HoldsAtEnd held t s
held_at held P t (Heading head) at = at.1
held_at held P t (Running r) at = at.1

held_all : (held : List RowWrite) (P : Start → Type 0) (t u : KeeperTold) (s : State) (n : ℕ) (turns : List Turn) → IsAt held P t s
    → TellsCalls (calls_from s turns) (Some t) (Some u) → HoldsAtEnd held u (last_state (end_from s n turns))
held_all held P t u s n [] at told = held_at held P u s (same_told (λ v. IsAt held P v s) t u told at)
held_all held P t u s n (turn ∷ turns) at told =
    go (nat_lt MAX_LINE_BYTES (length turn.line)) (turn_outcome s turn) (λ v made. left_by_turn held P t v s turn at made)
    (λ later v next there. held_all held later v u next (n + 1) turns there) told
  where
    -- at a line that ends the scenario
    ends : (o : Outcome) (next : State)
        → ((v : KeeperTold) → TellsCalls (turn_calls s turn) (Some t) (Some v) → AreLinkedTo P (turn_ends s turn) (IsLeft held v o))
        → ((later : Start → Type 0) (v : KeeperTold) → IsLeft held v o later → IsAt held later v next)
        → TellsCalls (turn_calls s turn ++ []) (Some t) (Some u) → HoldsAtEnd held u next
    ends o next one is told =
        let two : Halves (turn_calls s turn) [] t u = halves (turn_calls s turn) [] t u told in
        linked_left P (turn_ends s turn) (IsLeft held two.half o) (HoldsAtEnd held u next) (one two.half two.before)
        (λ later there. held_at held later u next (same_told (λ v. IsAt held later v next) two.half u two.after (is later two.half there)))

    go : (long : Bool) (o : Outcome)
        → ((v : KeeperTold) → TellsCalls (turn_calls s turn) (Some t) (Some v) → AreLinkedTo P (turn_ends s turn) (IsLeft held v o))
        → ((later : Start → Type 0) (v : KeeperTold) (next : State) → IsAt held later v next → TellsCalls (calls_from next turns) (Some v) (Some u) → HoldsAtEnd held u (last_state (end_from next (n + 1) turns)))
        → TellsCalls (if long then [] else (turn_calls s turn ++ (elim o [
          | RefusedIn t ↦ []
          | DoneTo t text ↦ calls_from t turns
          | UnstartedIn t refusal ↦ []
          | UnderWayIn t ↦ []
        ]))) (Some t) (Some u)
        → HoldsAtEnd held u (last_state (if long then TooLong s n else (elim o [
          | RefusedIn t ↦ RefusedAt t n
          | DoneTo t text ↦ end_from t (n + 1) turns
          | UnstartedIn t refusal ↦ Unstarted t refusal
          | UnderWayIn t ↦ UnderWay t n
        ])))
    go true o one all told = held_at held P u s (same_told (λ v. IsAt held P v s) t u told at)
    go false (RefusedIn next) one all told = ends (RefusedIn next) next one (λ later v there. there) told
    go false (DoneTo next text) one all told =
        let two : Halves (turn_calls s turn) (calls_from next turns) t u = halves (turn_calls s turn) (calls_from next turns) t u told in
        linked_left P (turn_ends s turn) (IsLeft held two.half (DoneTo next text)) (HoldsAtEnd held u (last_state (end_from next (n + 1) turns))) (one two.half two.before)
        (λ later there. all later two.half next there two.after)
    go false (UnstartedIn next refusal) one all told = ends (UnstartedIn next refusal) next one (λ later v there. there) told
    go false (UnderWayIn next) one all told = ends (UnderWayIn next) next one (λ later v there. there) told

-- the rows at the end, of a keeper that tells or not

end_rows : (t u : KeeperTold) (s : State) → HoldsAtEnd t.rows u s → HoldsStateRows (Some t) (Some u) s
end_rows t u (Heading head) holds = holds
end_rows t u (Running r) holds = holds

no_rows : (old : Option KeeperTold) (s : State) → HoldsStateRows old None s
no_rows None (Heading head) = tt
no_rows (Some t) (Heading head) = tt
no_rows old (Running r) = tt

no_chain : (old : Option KeeperTold) (bs : List BootValue) → IsChained old None bs
no_chain None bs = tt
no_chain (Some t) bs = tt

-- where a keeper tells nothing at first, it tells nothing in the end
pub turns_tell : (turns : List Turn) (old new : Option KeeperTold) → All IsSound (boots_from first turns) → TellsCalls (calls_from first turns) old new → Tells turns old new
turns_tell turns old None sound told = record {
  rows = no_rows old (last_state (end_from first 1 turns));
  chained = no_chain old (boots_from first turns);
}
turns_tell turns None (Some u) sound told = absurd (cc (none_after (calls_from first turns) (Some u) told))
turns_tell turns (Some t) (Some u) sound told =
    let begins : IsAt t.rows (IsOver t.rows) t first = (λ start over. over, refl) in
    record {
      rows = end_rows t u (last_state (end_from first 1 turns)) (held_all t.rows (IsOver t.rows) t u first 1 turns begins told);
      chained = chained_over t.rows (boots_from first turns) sound (linked_all t.rows (IsOver t.rows) t u first turns begins told);
    }
