-- Each commit of a boot is of a request of its own.
use Rattle.std.proofs.Common.{◌≡◌, ℕ, ◌+◌, ◌-◌, Bool, true, inl, inr, List, [], length, Option, Some, None, refl, sym, ◌∙◌, subst}
use Rattle.std.specs.Prelude.{◌==◌, not, All, replicate, slice_set}
use Rattle.std.proofs.lemmas.Bool.{cases_lt}
use Rattle.std.proofs.lemmas.List.{get_or_past}
use Rattle.std.proofs.lemmas.List.Elements.{All-nil, All-append, All-push, All-replicate, All-set}
use Rattle.auction_rows.specs.Parts.{site_parts}
use Rattle.call_ticket.specs.Ticket.{TicketValue, ticket_kept, ticket_left}
use Rattle.crash_base.specs.declared.scope.Scope.{Scope}
use Rattle.deployment.specs.declared.parts.Parts.{Parts}
use Rattle.deployment.specs.Groups.{group_of}
use Rattle.deployment.specs.Parts.{component_no, named}
use Rattle.journal_model.specs.declared.entry.Entry.{Entry}
use Rattle.journal_model.specs.declared.entry.Entry.TheVariants.{Commit, Down, Up}
use Rattle.journal_model.specs.Calls.{entry_of, seen, listed}
use Rattle.journal_model.specs.Reboots.{undone_of}
use Rattle.journal_model.proofs.Places.{all_there}
use Rattle.boot_core.specs.Boot.{BootValue, new_boot, HasOnlyEntered, with_entered}
use Rattle.boot_core.specs.declared.boot.Start.{Start}
use Rattle.call_ticket.specs.Access.{may_enter}
use Rattle.boot_core.specs.Refusals.{enter_refusal, exit_refusal, read_refusal, list_refusal, put_refusal, reboot_refusal}
use Rattle.boot_core.specs.Steps.{ticket_entered, ticket_has_read, ticket_has_listed}
use Rattle.boot_core.specs.declared.refusals.CallRefusal.{CallRefusal}
use Rattle.boot_core.specs.declared.refusals.CommitRefusal.{CommitRefusal}
use Rattle.boot_core.specs.declared.refusals.RebootRefusal.{RebootRefusal}
use Rattle.scenario_text.specs.declared.boot_line.BootLine.{BootLine}
use Rattle.scenario_text.specs.declared.boot_line.BootLine.TheVariants as boots
use Rattle.scenario_text.specs.declared.call_line.CallLine.{CallLine}
use Rattle.scenario_text.specs.declared.call_line.CallLine.TheVariants as calls
use Rattle.line_steps.specs.declared.callers.Caller.{Caller}
use Rattle.line_steps.specs.declared.callers.Caller.TheVariants.{Absent, Live}
use Rattle.session_steps.specs.Sessions.{SessionsState, session_line}
use Rattle.scenario_text.specs.Answer.{Answer, Refused, Done, refused_if, or_refused, within}
use Rattle.line_steps.specs.CallLines.{step_answer, row, row_id, rows_then, enter_step, exit_step, read_step, list_step, put_step, call_line, CallDone, done_within}
use Rattle.line_steps.specs.Callers.{caller_at, padded, can_begin, new_ticket, caller_line, begin_step, call_step, ended}
use Rattle.line_steps.specs.Head.{IsOfSite, no_head}
use Rattle.line_steps.specs.Tables.{table_of}
use Rattle.line_steps.specs.Texts.{row_answer_text, list_answer_text}
use Rattle.line_steps.proofs.Stepping.{is_outside}
use Rattle.scenario_text.proofs.Leaving.{Leaves, leaves-refused_if, leaves-or_refused, leaves-within, leaves-weaker}
use Rattle.seat_laws.specs.Fitting.{CommitsAtMost, SeatFits}
use Rattle.seat_lines.specs.Giving.{sessions_given_back, without_seats}
use Rattle.seat_lines.specs.Site.{SeatsState, no_seats}
use Rattle.seat_steps.specs.Seats.{SeatGivens, SeatWorld, seat_step}
use Rattle.seat_steps.specs.declared.seat.Seat.{Seat}
use Rattle.scenario_text.specs.declared.seat_line.SeatLine.{SeatLine}
use Rattle.session_steps.specs.Setup.{set_up}
use Rattle.scenario_engine.specs.Opening.{Opening}
use Rattle.scenario_engine.specs.Seats.{seat_over}
use Rattle.scenario_engine.specs.Running.{started, with_callers, with_sessions, with_boot_entry, commit_ends, with_keeper, boot_refusal, caller_commits, caller_drops, commit_step, drop_step, scope_of, goes_down, reboots, down_step, up_step, reboot_step, table_step, journal_step, boot_line, with_called}
use Rattle.scenario_engine.specs.Sound.{CommitsOwnRequests}
use Rattle.scenario_engine.specs.State.{RunningState}
use Rattle.scenario_engine.specs.Transcript.{Turn, first, boots_from}
use Rattle.scenario_engine.proofs.Keeping.{HoldsIn, Keeps, LeavesTo, kept_boots}
use Rattle.scenario_engine.proofs.OfSite.{OpensOver, of_head, opens_over, leaves_both}
use Rattle.scenario_engine.proofs.SeatsFit.{IfFits, SeatLaws, SeatsFit, fits_entry, fits_seat, fits_grown}
use Rattle.component_pool.specs.Plans.{left_by_process}
use Rattle.scenario_engine.proofs.Entered.{entered_once}
use Rattle.line_steps.proofs.Fitting.{grown_entered}
use Rattle.line_steps.proofs.Called.{call_enters, HasEntered}
use Rattle.scenario_engine.proofs.Reported.{leaves_report}

-- the call of a ticket makes a request of this boot
abbrev IsOwn : ℕ → TicketValue → Type 0
IsOwn boot ticket = ticket.call.request.boot ≡ boot

abbrev OwnCaller : ℕ → Caller → Type 0
OwnCaller boot Absent = Unit {0}
OwnCaller boot (Live ticket) = IsOwn boot ticket

-- an entry commits no request of another boot
abbrev OwnEntry : ℕ → Entry → Type 0
OwnEntry boot (Commit e) = e.request.boot ≡ boot
OwnEntry boot (Down s) = Unit {0}
OwnEntry boot (Up s) = Unit {0}

-- so does the ticket that a line of a call left
abbrev OwnDone : ℕ → CallDone TicketValue → Type 0
OwnDone boot done = IsOwn boot done.left

-- so do the entries of a boot, and its callers; at the site each connection fits the boot
record IsOwnRun (r : RunningState) : Type 0 where
  entries : All (OwnEntry r.boot.start.boot) r.boot.entries
  callers : All (OwnCaller r.boot.start.boot) r.callers
  seats : r.site ≡ true → SeatsFit r.boot r.seats.seats

-- one call

own_step : (b : BootValue) (boot caller : ℕ) (ticket next : TicketValue) (now : BootValue) (text : List ℕ) (refusal : Option CallRefusal) → IsOwn boot ticket → IsOwn boot next → Leaves (OwnDone boot) (step_answer b caller ticket refusal now next text)
own_step b boot caller ticket next now text None own after = after
own_step b boot caller ticket next now text (Some refusal) own after = own

own_judged : (b : BootValue) (boot caller : ℕ) (ticket next : TicketValue) (now : BootValue) (text : List ℕ) (refusal : Option CallRefusal) (shut : Bool) → IsOwn boot ticket → IsOwn boot next
    → Leaves (OwnDone boot) (refused_if shut (step_answer b caller ticket refusal now next text))
own_judged b boot caller ticket next now text refusal shut own after =
    leaves-refused_if (OwnDone boot) shut (step_answer b caller ticket refusal now next text) (λ free. own_step b boot caller ticket next now text refusal own after)

-- a step that needs a component or a table, which is found by this number
own_found : (b : BootValue) (boot caller : ℕ) (ticket : TicketValue) (o : Option ℕ) (next : ℕ → TicketValue) (now : ℕ → BootValue) (text : ℕ → List ℕ) (refusal : ℕ → Option CallRefusal) (shut : ℕ → Bool) → IsOwn boot ticket → ((x : ℕ) → IsOwn boot (next x))
    → Leaves (OwnDone boot) (or_refused o (λ x. refused_if (shut x) (step_answer b caller ticket (refusal x) (now x) (next x) (text x))))
own_found b boot caller ticket o next now text refusal shut own after =
    leaves-or_refused (OwnDone boot) o (λ x. refused_if (shut x) (step_answer b caller ticket (refusal x) (now x) (next x) (text x))) (λ x is.
    own_judged b boot caller ticket (next x) (now x) (text x) (refusal x) (shut x) own (after x))

own_enter : (b : BootValue) (boot caller : ℕ) (ticket : TicketValue) (name : List ℕ) → IsOwn boot ticket → Leaves (OwnDone boot) (enter_step b caller ticket name)
unfolding enter_step
own_enter b boot caller ticket name own =
    let parts = b.start.deployment in
    own_found b boot caller ticket (named parts.components name)
    (λ x. ticket_entered b.entries (group_of parts x) (component_no x) ticket)
    (λ x. with_entered b (component_no x))
    (λ x. [])
    (λ x. enter_refusal b ticket.call (component_no x))
    (λ x. not (may_enter parts ticket.call (component_no x))) own (λ x. own)

own_exit : (b : BootValue) (boot caller : ℕ) (ticket : TicketValue) → IsOwn boot ticket → Leaves (OwnDone boot) (exit_step b caller ticket)
unfolding exit_step
own_exit b boot caller ticket own =
    own_judged b boot caller ticket (ticket_left ticket) b [] (exit_refusal b.entries ticket.call) (length ticket.call.frames == 0) own own

own_read : (b : BootValue) (boot caller : ℕ) (ticket : TicketValue) (number key : ℕ) → IsOwn boot ticket → Leaves (OwnDone boot) (read_step b caller ticket number key)
unfolding read_step
own_read b boot caller ticket number key own =
    own_found b boot caller ticket (table_of number)
    (λ table. ticket_has_read (rows_then b ticket) (row_id table key) ticket)
    (λ table. b)
    (λ table. row_answer_text caller (seen (rows_then b ticket) ticket.call.writes (row_id table key)))
    (λ table. read_refusal b.entries ticket.call (row_id table key))
    (is_outside b ticket) own (λ table. own)

own_list : (b : BootValue) (boot caller : ℕ) (ticket : TicketValue) (number : ℕ) → IsOwn boot ticket → Leaves (OwnDone boot) (list_step b caller ticket number)
unfolding list_step
own_list b boot caller ticket number own =
    own_found b boot caller ticket (table_of number)
    (λ table. ticket_has_listed table ticket)
    (λ table. b)
    (λ table. list_answer_text caller (listed (rows_then b ticket) ticket.call.writes table))
    (λ table. list_refusal b.entries ticket.call table)
    (is_outside b ticket) own (λ table. own)

own_put : (b : BootValue) (boot caller : ℕ) (ticket : TicketValue) (number key : ℕ) (bytes : List ℕ) → IsOwn boot ticket → Leaves (OwnDone boot) (put_step b caller ticket number key bytes)
unfolding put_step
own_put b boot caller ticket number key bytes own =
    own_found b boot caller ticket (table_of number)
    (λ table. ticket_kept (row table key bytes) ticket)
    (λ table. b)
    (λ table. [])
    (λ table. put_refusal b.entries ticket.call (row_id table key))
    (is_outside b ticket) own (λ table. own)

own_call_line : (b : BootValue) (boot caller : ℕ) (line : CallLine) (ticket : TicketValue) → IsOwn boot ticket → Leaves (OwnDone boot) (call_line b caller ticket line)
own_call_line b boot caller (calls.Enter name) ticket own = own_enter b boot caller ticket name own
own_call_line b boot caller calls.Exit ticket own = own_exit b boot caller ticket own
own_call_line b boot caller (calls.Read table key) ticket own = own_read b boot caller ticket table key own
own_call_line b boot caller (calls.List table) ticket own = own_list b boot caller ticket table own
own_call_line b boot caller (calls.Put table key bytes) ticket own = own_put b boot caller ticket table key bytes own

own_caller_line : (b : BootValue) (boot n : ℕ) (line : CallLine) (caller : Caller) → OwnCaller boot caller → Leaves (λ (done : CallDone Caller). OwnCaller boot done.left) (caller_line b n line caller)
own_caller_line b boot n line Absent own = tt
own_caller_line b boot n line (Live ticket) own =
    leaves-within (λ (done : CallDone Caller). OwnCaller boot done.left) (done_within (λ t. Live t)) (call_line b n ticket line) (own_call_line b boot n line ticket own)

-- callers

own_at : (boot : ℕ) (callers : List Caller) (n : ℕ) → All (OwnCaller boot) callers → OwnCaller boot (caller_at callers n)
own_at boot callers n all = elim (cases_lt n (length callers)) [
  | inl within ↦ all n Absent within
  | inr past ↦ (let P : Caller → Type 0 = λ x. OwnCaller boot x in subst P (sym (get_or_past callers n Absent past)) tt)
]

own_callers : (r : RunningState) (a : Answer (List Caller)) → IsOwnRun r → Leaves (All (OwnCaller r.boot.start.boot)) a → Leaves IsOwnRun (within (with_callers r) a)
own_callers r a run h =
    leaves-within IsOwnRun (with_callers r) a
    (leaves-weaker (All (OwnCaller r.boot.start.boot)) (λ callers. IsOwnRun (with_callers r callers)) a (λ callers own. record { entries = run.entries; callers = own; seats = run.seats }) h)

own_begin : (r : RunningState) (n : ℕ) → IsOwnRun r → Leaves IsOwnRun (within (with_callers r) (begin_step r.boot r.callers n))
unfolding begin_step
own_begin r n run =
    let P : Caller → Type 0 = OwnCaller r.boot.start.boot in
    let more : ℕ = n + 1 - length r.callers in
    let all : All P (padded r.callers n) = All-append P r.callers (replicate more Absent) run.callers (All-replicate P more Absent tt) in
    own_callers r _ run
    (leaves-refused_if (All P) (not (can_begin r.callers n)) (Done (slice_set (padded r.callers n) n (Live (new_ticket r.boot n))) []) (λ free.
    All-set P (padded r.callers n) n (Live (new_ticket r.boot n)) refl all))

-- a line of a call leaves callers of the boot's own requests
own_call_step : (b : BootValue) (boot : ℕ) (callers : List Caller) (n : ℕ) (line : CallLine) → All (OwnCaller boot) callers → Leaves (λ (done : CallDone (List Caller)). All (OwnCaller boot) done.left) (call_step b callers n line)
unfolding call_step
own_call_step b boot callers n line own =
    let P : Caller → Type 0 = OwnCaller boot in
    let Q : CallDone (List Caller) → Type 0 = λ done. All P done.left in
    let whole : CallDone Caller → CallDone (List Caller) = done_within (slice_set callers n) in
    let a : Answer (CallDone Caller) = caller_line b n line (caller_at callers n) in
    leaves-within Q whole a
    (leaves-weaker (λ (done : CallDone Caller). P done.left) (λ done. Q (whole done)) a (λ done its. All-set P callers n done.left its own)
    (own_caller_line b boot n line (caller_at callers n) (own_at boot callers n own)))

own_called : (seats : SeatLaws) (r : RunningState) (done : CallDone (List Caller)) → HasOnlyEntered r.boot done.boot → All (OwnCaller r.boot.start.boot) done.left → IsOwnRun r → IsOwnRun (with_called r done)
own_called seats r done is own run = record {
  entries = subst (λ (b : BootValue). All (OwnEntry b.start.boot) b.entries) (sym is) run.entries;
  callers = subst (λ (b : BootValue). All (OwnCaller b.start.boot) done.left) (sym is) own;
  seats = λ at. fits_grown seats r.boot done.boot r.seats.seats (grown_entered r.boot done.boot is) (run.seats at);
}

own_call : (seats : SeatLaws) (r : RunningState) (n : ℕ) (line : CallLine) → IsOwnRun r → Leaves IsOwnRun (within (with_called r) (call_step r.boot r.callers n line))
own_call seats r n line run =
    let a : Answer (CallDone (List Caller)) = call_step r.boot r.callers n line in
    let Own : CallDone (List Caller) → Type 0 = λ done. All (OwnCaller r.boot.start.boot) done.left in
    leaves-within IsOwnRun (with_called r) a
    (leaves-weaker (λ done. HasEntered r.boot done × Own done) (λ done. IsOwnRun (with_called r done)) a (λ done both. own_called seats r done both.0 both.1 run)
    (leaves_both (HasEntered r.boot) Own a (call_enters r.boot r.callers n line) (own_call_step r.boot r.boot.start.boot r.callers n line run.callers)))

-- a caller's call ends
own_ended : (r : RunningState) (n : ℕ) → IsOwnRun r → IsOwnRun (with_callers r (ended r.callers n))
own_ended r n run = record { entries = run.entries; callers = All-set (OwnCaller r.boot.start.boot) r.callers n Absent tt run.callers; seats = run.seats }

-- the journal has one entry more
own_entry : (seats : SeatLaws) (r : RunningState) (e : Entry) → OwnEntry r.boot.start.boot e → IsOwnRun r → IsOwnRun (with_boot_entry r e)
own_entry seats r e own run = record {
  entries = All-push (OwnEntry r.boot.start.boot) r.boot.entries e run.entries own;
  callers = run.callers;
  seats = λ is. fits_entry seats r.boot e r.seats.seats (run.seats is);
}

-- commits

own_commit_ends : (seats : SeatLaws) (r : RunningState) (n : ℕ) (ticket : TicketValue) (refusal : Option CommitRefusal) → IsOwn r.boot.start.boot ticket → IsOwnRun r → Leaves IsOwnRun (commit_ends r n ticket refusal)
own_commit_ends seats r n ticket None own run =
    own_entry seats (with_callers r (ended r.callers n)) (Commit (entry_of ticket.call None)) own (own_ended r n run)
own_commit_ends seats r n ticket (Some refusal) own run = record { entries = run.entries; callers = All-set (OwnCaller r.boot.start.boot) r.callers n Absent tt run.callers; seats = run.seats }

own_caller_commits : (seats : SeatLaws) (r : RunningState) (n : ℕ) (keeps : Bool) (caller : Caller) → OwnCaller r.boot.start.boot caller → IsOwnRun r → Leaves IsOwnRun (caller_commits r n keeps caller)
own_caller_commits seats r n keeps Absent own run = tt
own_caller_commits seats r n keeps (Live ticket) own run =
    own_commit_ends seats r n ticket (with_keeper (boot_refusal r ticket) ticket.call.writes keeps) own run

own_commit : (seats : SeatLaws) (r : RunningState) (n : ℕ) (keeps : Bool) → IsOwnRun r → Leaves IsOwnRun (commit_step r n keeps)
unfolding commit_step
own_commit seats r n keeps run = own_caller_commits seats r n keeps (caller_at r.callers n) (own_at r.boot.start.boot r.callers n run.callers) run

own_caller_drops : (r : RunningState) (n : ℕ) (caller : Caller) → IsOwnRun r → Leaves IsOwnRun (caller_drops r n caller)
own_caller_drops r n Absent run = tt
own_caller_drops r n (Live ticket) run = own_ended r n run

own_drop : (r : RunningState) (n : ℕ) → IsOwnRun r → Leaves IsOwnRun (drop_step r n)
unfolding drop_step
own_drop r n run = own_caller_drops r n (caller_at r.callers n) run

-- reboots

own_goes_down : (seats : SeatLaws) (r : RunningState) (s : Scope) (refusal : Option RebootRefusal) → IsOwnRun r → Leaves IsOwnRun (goes_down r s refusal)
own_goes_down seats r s None run = own_entry seats r (Down s) tt run
own_goes_down seats r s (Some refusal) run = run

own_down : (seats : SeatLaws) (r : RunningState) (name : List ℕ) → IsOwnRun r → Leaves IsOwnRun (down_step r name)
unfolding down_step
own_down seats r name run =
    leaves-or_refused IsOwnRun (scope_of r.boot.start.deployment name) _ (λ s known.
    own_goes_down seats r s (reboot_refusal r.boot.start.limits r.boot.entries s) run)

own_up : (seats : SeatLaws) (r : RunningState) (name : List ℕ) → IsOwnRun r → Leaves IsOwnRun (up_step r name)
unfolding up_step
own_up seats r name run =
    leaves-or_refused IsOwnRun (scope_of r.boot.start.deployment name) _ (λ s known.
    leaves-or_refused IsOwnRun (undone_of r.boot.entries s) _ (λ place found. own_entry seats r (Up s) tt run))

own_reboots : (seats : SeatLaws) (r : RunningState) (s : Scope) (refusal : Option RebootRefusal) → IsOwnRun r → Leaves IsOwnRun (reboots r s refusal)
own_reboots seats r s None run = own_entry seats (with_boot_entry r (Down s)) (Up s) tt (own_entry seats r (Down s) tt run)
own_reboots seats r s (Some refusal) run = run

own_reboot : (seats : SeatLaws) (r : RunningState) (name : List ℕ) → IsOwnRun r → Leaves IsOwnRun (reboot_step r name)
unfolding reboot_step
own_reboot seats r name run =
    leaves-or_refused IsOwnRun (scope_of r.boot.start.deployment name) _ (λ s known.
    own_reboots seats r s (reboot_refusal r.boot.start.limits r.boot.entries s) run)

own_session : (r : RunningState) (a : Answer SessionsState) → IsOwnRun r → Leaves IsOwnRun (within (with_sessions r) a)
own_session r Refused run = tt
own_session r (Done sessions text) run = record { entries = run.entries; callers = run.callers; seats = run.seats }

own_boot : (seats : SeatLaws) (r : RunningState) (line : BootLine) → IsOwnRun r → Leaves IsOwnRun (boot_line r line)
unfolding table_step journal_step
own_boot seats r (boots.Begin c) run = own_begin r c run
own_boot seats r (boots.Drop c) run = own_drop r c run
own_boot seats r (boots.Down name) run = own_down seats r name run
own_boot seats r (boots.Up name) run = own_up seats r name run
own_boot seats r (boots.Reboot name) run = own_reboot seats r name run
own_boot seats r boots.Table run = run
own_boot seats r boots.Journal run = run
own_boot seats r (boots.Report names) run =
    leaves_report IsOwnRun r names (λ manager. record { entries = run.entries; callers = run.callers; seats = run.seats })

-- a boot that was just started over these parts has no entry yet, no caller and no connection
own_started : (sessions : SessionsState) (old : SeatsState) (site : Bool) (start : Start) (parts : Parts) → (site ≡ true → parts ≡ site_parts) → start.deployment ≡ parts
    → IsOwnRun (started sessions (without_seats old) site start)
own_started sessions old site start parts its over = record {
  entries = All-nil (OwnEntry start.boot);
  callers = All-nil (OwnCaller start.boot);
  seats = λ is. record { of_site = over ∙ its is; fits = All-nil (IfFits (new_boot start)) };
}

-- what each step of a connection that fits keeps, over these callers
abbrev OwnWith : List Caller → BootValue → Type 0
OwnWith callers b = All (OwnEntry b.start.boot) b.entries × All (OwnCaller b.start.boot) callers

own_at_seats : (seats : SeatLaws) (callers : List Caller) (g : SeatGivens) (seat : Seat) (w : SeatWorld) → SeatFits w.boot seat → OwnWith callers w.boot → OwnWith callers (seat_step g seat w).world.boot
own_at_seats seats callers g seat w fits run = go (seat_step g seat w).world.boot (seats.commits g seat w fits)
  where
    go : (now : BootValue) → CommitsAtMost w.boot now → OwnWith callers now
    go now (inl enters) = subst (OwnWith callers) (sym (entered_once w.boot now enters)) run
    go now (inr commit) =
        let e : Entry = Commit (entry_of commit.call (Some commit.action)) in
        subst (OwnWith callers) (sym commit.added) (All-push (OwnEntry w.boot.start.boot) w.boot.entries e run.0 commit.is_own.own, run.1)

own_seats : (seats : SeatLaws) (r : RunningState) (line : SeatLine) (replies : List Bool) → IsOwnRun r → LeavesTo (HoldsIn IsOfSite IsOwnRun) (seat_over r line replies)
own_seats seats r line replies run =
    let P : BootValue → Type 0 = OwnWith r.callers in
    fits_seat seats P (own_at_seats seats r.callers) IsOfSite IsOwnRun r run
    (λ v h. record { entries = h.0.0; callers = h.0.1; seats = λ is. h.1 }) line replies
    (λ is. ((run.entries, run.callers), run.seats is))

-- all turns

own_keeps : SeatLaws → Keeps IsOfSite IsOwnRun
own_keeps seats = record {
  heads = of_head;
  opens = (λ head replies start h opened.
      let P : Opening → Type 0 = OpensOver head.parts in
      own_started (set_up head.setup 0) (no_seats head.parts) head.site start head.parts h (subst P opened (opens_over head.parts head.plans head.limits replies)));
  reopens = (λ r replies start run opened.
      let P : Opening → Type 0 = OpensOver r.boot.start.deployment in
      own_started (sessions_given_back r.seats.seats r.sessions) r.seats r.site start r.boot.start.deployment (λ is. (run.seats is).of_site)
      (subst P opened (opens_over r.boot.start.deployment (left_by_process r.boot.start.plans) r.boot.start.limits replies)));
  commits = own_commit seats;
  calls = (λ r n line short run. own_call seats r n line run);
  boots = own_boot seats;
  sessions = (λ r line run. own_session r (session_line r.sessions line) run);
  seats = own_seats seats;
}

commits_own : (r : RunningState) → IsOwnRun r → CommitsOwnRequests r.boot
commits_own r run = λ place e there. all_there (OwnEntry r.boot.start.boot) r.boot.entries place (Commit e) run.entries there

first_of_site : IsOfSite no_head
first_of_site = λ is. absurd (cc)

pub own_in_all : (seats : SeatLaws) (turns : List Turn) → All CommitsOwnRequests (boots_from first turns)
own_in_all seats turns = kept_boots IsOfSite IsOwnRun CommitsOwnRequests (own_keeps seats) commits_own first turns first_of_site
