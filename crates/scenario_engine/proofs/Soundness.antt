-- Each boot of a scenario is sound, whatever the turns are.
use Rattle.std.proofs.Common.{◌≡◌, inl, inr, ℕ, Bool, true, false, cond, List, length, Option, Some, None, option_map, refl, sym, ◌∙◌, subst, arith}
use Rattle.std.specs.Prelude.{All, bytes_eq, slice_get}
use Rattle.std.proofs.lemmas.List.Elements.{All-nil, All-weaker}
use Rattle.auction_rows.specs.Parts.{site_parts}
use Rattle.call_ticket.specs.Ticket.{TicketValue}
use Rattle.commit_journal.specs.Journal.{IsScope}
use Rattle.crash_base.specs.declared.names.TheConstants.{APPLICATION}
use Rattle.crash_base.specs.declared.rows.RowWrite.{RowWrite}
use Rattle.crash_base.specs.declared.scope.Scope.{Scope}
use Rattle.crash_base.specs.declared.scope.Scope.TheVariants.{Group, App}
use Rattle.deployment.specs.declared.parts.Parts.{Parts}
use Rattle.deployment.specs.Groups.{group_no, group_of}
use Rattle.deployment.specs.Parts.{named}
use Rattle.journal_model.specs.declared.entry.ActionEntry.{ActionEntry}
use Rattle.journal_model.specs.declared.entry.CommitEntry.{CommitEntry}
use Rattle.journal_model.specs.declared.entry.Entry.{Entry}
use Rattle.journal_model.specs.declared.entry.Entry.TheVariants.{Commit, Down, Up}
use Rattle.journal_model.specs.Calls.{Call, entry_of}
use Rattle.journal_model.specs.Legal.{IsLegal}
use Rattle.journal_model.specs.Reboots.{IsUndone, undone_of}
use Rattle.journal_model.specs.Revoked.{IsUnrebooted}
use Rattle.journal_model.specs.Serial.{IsSerial}
use Rattle.journal_model.proofs.Undone.{found_of}
use Rattle.boot_core.specs.declared.boot.Start.{Start}
use Rattle.boot_core.specs.Boot.{BootValue, new_boot, with_entry, HasGrown}
use Rattle.boot_core.specs.Fits.{FitsIn}
use Rattle.boot_core.specs.Refusals.{commit_refusal, reboot_refusal}
use Rattle.boot_core.specs.Sound.{IsSound}
use Rattle.boot_core.specs.declared.refusals.CommitRefusal.{CommitRefusal}
use Rattle.boot_core.specs.declared.refusals.RebootRefusal.{RebootRefusal}
use Rattle.scenario_text.specs.declared.boot_line.BootLine.{BootLine}
use Rattle.scenario_text.specs.declared.boot_line.BootLine.TheVariants as boots
use Rattle.scenario_text.specs.declared.call_line.CallLine.{CallLine}
use Rattle.line_steps.specs.declared.callers.Caller.{Caller}
use Rattle.line_steps.specs.declared.callers.Caller.TheVariants.{Absent, Live}
use Rattle.scenario_text.specs.Answer.{Answer, Refused, Done, within}
use Rattle.session_steps.specs.Sessions.{SessionsState, session_line}
use Rattle.session_steps.specs.Setup.{set_up}
use Rattle.line_steps.specs.Callers.{caller_at, begin_step, call_step, ended, AllFit, FitsCaller}
use Rattle.line_steps.proofs.FewParts.{AreFew, few_head}
use Rattle.line_steps.proofs.Fitting.{fit_set, fit_at, fit_after, fit_meanwhile, grown_entered}
use Rattle.scenario_text.proofs.Leaving.{Leaves, leaves-or_refused, leaves-within, leaves-weaker}
use Rattle.line_steps.proofs.Stepping.{GoOn, IsShortCall, fits_begin_step, goes_call_step, group_known}
use Rattle.line_steps.specs.Head.{IsOfSite, head_line, no_head}
use Rattle.line_steps.specs.declared.head.Head.{Head}
use Rattle.scenario_engine.proofs.Keeping.{HoldsIn, Keeps, LeavesTo, kept_boots, kept_at_end}
use Rattle.scenario_engine.proofs.OfSite.{OpensOver, leaves_both, of_head, opens_over}
use Rattle.scenario_engine.proofs.Rebooting.{undone_last}
use Rattle.scenario_engine.proofs.SeatsFit.{IfFits, SeatLaws, SeatsFit, fits_entry, fits_grown, fits_seat}
use Rattle.scenario_engine.specs.Opening.{Opening}
use Rattle.scenario_engine.specs.Running.{started, with_callers, with_called, with_sessions, with_boot_entry, commit_ends, with_keeper, boot_refusal, caller_commits, caller_drops, commit_step, drop_step, scope_of, goes_down, reboots, down_step, up_step, reboot_step, table_step, journal_step, boot_line}
use Rattle.scenario_engine.specs.Seats.{seat_over}
use Rattle.scenario_engine.specs.Sound.{CommitsUnrebooted, RunsSerially}
use Rattle.scenario_text.specs.declared.seat_line.SeatLine.{SeatLine}
use Rattle.seat_laws.specs.Fitting.{CommitsAtMost, SeatFits}
use Rattle.seat_lines.specs.Giving.{sessions_given_back, without_seats}
use Rattle.seat_lines.specs.Site.{SeatsState, no_seats}
use Rattle.seat_steps.specs.Seats.{SeatGivens, SeatWorld, seat_step}
use Rattle.seat_steps.specs.declared.seat.Seat.{Seat}
use Rattle.scenario_engine.specs.State.{RunningState}
use Rattle.scenario_engine.specs.Transcript.{Turn, first, boots_in, boots_from, end_from, last_state}
use Rattle.component_pool.specs.Plans.{left_by_process}
use Rattle.line_steps.specs.CallLines.{CallDone}
use Rattle.scenario_engine.proofs.Entered.{entered_once, sound_entered}
use Rattle.scenario_engine.proofs.Reported.{leaves_report}

-- What boots promise of themselves and of their calls.
pub record BootLaws : Type 0 where
  pub started : (start : Start) → IsSound (new_boot start)
  pub commit : (c : BootValue) (call : Call) (action : Option ActionEntry) → IsSound c → FitsIn c call → commit_refusal c.start.limits c.entries call action ≡ None → IsSound (with_entry c (Commit (entry_of call action)))
  pub down : (c : BootValue) (s : Scope) → IsSound c → IsScope s → reboot_refusal c.start.limits c.entries s ≡ None → IsSound (with_entry c (Down s))
  pub up : (c : BootValue) (s : Scope) (i : ℕ) → IsSound c → IsUndone c.entries i s → IsSound (with_entry c (Up s))

-- the boot is sound and has few components, each live call fits it, and at the site each connection does
pub record IsSoundRun (r : RunningState) : Type 0 where
  pub sound : IsSound r.boot
  pub few : AreFew r.boot.start.deployment
  pub fit : AllFit r.boot r.callers
  pub seats : r.site ≡ true → SeatsFit r.boot r.seats.seats

sound_callers : (r : RunningState) (a : Answer (List Caller)) → IsSoundRun r → Leaves (AllFit r.boot) a → Leaves IsSoundRun (within (with_callers r) a)
sound_callers r a run h =
    leaves-within IsSoundRun (with_callers r) a
    (leaves-weaker (AllFit r.boot) (λ callers. IsSoundRun (with_callers r callers)) a (λ callers fit. record { sound = run.sound; few = run.few; fit = fit; seats = run.seats }) h)

sound_begin : (r : RunningState) (n : ℕ) → IsSoundRun r → Leaves IsSoundRun (within (with_callers r) (begin_step r.boot r.callers n))
sound_begin r n run = sound_callers r (begin_step r.boot r.callers n) run (fits_begin_step r.boot r.callers n run.fit)

sound_called : SeatLaws → (r : RunningState) (done : CallDone (List Caller)) → GoOn r.boot done → IsSoundRun r → IsSoundRun (with_called r done)
sound_called seats r done goes run =
    let grown : HasGrown r.boot done.boot = grown_entered r.boot done.boot goes.entered in
    record {
      sound = sound_entered r.boot done.boot goes.entered run.sound;
      few = subst (λ (s : Start). AreFew s.deployment) (sym grown.start) run.few;
      fit = goes.fit;
      seats = λ is. fits_grown seats r.boot done.boot r.seats.seats grown (run.seats is);
    }

sound_call : SeatLaws → (r : RunningState) (n : ℕ) (line : CallLine) → IsShortCall line → IsSoundRun r → Leaves IsSoundRun (within (with_called r) (call_step r.boot r.callers n line))
sound_call seats r n line short run =
    let a : Answer (CallDone (List Caller)) = call_step r.boot r.callers n line in
    leaves-within IsSoundRun (with_called r) a
    (leaves-weaker (GoOn r.boot) (λ done. IsSoundRun (with_called r done)) a (λ done goes. sound_called seats r done goes run) (goes_call_step r.boot r.callers n line short run.few run.fit))

-- a caller's call ends

sound_ended : (r : RunningState) (n : ℕ) → IsSoundRun r → IsSoundRun (with_callers r (ended r.callers n))
sound_ended r n run = record { sound = run.sound; few = run.few; fit = fit_set r.boot r.callers n Absent tt run.fit; seats = run.seats }

-- a commit that is not refused is one that the boot does not refuse
with_keeper-none : (o : Option CommitRefusal) (ws : List RowWrite) (keeps : Bool) → with_keeper o ws keeps ≡ None → o ≡ None
with_keeper-none None ws keeps free = refl
with_keeper-none (Some refusal) ws keeps free = absurd (cc)

sound_commit_ends : (laws : BootLaws) (seats : SeatLaws) (r : RunningState) (n : ℕ) (ticket : TicketValue) (refusal : Option CommitRefusal) → (refusal ≡ None → boot_refusal r ticket ≡ None) → FitsIn r.boot ticket.call → IsSoundRun r → Leaves IsSoundRun (commit_ends r n ticket refusal)
sound_commit_ends laws seats r n ticket None free fits run =
    let e = Commit (entry_of ticket.call None) in
    record {
      sound = laws.commit r.boot ticket.call None run.sound fits (free refl);
      few = run.few;
      fit = fit_after r.boot e (ended r.callers n) (fit_set r.boot r.callers n Absent tt run.fit);
      seats = λ is. fits_entry seats r.boot e r.seats.seats (run.seats is);
    }
sound_commit_ends laws seats r n ticket (Some refusal) free fits run = record { sound = run.sound; few = run.few; fit = fit_set r.boot r.callers n Absent tt run.fit; seats = run.seats }

sound_caller_commits : (laws : BootLaws) (seats : SeatLaws) (r : RunningState) (n : ℕ) (keeps : Bool) (caller : Caller) → FitsCaller r.boot caller → IsSoundRun r → Leaves IsSoundRun (caller_commits r n keeps caller)
sound_caller_commits laws seats r n keeps Absent fits run = tt
sound_caller_commits laws seats r n keeps (Live ticket) fits run =
    sound_commit_ends laws seats r n ticket (with_keeper (boot_refusal r ticket) ticket.call.writes keeps)
    (with_keeper-none (boot_refusal r ticket) ticket.call.writes keeps) fits run

sound_commit : (laws : BootLaws) (seats : SeatLaws) (r : RunningState) (n : ℕ) (keeps : Bool) → IsSoundRun r → Leaves IsSoundRun (commit_step r n keeps)
unfolding commit_step
sound_commit laws seats r n keeps run = sound_caller_commits laws seats r n keeps (caller_at r.callers n) (fit_at r.boot r.callers n run.fit) run

sound_caller_drops : (r : RunningState) (n : ℕ) (caller : Caller) → IsSoundRun r → Leaves IsSoundRun (caller_drops r n caller)
sound_caller_drops r n Absent run = tt
sound_caller_drops r n (Live ticket) run = sound_ended r n run

sound_drop : (r : RunningState) (n : ℕ) → IsSoundRun r → Leaves IsSoundRun (drop_step r n)
unfolding drop_step
sound_drop r n run = sound_caller_drops r n (caller_at r.callers n) run

-- reboots

scope_known : (parts : Parts) (name : List ℕ) (s : Scope) → AreFew parts → scope_of parts name ≡ Some s → IsScope s
scope_known parts name s few found = go (bytes_eq name APPLICATION.now) (named parts.components name) refl found
  where
    go : (b : Bool) (o : Option ℕ) → named parts.components name ≡ o → cond b (Some App) (option_map (λ c. Group (group_no (group_of parts c))) o) ≡ Some s → IsScope s
    go true o is h = let P : Scope → Type 0 = λ r. IsScope r in let same : App ≡ s = cc in subst P same tt
    go false None is h = absurd (cc)
    go false (Some x) is h = let P : Scope → Type 0 = λ r. IsScope r in let same : Group (group_no (group_of parts x)) ≡ s = cc in subst P same (group_known parts name x few is)

sound_down_entry : (laws : BootLaws) (seats : SeatLaws) (r : RunningState) (s : Scope) → IsScope s → reboot_refusal r.boot.start.limits r.boot.entries s ≡ None → IsSoundRun r → IsSoundRun (with_boot_entry r (Down s))
sound_down_entry laws seats r s known free run = record {
  sound = laws.down r.boot s run.sound known free;
  few = run.few;
  fit = fit_after r.boot (Down s) r.callers run.fit;
  seats = λ is. fits_entry seats r.boot (Down s) r.seats.seats (run.seats is);
}

sound_up_entry : (laws : BootLaws) (seats : SeatLaws) (r : RunningState) (s : Scope) (i : ℕ) → IsUndone r.boot.entries i s → IsSoundRun r → IsSoundRun (with_boot_entry r (Up s))
sound_up_entry laws seats r s i undone run = record {
  sound = laws.up r.boot s i run.sound undone;
  few = run.few;
  fit = fit_after r.boot (Up s) r.callers run.fit;
  seats = λ is. fits_entry seats r.boot (Up s) r.seats.seats (run.seats is);
}

sound_goes_down : (laws : BootLaws) (seats : SeatLaws) (r : RunningState) (s : Scope) (refusal : Option RebootRefusal) → reboot_refusal r.boot.start.limits r.boot.entries s ≡ refusal → IsScope s → IsSoundRun r → Leaves IsSoundRun (goes_down r s refusal)
sound_goes_down laws seats r s None free known run = sound_down_entry laws seats r s known free run
sound_goes_down laws seats r s (Some refusal) free known run = run

sound_down : (laws : BootLaws) (seats : SeatLaws) (r : RunningState) (name : List ℕ) → IsSoundRun r → Leaves IsSoundRun (down_step r name)
unfolding down_step
sound_down laws seats r name run =
    leaves-or_refused IsSoundRun (scope_of r.boot.start.deployment name) (λ s. goes_down r s (reboot_refusal r.boot.start.limits r.boot.entries s)) (λ s found.
    sound_goes_down laws seats r s (reboot_refusal r.boot.start.limits r.boot.entries s) refl (scope_known r.boot.start.deployment name s run.few found) run)

sound_up : (laws : BootLaws) (seats : SeatLaws) (r : RunningState) (name : List ℕ) → IsSoundRun r → Leaves IsSoundRun (up_step r name)
unfolding up_step
sound_up laws seats r name run =
    leaves-or_refused IsSoundRun (scope_of r.boot.start.deployment name) _ (λ s known.
    leaves-or_refused IsSoundRun (undone_of r.boot.entries s) _ (λ place found.
    sound_up_entry laws seats r s place.0 (found_of r.boot.entries s place found) run))

sound_reboots : (laws : BootLaws) (seats : SeatLaws) (r : RunningState) (s : Scope) (refusal : Option RebootRefusal) → reboot_refusal r.boot.start.limits r.boot.entries s ≡ refusal → IsScope s → IsSoundRun r → Leaves IsSoundRun (reboots r s refusal)
sound_reboots laws seats r s None free known run = sound_up_entry laws seats (with_boot_entry r (Down s)) s (length r.boot.entries) (undone_last r.boot.entries s) (sound_down_entry laws seats r s known free run)
sound_reboots laws seats r s (Some refusal) free known run = run

sound_reboot : (laws : BootLaws) (seats : SeatLaws) (r : RunningState) (name : List ℕ) → IsSoundRun r → Leaves IsSoundRun (reboot_step r name)
unfolding reboot_step
sound_reboot laws seats r name run =
    leaves-or_refused IsSoundRun (scope_of r.boot.start.deployment name) (λ s. reboots r s (reboot_refusal r.boot.start.limits r.boot.entries s)) (λ s found.
    sound_reboots laws seats r s (reboot_refusal r.boot.start.limits r.boot.entries s) refl (scope_known r.boot.start.deployment name s run.few found) run)

sound_session : (r : RunningState) (a : Answer SessionsState) → IsSoundRun r → Leaves IsSoundRun (within (with_sessions r) a)
sound_session r Refused run = tt
sound_session r (Done sessions text) run = record { sound = run.sound; few = run.few; fit = run.fit; seats = run.seats }

sound_boot : (laws : BootLaws) (seats : SeatLaws) (r : RunningState) (line : BootLine) → IsSoundRun r → Leaves IsSoundRun (boot_line r line)
unfolding table_step journal_step
sound_boot laws seats r (boots.Begin c) run = sound_begin r c run
sound_boot laws seats r (boots.Drop c) run = sound_drop r c run
sound_boot laws seats r (boots.Down name) run = sound_down laws seats r name run
sound_boot laws seats r (boots.Up name) run = sound_up laws seats r name run
sound_boot laws seats r (boots.Reboot name) run = sound_reboot laws seats r name run
sound_boot laws seats r boots.Table run = run
sound_boot laws seats r boots.Journal run = run
sound_boot laws seats r (boots.Report names) run =
    leaves_report IsSoundRun r names (λ manager. record { sound = run.sound; few = run.few; fit = run.fit; seats = run.seats })

-- a boot that was just started over these parts goes on, without connections
sound_started : (laws : BootLaws) (sessions : SessionsState) (old : SeatsState) (site : Bool) (start : Start) (parts : Parts) → AreFew parts → (site ≡ true → parts ≡ site_parts) → start.deployment ≡ parts
    → IsSoundRun (started sessions (without_seats old) site start)
sound_started laws sessions old site start parts few its over = record {
  sound = laws.started start;
  few = subst AreFew (sym over) few;
  fit = All-nil (FitsCaller (new_boot start));
  seats = λ is. record { of_site = over ∙ its is; fits = All-nil (IfFits (new_boot start)) };
}

-- what each step of a connection that fits keeps, over these callers
abbrev SoundWith : List Caller → BootValue → Type 0
SoundWith callers b = IsSound b × AreFew b.start.deployment × AllFit b callers

sound_at_seats : (seats : SeatLaws) (callers : List Caller) (g : SeatGivens) (seat : Seat) (w : SeatWorld) → SeatFits w.boot seat → SoundWith callers w.boot → SoundWith callers (seat_step g seat w).world.boot
sound_at_seats seats callers g seat w fits run =
    go (seat_step g seat w).world.boot (seats.commits g seat w fits) (seats.sound g seat w fits run.0)
  where
    go : (now : BootValue) → CommitsAtMost w.boot now → IsSound now → SoundWith callers now
    go now (inl enters) sound =
        let grown : HasGrown w.boot now = grown_entered w.boot now (entered_once w.boot now enters) in
        (sound, subst (λ (s : Start). AreFew s.deployment) (sym grown.start) run.1, fit_meanwhile w.boot now callers grown run.2)
    go now (inr commit) sound =
        let P : BootValue → Type 0 = λ b. AreFew b.start.deployment × AllFit b callers in
        let e : Entry = Commit (entry_of commit.call (Some commit.action)) in
        let rest : P now = subst P (sym commit.added) (run.1, fit_after w.boot e callers run.2) in
        (sound, rest.0, rest.1)

-- a head has few components, and where it is said to be of the site, it is
abbrev SoundHead : Head → Type 0
SoundHead head = AreFew head.parts × IsOfSite head

sound_seats : (seats : SeatLaws) (r : RunningState) (line : SeatLine) (replies : List Bool) → IsSoundRun r → LeavesTo (HoldsIn SoundHead IsSoundRun) (seat_over r line replies)
sound_seats seats r line replies run =
    let P : BootValue → Type 0 = SoundWith r.callers in
    fits_seat seats P (sound_at_seats seats r.callers) SoundHead IsSoundRun r run
    (λ v h. record { sound = h.0.0; few = h.0.1; fit = h.0.2; seats = λ is. h.1 }) line replies
    (λ is. ((run.sound, run.few, run.fit), run.seats is))

-- each line keeps the components few, and each boot sound
sound_keeps : BootLaws → SeatLaws → Keeps SoundHead IsSoundRun
sound_keeps laws seats = record {
  heads = (λ head line h. leaves_both (λ (x : Head). AreFew x.parts) IsOfSite (head_line head line) (few_head head line h.0) (of_head head line h.1));
  opens = (λ head replies start h opened.
      let P : Opening → Type 0 = OpensOver head.parts in
      sound_started laws (set_up head.setup 0) (no_seats head.parts) head.site start head.parts h.0 h.1 (subst P opened (opens_over head.parts head.plans head.limits replies)));
  reopens = (λ r replies start run opened.
      let P : Opening → Type 0 = OpensOver r.boot.start.deployment in
      sound_started laws (sessions_given_back r.seats.seats r.sessions) r.seats r.site start r.boot.start.deployment run.few (λ is. (run.seats is).of_site)
      (subst P opened (opens_over r.boot.start.deployment (left_by_process r.boot.start.plans) r.boot.start.limits replies)));
  commits = sound_commit laws seats;
  calls = sound_call seats;
  boots = sound_boot laws seats;
  sessions = (λ r line run. sound_session r (session_line r.sessions line) run);
  seats = sound_seats seats;
}

first_few : AreFew no_head.parts
first_few = omega arith

first_sound : SoundHead no_head
first_sound = (first_few, (λ is. absurd (cc)))

pub sound_in_all : (laws : BootLaws) (seats : SeatLaws) (turns : List Turn) → All IsSound (boots_from first turns)
sound_in_all laws seats turns =
    kept_boots SoundHead IsSoundRun IsSound (sound_keeps laws seats) (λ r run. run.sound) first turns first_sound

pub sound_at_end : (laws : BootLaws) (seats : SeatLaws) (turns : List Turn) → All IsSound (boots_in (last_state (end_from first 1 turns)))
sound_at_end laws seats turns =
    kept_at_end SoundHead IsSoundRun IsSound (sound_keeps laws seats) (λ r run. run.sound) first 1 turns first_sound

-- what journals that are legal promise of their commits
abbrev CommitLaw : Type 0
CommitLaw = (base : List RowWrite) (es : List Entry) (place : ℕ) (e : CommitEntry) → IsLegal base es → slice_get es place ≡ Some (Commit e) → All (λ t. IsUnrebooted es t.group.0 t.front.0 place) e.touched

pub unrebooted : CommitLaw → (bs : List BootValue) → All IsSound bs → All CommitsUnrebooted bs
unrebooted law bs sound =
    All-weaker IsSound CommitsUnrebooted (λ b s place e there. law b.start.base b.entries place e s.legal there) bs sound

-- what journals that are legal promise of their order
abbrev OrderLaw : Type 0
OrderLaw = (base : List RowWrite) (es : List Entry) → IsLegal base es → IsSerial base es

pub serial : OrderLaw → (bs : List BootValue) → All IsSound bs → All RunsSerially bs
serial law bs sound = All-weaker IsSound RunsSerially (λ b s. law b.start.base b.entries s.legal) bs sound
