-- The steps of each run are counted over all turns.
use Rattle.std.specs.Prelude.{IfSome}
use Rattle.std.proofs.Common.{arith, ◌≡◌, ℕ, ◌≤◌, Bool, true, false, cond, List, [], ◌∷◌, Option, Some, None, is_some, refl, sym, ap, ◌∙◌, subst}
use Rattle.std.proofs.lemmas.List.{get_or_past}
use Rattle.auction_rows.specs.Parts.{site_parts}
use Rattle.boot_core.specs.Boot.{BootValue, HasGrown, new_boot, with_entry, HasOnlyEntered}
use Rattle.boot_core.specs.declared.boot.Start.{Start}
use Rattle.boot_core.specs.declared.refusals.CommitRefusal.{CommitRefusal}
use Rattle.boot_core.specs.declared.refusals.RebootRefusal.{RebootRefusal}
use Rattle.boot_core.specs.Refusals.{reboot_refusal}
use Rattle.call_ticket.specs.Ticket.{TicketValue}
use Rattle.crash_base.specs.declared.scope.Scope.{Scope}
use Rattle.deployment.specs.declared.parts.Parts.{Parts}
use Rattle.journal_model.specs.Calls.{entry_of}
use Rattle.journal_model.specs.Reboots.{undone_of}
use Rattle.journal_model.specs.declared.entry.Entry.{Entry}
use Rattle.journal_model.specs.declared.entry.Entry.TheVariants.{Commit, Down, Up}
use Rattle.line_steps.specs.Callers.{begin_step, caller_at}
use Rattle.line_steps.specs.Head.{IsOfSite, no_head}
use Rattle.line_steps.specs.declared.callers.Caller.{Caller}
use Rattle.line_steps.specs.declared.callers.Caller.TheVariants.{Absent, Live}
use Rattle.scenario_text.proofs.Leaving.{Leaves, leaves-or_refused}
use Rattle.scenario_text.specs.Answer.{Answer, Refused, Done, within}
use Rattle.scenario_text.specs.declared.boot_line.BootLine.{BootLine}
use Rattle.scenario_text.specs.declared.boot_line.BootLine.TheVariants as boots
use Rattle.scenario_text.specs.declared.seat_line.SeatLine.{SeatLine}
use Rattle.scenario_text.specs.declared.seat_line.SeatLine.TheVariants as lines
use Rattle.seat_laws.specs.StepsLeft.{IsCounted}
use Rattle.seat_lines.specs.Giving.{sessions_given_back, without_seats}
use Rattle.seat_lines.specs.Lines.{bytes_line, conn_line, end_line, is_beyond, step_line}
use Rattle.seat_lines.specs.Runs.{can_run, rests, run_from, run_line, seat_line}
use Rattle.seat_lines.specs.Site.{SeatsState, SiteState, no_seats, seat_at}
use Rattle.seat_steps.specs.declared.seat.Seat.{Seat}
use Rattle.send_windows.specs.Windows.{KeepLimits}
use Rattle.send_windows.specs.declared.fact.TheConstants.{MAX_BRICKS}
use Rattle.session_lanes.specs.Lanes.{LanesState}
use Rattle.session_steps.specs.Sessions.{SessionsState, session_line}
use Rattle.session_steps.specs.Setup.{set_up}
use Rattle.scenario_engine.proofs.BricksKept.{LimitsLaw, NewLaw, lead_limits}
use Rattle.scenario_engine.proofs.Keeping.{HoldsIn, Keeps, LeavesTo, kept_ending}
use Rattle.scenario_engine.proofs.OfSite.{OpensOver, of_head, opens_over}
use Rattle.scenario_engine.proofs.RunsLeft.{RunLaws, SeatsCounted, each-counted, seats-step, seats-still}
use Rattle.scenario_engine.proofs.SeatRows.{RunsTo, bricks_of, line_of_run, near_of, run_to}
use Rattle.scenario_engine.specs.Opening.{Opening}
use Rattle.scenario_engine.specs.Running.{started, with_callers, with_called, with_sessions, with_boot_entry, commit_ends, with_keeper, boot_refusal, caller_commits, caller_drops, commit_step, drop_step, scope_of, goes_down, reboots, down_step, up_step, reboot_step, table_step, journal_step, boot_line}
use Rattle.scenario_engine.specs.RunsLeft.{RunIsCounted}
use Rattle.scenario_engine.specs.Seats.{in_boot, after_steps, by_replies, seat_over}
use Rattle.scenario_engine.specs.Sessions.{AreSessionsOf, HasSessions, session_turns}
use Rattle.scenario_engine.specs.State.{RunningState, State, Running, Outcome, RefusedIn, site_of, with_site}
use Rattle.scenario_engine.specs.Transcript.{Turn, first, end_from, last_state}
use Rattle.component_pool.specs.Plans.{left_by_process}
use Rattle.line_steps.specs.CallLines.{CallDone}
use Rattle.scenario_engine.proofs.Entered.{leaves_called}
use Rattle.line_steps.proofs.Fitting.{grown_entered}
use Rattle.scenario_engine.proofs.Reported.{leaves_report}

-- the laws by which the steps of a run are counted wherever the boot has grown
pub record CountedLaws : Type 0 where
  pub runs : RunLaws
  pub meanwhile : (old new : BootValue) (seat : Seat) → HasGrown old new → IsCounted old seat → IsCounted new seat

-- at the site, the steps of each connection are counted
abbrev CountedRun : RunningState → Type 0
CountedRun r = r.site ≡ true → SeatsCounted (site_of r)

-- an answer that is done leaves this, if each that it may be does
leaves-done : (P : SiteState → Type 0) (a : Answer SiteState) → ((t : SiteState) (text : List ℕ) → a ≡ Done t text → P t) → Leaves P a
leaves-done P Refused done = tt
leaves-done P (Done t text) done = done t text refl

-- lines about connections

module _ (laws : RunLaws) where
  -- whole steps
  after-counted : (s : SiteState) (n : ℕ) (replies : List Bool) → SeatsCounted s → SeatsCounted (after_steps s n replies)
  after-counted s n [] its = its
  after-counted s n (keeps ∷ more) its = go (λ v. after-counted v n more) (rests (seat_at s.seats.seats n)) (step_line s n keeps) (leaves-done SeatsCounted (step_line s n keeps) (λ t text is. seats-step laws s its n keeps t text is))
    where
      go : ((v : SiteState) → SeatsCounted v → SeatsCounted (after_steps v n more)) → (rest : Bool) (a : Answer SiteState) → Leaves SeatsCounted a → SeatsCounted (cond rest s (elim a [ Refused ↦ s | Done v out ↦ after_steps v n more ]))
      go later true a left = its
      go later false Refused left = its
      go later false (Done v out) left = later v left

  module _ (r : RunningState) (run : CountedRun r) where
    -- what a line leaves of the head or the boot
    abbrev Left : Outcome → Type 0
    Left o = LeavesTo (HoldsIn IsOfSite CountedRun) o

    left-answer : (a : Answer SiteState) → ((t : SiteState) (text : List ℕ) → a ≡ Done t text → SeatsCounted t) → Left (in_boot r (within (with_site r) a))
    left-answer Refused done = run
    left-answer (Done v text) done = λ is. done v text refl

    left-run : (n : ℕ) (replies : List Bool) → SeatsCounted (site_of r) → Left (by_replies r (lines.Run n) replies (run_line (site_of r) n replies))
    left-run n replies its = go (can_run (site_of r) n) refl
      where
        by : Bool → Outcome
        by can = by_replies r (lines.Run n) replies (cond can (run_from (site_of r) [] n replies) (Some Refused))

        as_run : by (can_run (site_of r) n) ≡ by_replies r (lines.Run n) replies (run_line (site_of r) n replies)
        as_run = ap (by_replies r (lines.Run n) replies) (line_of_run (site_of r) n replies)

        after : SeatsCounted (after_steps (site_of r) n replies)
        after = after-counted (site_of r) n replies its

        came : (o : Option (Answer SiteState)) → RunsTo (after_steps (site_of r) n replies) o → Left (by_replies r (lines.Run n) replies o)
        came None to = λ is. after
        came (Some Refused) to = absurd to
        came (Some (Done v out)) to = λ is. subst (λ (w : SiteState). SeatsCounted w) (sym to) after

        done : (can : Bool) → can_run (site_of r) n ≡ can → Left (by can)
        done true can = came (run_from (site_of r) [] n replies) (run_to (site_of r) [] n replies (near_of (is_beyond n) (is_some r.sessions.store) (is_some (seat_at r.seats.seats n)) can) (bricks_of (is_beyond n) (is_some r.sessions.store) (is_some (seat_at r.seats.seats n)) can))
        done false none = run

        go : (can : Bool) → can_run (site_of r) n ≡ can → Left (by_replies r (lines.Run n) replies (run_line (site_of r) n replies))
        go can is = subst Left (ap by (sym is) ∙ as_run) (done can is)

    left-line : (line : SeatLine) (replies : List Bool) → SeatsCounted (site_of r) → Left (by_replies r line replies (seat_line (site_of r) line replies))
    left-line (lines.Conn n) replies its =
        left-answer (conn_line (site_of r) n) (λ t text is. seats-still laws (site_of r) its t (lines.Conn n) replies text refl (ap (λ (a : Answer SiteState). Some a) is))
    left-line (lines.Bytes n bytes) replies its =
        left-answer (bytes_line (site_of r) n bytes) (λ t text is. seats-still laws (site_of r) its t (lines.Bytes n bytes) replies text refl (ap (λ (a : Answer SiteState). Some a) is))
    left-line (lines.End n) replies its =
        left-answer (end_line (site_of r) n) (λ t text is. seats-still laws (site_of r) its t (lines.End n) replies text refl (ap (λ (a : Answer SiteState). Some a) is))
    left-line (lines.Step n) [] its = run
    left-line (lines.Step n) (keeps ∷ more) its =
        left-answer (step_line (site_of r) n keeps) (λ t text is. seats-step laws (site_of r) its n keeps t text is)
    left-line (lines.Run n) replies its = left-run n replies its

    counted_seats : (line : SeatLine) (replies : List Bool) → Left (seat_over r line replies)
    unfolding seat_over
    counted_seats line replies = go r.site refl
      where
        go : (site : Bool) → r.site ≡ site → Left (cond site (by_replies r line replies (seat_line (site_of r) line replies)) (RefusedIn (Running r)))
        go true is = left-line line replies (run is)
        go false is = run

-- other lines

counted_callers : (r : RunningState) (a : Answer (List Caller)) → CountedRun r → Leaves CountedRun (within (with_callers r) a)
counted_callers r Refused run = tt
counted_callers r (Done callers text) run = run

counted_sessions : (r : RunningState) (a : Answer SessionsState) → CountedRun r → Leaves CountedRun (within (with_sessions r) a)
counted_sessions r Refused run = tt
counted_sessions r (Done sessions text) run = λ is. let its : SeatsCounted (site_of r) = run is in record { of_site = its.of_site; counted = its.counted }

module _ (laws : CountedLaws) where
  -- the journal has one entry more
  counted_entry : (r : RunningState) (e : Entry) → CountedRun r → CountedRun (with_boot_entry r e)
  counted_entry r e run = λ is.
      let its : SeatsCounted (site_of r) = run is in
      let new : BootValue = with_entry r.boot e in
      let grown : HasGrown r.boot new = record { start = refl; more = e ∷ []; entries = refl } in
      record {
        of_site = its.of_site;
        counted = λ n. each-counted r.boot new (λ x was. laws.meanwhile r.boot new x grown was) (seat_at r.seats.seats n) (its.counted n);
      }

  counted_called : (r : RunningState) (done : CallDone (List Caller)) → HasOnlyEntered r.boot done.boot → CountedRun r → CountedRun (with_called r done)
  counted_called r done is run = λ at.
      let its : SeatsCounted (site_of r) = run at in
      let new : BootValue = done.boot in
      let grown : HasGrown r.boot new = grown_entered r.boot new is in
      record {
        of_site = ap (λ (s : Start). s.deployment) grown.start ∙ its.of_site;
        counted = λ n. each-counted r.boot new (λ x was. laws.meanwhile r.boot new x grown was) (seat_at r.seats.seats n) (its.counted n);
      }

  counted_commit_ends : (r : RunningState) (n : ℕ) (ticket : TicketValue) (refusal : Option CommitRefusal) → CountedRun r → Leaves CountedRun (commit_ends r n ticket refusal)
  counted_commit_ends r n ticket None run = counted_entry r (Commit (entry_of ticket.call None)) run
  counted_commit_ends r n ticket (Some refusal) run = λ is. let its : SeatsCounted (site_of r) = run is in record { of_site = its.of_site; counted = its.counted }

  counted_caller_commits : (r : RunningState) (n : ℕ) (keeps : Bool) (caller : Caller) → CountedRun r → Leaves CountedRun (caller_commits r n keeps caller)
  counted_caller_commits r n keeps Absent run = tt
  counted_caller_commits r n keeps (Live ticket) run = counted_commit_ends r n ticket (with_keeper (boot_refusal r ticket) ticket.call.writes keeps) run

  counted_commit : (r : RunningState) (n : ℕ) (keeps : Bool) → CountedRun r → Leaves CountedRun (commit_step r n keeps)
  unfolding commit_step
  counted_commit r n keeps run = counted_caller_commits r n keeps (caller_at r.callers n) run

  counted_caller_drops : (r : RunningState) (n : ℕ) (caller : Caller) → CountedRun r → Leaves CountedRun (caller_drops r n caller)
  counted_caller_drops r n Absent run = tt
  counted_caller_drops r n (Live ticket) run = run

  counted_drop : (r : RunningState) (n : ℕ) → CountedRun r → Leaves CountedRun (drop_step r n)
  unfolding drop_step
  counted_drop r n run = counted_caller_drops r n (caller_at r.callers n) run

  counted_goes_down : (r : RunningState) (s : Scope) (refusal : Option RebootRefusal) → CountedRun r → Leaves CountedRun (goes_down r s refusal)
  counted_goes_down r s None run = counted_entry r (Down s) run
  counted_goes_down r s (Some refusal) run = run

  counted_down : (r : RunningState) (name : List ℕ) → CountedRun r → Leaves CountedRun (down_step r name)
  unfolding down_step
  counted_down r name run =
      leaves-or_refused CountedRun (scope_of r.boot.start.deployment name) (λ s. goes_down r s (reboot_refusal r.boot.start.limits r.boot.entries s)) (λ s known.
      counted_goes_down r s (reboot_refusal r.boot.start.limits r.boot.entries s) run)

  counted_up : (r : RunningState) (name : List ℕ) → CountedRun r → Leaves CountedRun (up_step r name)
  unfolding up_step
  counted_up r name run =
      leaves-or_refused CountedRun (scope_of r.boot.start.deployment name) _ (λ s known.
      leaves-or_refused CountedRun (undone_of r.boot.entries s) _ (λ place found. counted_entry r (Up s) run))

  counted_reboots : (r : RunningState) (s : Scope) (refusal : Option RebootRefusal) → CountedRun r → Leaves CountedRun (reboots r s refusal)
  counted_reboots r s None run = counted_entry (with_boot_entry r (Down s)) (Up s) (counted_entry r (Down s) run)
  counted_reboots r s (Some refusal) run = run

  counted_reboot : (r : RunningState) (name : List ℕ) → CountedRun r → Leaves CountedRun (reboot_step r name)
  unfolding reboot_step
  counted_reboot r name run =
      leaves-or_refused CountedRun (scope_of r.boot.start.deployment name) (λ s. reboots r s (reboot_refusal r.boot.start.limits r.boot.entries s)) (λ s known.
      counted_reboots r s (reboot_refusal r.boot.start.limits r.boot.entries s) run)

  counted_boot : (r : RunningState) (line : BootLine) → CountedRun r → Leaves CountedRun (boot_line r line)
  unfolding table_step journal_step
  counted_boot r (boots.Begin c) run = counted_callers r (begin_step r.boot r.callers c) run
  counted_boot r (boots.Drop c) run = counted_drop r c run
  counted_boot r (boots.Down name) run = counted_down r name run
  counted_boot r (boots.Up name) run = counted_up r name run
  counted_boot r (boots.Reboot name) run = counted_reboot r name run
  counted_boot r boots.Table run = run
  counted_boot r boots.Journal run = run
  counted_boot r (boots.Report names) run =
      leaves_report CountedRun r names (λ manager is. (let its : SeatsCounted (site_of r) = run is in record { of_site = its.of_site; counted = its.counted }))

-- a boot that was just started over these parts has no connection
counted_started : (sessions : SessionsState) (old : SeatsState) (site : Bool) (start : Start) (parts : Parts) → (site ≡ true → parts ≡ site_parts) → start.deployment ≡ parts
    → CountedRun (started sessions (without_seats old) site start)
counted_started sessions old site start parts its over = λ is. record {
  of_site = over ∙ its is;
  counted = λ n. subst (λ (o : Option Seat). IfSome o (λ (x : Seat). IsCounted (new_boot start) x)) (sym (none n)) tt;
} where
  none : (n : ℕ) → seat_at [] n ≡ None
  none n = (let empty : List (Option Seat) = [] in get_or_past empty n None (omega arith))

counted_keeps : CountedLaws → Keeps IsOfSite CountedRun
counted_keeps laws = record {
  heads = of_head;
  opens = (λ head replies start h opened.
      let P : Opening → Type 0 = OpensOver head.parts in
      counted_started (set_up head.setup 0) (no_seats head.parts) head.site start head.parts h (subst P opened (opens_over head.parts head.plans head.limits replies)));
  reopens = (λ r replies start run opened.
      let P : Opening → Type 0 = OpensOver r.boot.start.deployment in
      counted_started (sessions_given_back r.seats.seats r.sessions) r.seats r.site start r.boot.start.deployment (λ is. (run is).of_site)
      (subst P opened (opens_over r.boot.start.deployment (left_by_process r.boot.start.plans) r.boot.start.limits replies)));
  commits = λ r n keeps run. counted_commit laws r n keeps run;
  calls = (λ r n line short run. leaves_called CountedRun r n line (λ done is. counted_called laws r done is run));
  boots = λ r line run. counted_boot laws r line run;
  sessions = (λ r line run. counted_sessions r (session_line r.sessions line) run);
  seats = λ r line replies run. counted_seats laws.runs r run line replies;
}

first_of_site : IsOfSite no_head
first_of_site = λ is. absurd (cc)

-- The steps of each run of the site are counted, and a take of the windows gives passes to no more bricks than there
-- may be.
pub runs_in_all : CountedLaws → LimitsLaw → NewLaw → (turns : List Turn) (r : RunningState) (n : ℕ) → HasSessions turns → r.site ≡ true → last_state (end_from first 1 turns) ≡ Running r → RunIsCounted (site_of r) n
runs_in_all laws limit new turns r n has site ends = record { seat = (run site).counted n; windows = windows r.sessions.store refl } where
  run : CountedRun r
  run = subst (HoldsIn IsOfSite CountedRun) ends (kept_ending IsOfSite CountedRun (λ b. Unit {0}) (counted_keeps laws) (λ r run. tt) first 1 turns first_of_site)

  same : has.end ≡ r.sessions
  same = subst (λ (s : State). AreSessionsOf s has.setup has.end) ends has.ends

  windows : (o : Option LanesState) → r.sessions.store ≡ o → IfSome o (λ (st : LanesState). st.windows.w ≤ MAX_BRICKS)
  windows None none = tt
  windows (Some st) is =
      let keep : KeepLimits st.windows = lead_limits limit new has.setup 0 (session_turns first turns) has.end st has.counts has.stand.lead (ap (λ (s : SessionsState). s.store) same ∙ is) in
      let within = keep.within in
      let few = keep.few in
      omega (arith, within, few)

-- A boot of the site has its parts.
pub site_in_all : CountedLaws → (turns : List Turn) (r : RunningState) → r.site ≡ true → last_state (end_from first 1 turns) ≡ Running r → r.boot.start.deployment ≡ site_parts
site_in_all laws turns r site ends = its.of_site
  where
    run : CountedRun r
    run = subst (HoldsIn IsOfSite CountedRun) ends (kept_ending IsOfSite CountedRun (λ b. Unit {0}) (counted_keeps laws) (λ r run. tt) first 1 turns first_of_site)

    its : SeatsCounted (site_of r)
    its = run site
