-- The journal of each boot of a scenario is meant, whatever the turns are.
use Rattle.std.proofs.Common.{◌≡◌, inl, inr, ℕ, ◌<◌, ◌≤◌, ◌^◌, Bool, true, List, [], ◌∷◌, ◌++◌, Option, Some, None, refl, ap, ◌∙◌, subst, arith, sym}
use Rattle.std.specs.Prelude.{All}
use Rattle.std.proofs.lemmas.List.Elements.{All-nil, All-weaker}
use Rattle.auction_rows.specs.Parts.{site_parts}
use Rattle.auction_site.specs.Meant.{AreMeant}
use Rattle.boot_core.specs.Boot.{BootValue, new_boot, with_entry, HasGrown, HasOnlyEntered}
use Rattle.boot_core.specs.Refusals.{reboot_refusal}
use Rattle.boot_core.specs.declared.boot.Start.{Start}
use Rattle.boot_core.specs.declared.refusals.CommitRefusal.{CommitRefusal}
use Rattle.boot_core.specs.declared.refusals.RebootRefusal.{RebootRefusal}
use Rattle.call_ticket.specs.Ticket.{TicketValue}
use Rattle.crash_base.specs.declared.numbers.Moment.{Moment}
use Rattle.crash_base.specs.declared.rows.RowWrite.{RowWrite}
use Rattle.crash_base.specs.declared.scope.Scope.{Scope}
use Rattle.deployment.specs.declared.parts.Parts.{Parts}
use Rattle.journal_model.specs.Calls.{entry_of}
use Rattle.journal_model.specs.Reboots.{undone_of}
use Rattle.journal_model.specs.declared.entry.CommitEntry.{CommitEntry}
use Rattle.journal_model.specs.declared.entry.Entry.{Entry}
use Rattle.journal_model.specs.declared.entry.Entry.TheVariants.{Commit, Down, Up}
use Rattle.line_steps.specs.Callers.{caller_at, begin_step, ended}
use Rattle.line_steps.specs.Head.{IsOfSite}
use Rattle.line_steps.specs.declared.callers.Caller.{Caller}
use Rattle.line_steps.specs.declared.callers.Caller.TheVariants.{Absent, Live}
use Rattle.scenario_text.specs.Answer.{Answer, Refused, Done, within}
use Rattle.scenario_text.specs.declared.boot_line.BootLine.{BootLine}
use Rattle.scenario_text.specs.declared.boot_line.BootLine.TheVariants as boots
use Rattle.scenario_text.specs.declared.seat_line.SeatLine.{SeatLine}
use Rattle.scenario_text.specs.declared.session_line.SessionLine.{SessionLine}
use Rattle.scenario_text.proofs.Leaving.{Leaves, leaves-or_refused}
use Rattle.seat_laws.specs.Fitting.{CommitsAtMost, SeatFits}
use Rattle.seat_laws.specs.Spelling.{SeatSpells}
use Rattle.seat_lines.specs.Giving.{sessions_given_back, without_seats}
use Rattle.seat_lines.specs.Site.{SeatsState, no_seats}
use Rattle.seat_steps.specs.Seats.{SeatGivens, SeatWorld, seat_step}
use Rattle.seat_steps.specs.declared.seat.Seat.{Seat}
use Rattle.session_steps.specs.Sessions.{SessionsState, session_line}
use Rattle.session_steps.specs.Setup.{set_up}
use Rattle.session_steps.specs.declared.sessions.TheConstants.{MAX_MOMENT}
use Rattle.shepherd.specs.Shepherds.{fresh}
use Rattle.scenario_engine.specs.Opening.{Opening}
use Rattle.scenario_engine.specs.Running.{started, with_callers, with_called, with_sessions, with_boot_entry, commit_ends, with_keeper, boot_refusal, caller_commits, caller_drops, commit_step, drop_step, scope_of, goes_down, reboots, down_step, up_step, reboot_step, table_step, journal_step, boot_line}
use Rattle.scenario_engine.specs.Seats.{seat_over}
use Rattle.scenario_engine.specs.Sound.{CommitsAsMeant}
use Rattle.scenario_engine.specs.State.{RunningState}
use Rattle.scenario_engine.specs.Transcript.{Turn, first, boots_from}
use Rattle.scenario_engine.proofs.Keeping.{HoldsIn, Keeps, LeavesTo, kept_boots}
use Rattle.scenario_engine.proofs.OfSite.{OpensOver, of_head, opens_over}
use Rattle.scenario_engine.proofs.SeatsFit.{SeatLaws}
use Rattle.scenario_engine.proofs.SeatsHold.{IfHas, StepLaws, has_seat}
use Rattle.component_pool.specs.Plans.{left_by_process}
use Rattle.line_steps.specs.CallLines.{CallDone}
use Rattle.scenario_engine.proofs.Entered.{leaves_called, entered_once}
use Rattle.line_steps.proofs.Fitting.{grown_entered}
use Rattle.scenario_engine.proofs.Reported.{leaves_report}

-- what is promised of journals that are meant: by the site of each entry, and of the steps of connections
pub record MeantLaws : Type 0 where
  pub empty : (base : List RowWrite) → AreMeant base []
  pub down : (base : List RowWrite) (es : List Entry) (s : Scope) → AreMeant base es → AreMeant base (es ++ Down s ∷ [])
  pub up : (base : List RowWrite) (es : List Entry) (s : Scope) → AreMeant base es → AreMeant base (es ++ Up s ∷ [])
  pub plain : (base : List RowWrite) (es : List Entry) (e : CommitEntry) → e.action ≡ None → AreMeant base es → AreMeant base (es ++ Commit e ∷ [])
  pub step : (g : SeatGivens) (seat : Seat) (w : SeatWorld) → SeatFits w.boot seat → SeatSpells seat → CommitsAsMeant w.boot → CommitsAsMeant (seat_step g seat w).world.boot
  pub begins : SeatSpells (record { connection = fresh; twin = None })
  pub spells : (g : SeatGivens) (seat : Seat) (w : SeatWorld) → g.now.0 < 2 ^ 62 → SeatSpells seat → SeatSpells (seat_step g seat w).seat
  pub still : (seat new : Seat) → new.connection.stage ≡ seat.connection.stage → SeatSpells seat → SeatSpells new
  pub last : MAX_MOMENT < 2 ^ 62
  pub lines : (s t : SessionsState) (line : SessionLine) (text : List ℕ) → s.moment.0 ≤ MAX_MOMENT → session_line s line ≡ Done t text → t.moment.0 ≤ MAX_MOMENT

-- a boot is of the site, and its journal is meant
record IsMeantSite (boot : BootValue) : Type 0 where
  of_site : boot.start.deployment ≡ site_parts
  meant : CommitsAsMeant boot

-- a connection fits a boot, and its requests spell their calls
abbrev MeansIn : BootValue → Seat → Type 0
MeansIn boot seat = SeatFits boot seat × SeatSpells seat

-- a moment is one of the clock
abbrev InTime : Moment → Type 0
InTime moment = moment.0 ≤ MAX_MOMENT

-- at the site the connections fit a boot, and their requests spell their calls
record SeatsMean (boot : BootValue) (seats : List (Option Seat)) : Type 0 where
  of_site : boot.start.deployment ≡ site_parts
  each : All (IfHas IsMeantSite MeansIn InTime boot) seats

-- the journal of a boot is meant, the moment of its sessions is one of the clock, and at the site its connections mean
-- what they ask
record IsMeantRun (r : RunningState) : Type 0 where
  meant : CommitsAsMeant r.boot
  time : InTime r.sessions.moment
  seats : r.site ≡ true → SeatsMean r.boot r.seats.seats

module _ (laws : MeantLaws) (seats : SeatLaws) where
  -- callers

  meant_callers : (r : RunningState) (a : Answer (List Caller)) → IsMeantRun r → Leaves IsMeantRun (within (with_callers r) a)
  meant_callers r Refused run = tt
  meant_callers r (Done callers text) run = record { meant = run.meant; time = run.time; seats = run.seats }

  meant_ended : (r : RunningState) (n : ℕ) → IsMeantRun r → IsMeantRun (with_callers r (ended r.callers n))
  meant_ended r n run = record { meant = run.meant; time = run.time; seats = run.seats }

  -- in a boot that has grown the connections mean what they ask
  means_grown : (old new : BootValue) (places : List (Option Seat)) → HasGrown old new → SeatsMean old places → SeatsMean new places
  means_grown old new places grown its = record {
    of_site = ap (λ (s : Start). s.deployment) grown.start ∙ its.of_site;
    each = All-weaker (IfHas IsMeantSite MeansIn InTime old) (IfHas IsMeantSite MeansIn InTime new) on places its.each;
  }
    where
      on : (o : Option Seat) → IfHas IsMeantSite MeansIn InTime old o → IfHas IsMeantSite MeansIn InTime new o
      on None has = tt
      on (Some seat) has = (seats.meanwhile old new seat grown has.0, has.1)

  means_entry : (boot : BootValue) (e : Entry) (places : List (Option Seat)) → SeatsMean boot places → SeatsMean (with_entry boot e) places
  means_entry boot e places its = means_grown boot (with_entry boot e) places (record { start = refl; more = e ∷ []; entries = refl }) its

  meant_called : (r : RunningState) (done : CallDone (List Caller)) → HasOnlyEntered r.boot done.boot → IsMeantRun r → IsMeantRun (with_called r done)
  meant_called r done is run = record {
    meant = subst (λ (b : BootValue). CommitsAsMeant b) (sym is) run.meant;
    time = run.time;
    seats = λ at. means_grown r.boot done.boot r.seats.seats (grown_entered r.boot done.boot is) (run.seats at);
  }

  -- the journal has one entry more
  meant_entry : (r : RunningState) (e : Entry) → CommitsAsMeant (with_entry r.boot e) → IsMeantRun r → IsMeantRun (with_boot_entry r e)
  meant_entry r e meant run = record { meant = meant; time = run.time; seats = λ is. means_entry r.boot e r.seats.seats (run.seats is) }

  -- a commit of a caller has no action
  meant_commit_ends : (r : RunningState) (n : ℕ) (ticket : TicketValue) (refusal : Option CommitRefusal) → IsMeantRun r → Leaves IsMeantRun (commit_ends r n ticket refusal)
  meant_commit_ends r n ticket None run =
      let e : CommitEntry = entry_of ticket.call None in
      meant_entry (with_callers r (ended r.callers n)) (Commit e) (laws.plain r.boot.start.base r.boot.entries e refl run.meant) (meant_ended r n run)
  meant_commit_ends r n ticket (Some refusal) run = record { meant = run.meant; time = run.time; seats = run.seats }

  meant_commit : (r : RunningState) (n : ℕ) (keeps : Bool) → IsMeantRun r → Leaves IsMeantRun (commit_step r n keeps)
  unfolding commit_step
  meant_commit r n keeps run = go (caller_at r.callers n)
    where
      go : (caller : Caller) → Leaves IsMeantRun (caller_commits r n keeps caller)
      go Absent = tt
      go (Live ticket) = meant_commit_ends r n ticket (with_keeper (boot_refusal r ticket) ticket.call.writes keeps) run

  meant_drop : (r : RunningState) (n : ℕ) → IsMeantRun r → Leaves IsMeantRun (drop_step r n)
  unfolding drop_step
  meant_drop r n run = go (caller_at r.callers n)
    where
      go : (caller : Caller) → Leaves IsMeantRun (caller_drops r n caller)
      go Absent = tt
      go (Live ticket) = meant_ended r n run

  -- reboots

  meant_down_entry : (r : RunningState) (s : Scope) → IsMeantRun r → IsMeantRun (with_boot_entry r (Down s))
  meant_down_entry r s run = meant_entry r (Down s) (laws.down r.boot.start.base r.boot.entries s run.meant) run

  meant_up_entry : (r : RunningState) (s : Scope) → IsMeantRun r → IsMeantRun (with_boot_entry r (Up s))
  meant_up_entry r s run = meant_entry r (Up s) (laws.up r.boot.start.base r.boot.entries s run.meant) run

  meant_goes_down : (r : RunningState) (s : Scope) (refusal : Option RebootRefusal) → IsMeantRun r → Leaves IsMeantRun (goes_down r s refusal)
  meant_goes_down r s None run = meant_down_entry r s run
  meant_goes_down r s (Some refusal) run = run

  meant_down : (r : RunningState) (name : List ℕ) → IsMeantRun r → Leaves IsMeantRun (down_step r name)
  unfolding down_step
  meant_down r name run =
      leaves-or_refused IsMeantRun (scope_of r.boot.start.deployment name) _ (λ s known.
      meant_goes_down r s (reboot_refusal r.boot.start.limits r.boot.entries s) run)

  meant_up : (r : RunningState) (name : List ℕ) → IsMeantRun r → Leaves IsMeantRun (up_step r name)
  unfolding up_step
  meant_up r name run =
      leaves-or_refused IsMeantRun (scope_of r.boot.start.deployment name) _ (λ s known.
      leaves-or_refused IsMeantRun (undone_of r.boot.entries s) _ (λ place found. meant_up_entry r s run))

  meant_reboots : (r : RunningState) (s : Scope) (refusal : Option RebootRefusal) → IsMeantRun r → Leaves IsMeantRun (reboots r s refusal)
  meant_reboots r s None run = meant_up_entry (with_boot_entry r (Down s)) s (meant_down_entry r s run)
  meant_reboots r s (Some refusal) run = run

  meant_reboot : (r : RunningState) (name : List ℕ) → IsMeantRun r → Leaves IsMeantRun (reboot_step r name)
  unfolding reboot_step
  meant_reboot r name run =
      leaves-or_refused IsMeantRun (scope_of r.boot.start.deployment name) _ (λ s known.
      meant_reboots r s (reboot_refusal r.boot.start.limits r.boot.entries s) run)

  meant_boot : (r : RunningState) (line : BootLine) → IsMeantRun r → Leaves IsMeantRun (boot_line r line)
  unfolding table_step journal_step
  meant_boot r (boots.Begin c) run = meant_callers r (begin_step r.boot r.callers c) run
  meant_boot r (boots.Drop c) run = meant_drop r c run
  meant_boot r (boots.Down name) run = meant_down r name run
  meant_boot r (boots.Up name) run = meant_up r name run
  meant_boot r (boots.Reboot name) run = meant_reboot r name run
  meant_boot r boots.Table run = run
  meant_boot r boots.Journal run = run
  meant_boot r (boots.Report names) run =
      leaves_report IsMeantRun r names (λ manager. record { meant = run.meant; time = run.time; seats = run.seats })

  meant_session : (r : RunningState) (line : SessionLine) (a : Answer SessionsState) → session_line r.sessions line ≡ a → IsMeantRun r → Leaves IsMeantRun (within (with_sessions r) a)
  meant_session r line Refused is run = tt
  meant_session r line (Done sessions text) is run = record { meant = run.meant; time = laws.lines r.sessions sessions line text run.time is; seats = run.seats }

  -- a boot that was just started over these parts has no entry yet, and no connection
  meant_started : (sessions : SessionsState) (old : SeatsState) (site : Bool) (start : Start) (parts : Parts) → InTime sessions.moment → (site ≡ true → parts ≡ site_parts) → start.deployment ≡ parts
      → IsMeantRun (started sessions (without_seats old) site start)
  meant_started sessions old site start parts time its over = record {
    meant = laws.empty start.base;
    time = time;
    seats = λ is. record { of_site = over ∙ its is; each = All-nil (IfHas IsMeantSite MeansIn InTime (new_boot start)) };
  }

  before_end : (moment : Moment) → InTime moment → moment.0 < 2 ^ 62
  before_end moment time = let last = laws.last in omega (arith, time, last)

  grown_site : (boot now : BootValue) → CommitsAtMost boot now → boot.start.deployment ≡ site_parts → now.start.deployment ≡ site_parts
  grown_site boot now (inl enters) of_site = ap (λ (b : BootValue). b.start.deployment) (entered_once boot now enters) ∙ of_site
  grown_site boot now (inr commit) of_site = ap (λ (b : BootValue). b.start.deployment) commit.added ∙ of_site

  step_laws : StepLaws IsMeantSite MeansIn InTime
  step_laws = record {
    begins = λ boot its. (seats.begins boot its.of_site, laws.begins);
    still = λ boot seat new same its. (seats.still boot seat new same its.0, laws.still seat new same its.1);
    boot = λ g seat w time its site. record {
      of_site = grown_site w.boot (seat_step g seat w).world.boot (seats.commits g seat w its.0) site.of_site;
      meant = laws.step g seat w its.0 its.1 site.meant;
    };
    step = λ g seat w time its. (seats.step g seat w its.0, laws.spells g seat w (before_end g.now time) its.1);
    others = λ g seat other w its theirs. (seats.others g seat other w its.0 theirs.0, theirs.1);
  }

  meant_seats : (r : RunningState) (line : SeatLine) (replies : List Bool) → IsMeantRun r → LeavesTo (HoldsIn IsOfSite IsMeantRun) (seat_over r line replies)
  meant_seats r line replies run =
      has_seat IsMeantSite MeansIn InTime step_laws IsOfSite IsMeantRun r run
      (λ v h. record { meant = h.boot.meant; time = h.time; seats = λ is. record { of_site = h.boot.of_site; each = h.seats } }) line replies
      (λ is. record { boot = record { of_site = (run.seats is).of_site; meant = run.meant }; seats = (run.seats is).each; time = run.time })

  first_time : 0 ≤ MAX_MOMENT
  first_time = omega arith

  -- all turns

  meant_keeps : Keeps IsOfSite IsMeantRun
  meant_keeps = record {
    heads = of_head;
    opens = (λ head replies start h opened.
        let P : Opening → Type 0 = OpensOver head.parts in
        meant_started (set_up head.setup 0) (no_seats head.parts) head.site start head.parts first_time h (subst P opened (opens_over head.parts head.plans head.limits replies)));
    reopens = (λ r replies start run opened.
        let P : Opening → Type 0 = OpensOver r.boot.start.deployment in
        meant_started (sessions_given_back r.seats.seats r.sessions) r.seats r.site start r.boot.start.deployment run.time (λ is. (run.seats is).of_site)
        (subst P opened (opens_over r.boot.start.deployment (left_by_process r.boot.start.plans) r.boot.start.limits replies)));
    commits = meant_commit;
    calls = (λ r n line short run. leaves_called IsMeantRun r n line (λ done is. meant_called r done is run));
    boots = meant_boot;
    sessions = (λ r line run. meant_session r line (session_line r.sessions line) refl run);
    seats = meant_seats;
  }

  pub meant_in_all : (turns : List Turn) → All CommitsAsMeant (boots_from first turns)
  meant_in_all turns =
      kept_boots IsOfSite IsMeantRun CommitsAsMeant meant_keeps (λ r run. run.meant) first turns (λ is. absurd (cc))
