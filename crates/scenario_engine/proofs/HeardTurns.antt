-- Over all turns the manager has heard just what was reported, and decides by all of it.
use Rattle.std.proofs.Common.{◌≡◌, ℕ, Bool, true, false, cond, List, [], ◌∷◌, ◌++◌, Option, Some, None, is_some, refl, sym, ap, ◌∙◌, subst}
use Rattle.std.specs.List.{flat_map}
use Rattle.boot_core.specs.Boot.{BootValue}
use Rattle.boot_core.specs.declared.boot.Start.{Start}
use Rattle.component_pool.specs.Plans.{left_by_process}
use Rattle.deployment.specs.declared.parts.Parts.{Parts}
use Rattle.failure_scores.specs.declared.report.FailureReport.{FailureReport}
use Rattle.line_steps.specs.Callers.{begin_step, call_step}
use Rattle.line_steps.specs.Head.{head_line}
use Rattle.line_steps.specs.declared.head.Head.{Head}
use Rattle.recovery_manager.specs.Telling.{new_manager}
use Rattle.scenario_text.proofs.Leaving.{Leaves}
use Rattle.scenario_text.specs.Answer.{Answer, Refused, Done, or_refused, within}
use Rattle.scenario_text.specs.Line.{is_event}
use Rattle.scenario_text.specs.Reading.{line_of}
use Rattle.scenario_text.specs.declared.boot_line.BootLine.{BootLine}
use Rattle.scenario_text.specs.declared.boot_line.BootLine.TheVariants as boots
use Rattle.scenario_text.specs.declared.line.Line.{Line}
use Rattle.scenario_text.specs.declared.line.Line.TheVariants as lines
use Rattle.scenario_text.specs.declared.seat_line.SeatLine.{SeatLine}
use Rattle.scenario_text.specs.declared.seat_line.SeatLine.TheVariants as seats
use Rattle.seat_lines.specs.Changing.{ChangesSeatsAlone}
use Rattle.seat_lines.specs.Hearing.{hears, report_line, report_said}
use Rattle.seat_lines.specs.Items.{reports_if}
use Rattle.seat_lines.specs.Lines.{bytes_line, conn_line, end_line, is_beyond, step_line}
use Rattle.seat_lines.specs.Making.{StepMade, line_makes, run_makes}
use Rattle.seat_lines.specs.Runs.{can_run, run_from, run_line, seat_line}
use Rattle.seat_lines.specs.Site.{SeatsState, SiteState, no_seats, seat_at}
use Rattle.session_steps.specs.Sessions.{SessionsState, session_line}
use Rattle.session_steps.specs.Setup.{set_up}
use Rattle.scenario_engine.proofs.HeardSteps.{Heard, HeardLaws, Hears, one-heard, run-heard, step_at}
use Rattle.scenario_engine.proofs.Keeping.{LeavesTo}
use Rattle.scenario_engine.proofs.Leading.{SameBeside, same_called, same_commit, same_down, same_drop, same_entered, same_reboot, same_up}
use Rattle.scenario_engine.proofs.OfSite.{OpensOver, opens_over}
use Rattle.scenario_engine.proofs.SeatRows.{RunsTo, bricks_of, line_of_run, near_of, no_makes, run_to}
use Rattle.scenario_engine.specs.Connections.{makes_on, makes_over, makes_to, seat_makes, turn_makes}
use Rattle.scenario_engine.specs.Engine.{Replies, Target, first_keeps, in_head, line_on, line_over, next_opening, opened_target, reopens, step, target_of}
use Rattle.scenario_engine.specs.Opening.{Opening, Opened, UnstartedBoot, opening}
use Rattle.scenario_engine.specs.Reports.{ReportMade, made_over, said_on, said_over, said_to, step_reports, turn_reports}
use Rattle.scenario_engine.specs.Running.{boot_line, commit_step, down_step, drop_step, journal_step, reboot_step, started, table_step, up_step, with_called, with_callers, with_seats, with_sessions}
use Rattle.scenario_engine.specs.Seats.{after_steps, by_replies, in_boot, seat_over}
use Rattle.scenario_engine.specs.State.{RunningState, State, Heading, Running, Outcome, RefusedIn, DoneTo, UnstartedIn, UnderWayIn, site_of, with_site}
use Rattle.scenario_engine.specs.Transcript.{Turn, answer_to, turn_outcome}

-- a site leads to that of a boot, whose manager has heard these
abbrev pub HeardIn : SiteState → List ReportMade → State → Type 0
HeardIn s xs (Heading head) = ⊥
HeardIn s xs (Running q) = Heard s xs (site_of q)

-- over a boot

module _ (laws : HeardLaws) (r : RunningState) where
  abbrev S : SiteState
  S = site_of r

  -- the outcome of a line in which these were reported
  abbrev Left : List ReportMade → Outcome → Type 0
  Left xs o = LeavesTo (HeardIn S xs) o

  heard-same : (a : Answer RunningState) → Leaves (SameBeside r) a → Left [] (in_boot r a)
  heard-same Refused same = (refl, refl)
  heard-same (Done q text) (sessions, start, places) = (ap (λ (x : Start). x.deployment) start, ap (λ (x : SeatsState). x.manager) places)

  heard-report : (names : List (List ℕ)) → Left (said_over r (lines.Boot (boots.Report names)) ++ []) (in_boot r (boot_line r (boots.Report names)))
  unfolding report_line
  heard-report names = go (report_said r.boot.start.deployment names r.sessions.moment)
    where
      go : (said : Option FailureReport) → Left (made_over S (reports_if said) ++ []) (in_boot r (within (with_seats r) (or_refused said (hears r.seats))))
      go None = (refl, refl)
      go (Some report) = (refl, (refl, refl, refl))

  heard-boot : (line : BootLine) → Left (said_over r (lines.Boot line) ++ []) (in_boot r (boot_line r line))
  unfolding table_step journal_step
  heard-boot (boots.Begin c) = heard-same (within (with_callers r) (begin_step r.boot r.callers c)) (same_called r (begin_step r.boot r.callers c))
  heard-boot (boots.Drop c) = heard-same (drop_step r c) (same_drop r c)
  heard-boot (boots.Down name) = heard-same (down_step r name) (same_down r name)
  heard-boot (boots.Up name) = heard-same (up_step r name) (same_up r name)
  heard-boot (boots.Reboot name) = heard-same (reboot_step r name) (same_reboot r name)
  heard-boot boots.Table = (refl, refl)
  heard-boot boots.Journal = (refl, refl)
  heard-boot (boots.Report names) = heard-report names

  heard-session : (a : Answer SessionsState) → Left [] (in_boot r (within (with_sessions r) a))
  heard-session Refused = (refl, refl)
  heard-session (Done sessions text) = (refl, refl)

  heard-reopen : (how : Opening) → OpensOver r.boot.start.deployment how → Left [] (reopens r how)
  heard-reopen (Opened start) over = (over, refl)
  heard-reopen (UnstartedBoot cause) over = (refl, refl)

  -- lines about connections

  heard-alone : (a : Answer SiteState) → ((t : SiteState) (text : List ℕ) → a ≡ Done t text → ChangesSeatsAlone S t text) → Left [] (in_boot r (within (with_site r) a))
  heard-alone Refused alone = (refl, refl)
  heard-alone (Done t text) alone =
      let its : ChangesSeatsAlone S t text = alone t text refl in
      (ap (λ (b : BootValue). b.start.deployment) its.boot, its.manager)

  heard-one : (n : ℕ) (keeps : Bool) → Left (flat_map step_reports (elim (step_line S n keeps) [ Refused ↦ [] | Done t out ↦ step_at S n keeps ∷ [] ])) (in_boot r (within (with_site r) (step_line S n keeps)))
  heard-one n keeps = go (step_line S n keeps) (one-heard laws S n keeps)
    where
      go : (a : Answer SiteState) → Leaves (λ (t : SiteState). Heard S (flat_map step_reports (step_at S n keeps ∷ [])) t) a
          → Left (flat_map step_reports (elim a [ Refused ↦ [] | Done t out ↦ step_at S n keeps ∷ [] ])) (in_boot r (within (with_site r) a))
      go Refused its = (refl, refl)
      go (Done t text) its = its

  heard-run : (n : ℕ) (replies : List Bool) → Left (flat_map step_reports (run_makes S n replies)) (by_replies r (seats.Run n) replies (run_line S n replies))
  heard-run n replies = go (can_run S n) refl
    where
      Made : List ReportMade
      Made = flat_map step_reports (run_makes S n replies)

      by : Bool → Outcome
      by can = by_replies r (seats.Run n) replies (cond can (run_from S [] n replies) (Some Refused))

      as_run : by (can_run S n) ≡ by_replies r (seats.Run n) replies (run_line S n replies)
      as_run = ap (by_replies r (seats.Run n) replies) (line_of_run S n replies)

      after : Heard S Made (after_steps S n replies)
      after = run-heard laws S n replies

      came : (o : Option (Answer SiteState)) → RunsTo (after_steps S n replies) o → Left Made (by_replies r (seats.Run n) replies o)
      came None to = after
      came (Some Refused) to = absurd to
      came (Some (Done t out)) to = subst (λ (x : SiteState). Heard S Made x) (sym to) after

      done : (can : Bool) → can_run S n ≡ can → Left Made (by can)
      done true can =
          let near : is_beyond n ≡ false = near_of (is_beyond n) (is_some r.sessions.store) (is_some (seat_at r.seats.seats n)) can in
          let bricks : is_some r.sessions.store ≡ true = bricks_of (is_beyond n) (is_some r.sessions.store) (is_some (seat_at r.seats.seats n)) can in
          came (run_from S [] n replies) (run_to S [] n replies near bricks)
      done false none =
          subst (λ (steps : List StepMade). Left (flat_map step_reports steps) (RefusedIn (Running r))) (sym (no_makes S n replies none)) (refl, refl)

      go : (can : Bool) → can_run S n ≡ can → Left Made (by_replies r (seats.Run n) replies (run_line S n replies))
      go can is = subst (Left Made) (ap by (sym is) ∙ as_run) (done can is)

  heard-line : (line : SeatLine) (replies : List Bool) → Left (flat_map step_reports (line_makes S line replies)) (by_replies r line replies (seat_line S line replies))
  heard-line (seats.Conn n) replies =
      heard-alone (conn_line S n) (λ t text is. laws.alone S t (seats.Conn n) replies text (ap (λ (a : Answer SiteState). Some a) is) refl)
  heard-line (seats.Bytes n bytes) replies =
      heard-alone (bytes_line S n bytes) (λ t text is. laws.alone S t (seats.Bytes n bytes) replies text (ap (λ (a : Answer SiteState). Some a) is) refl)
  heard-line (seats.End n) replies =
      heard-alone (end_line S n) (λ t text is. laws.alone S t (seats.End n) replies text (ap (λ (a : Answer SiteState). Some a) is) refl)
  heard-line (seats.Step n) [] = (refl, refl)
  heard-line (seats.Step n) (keeps ∷ more) = heard-one n keeps
  heard-line (seats.Run n) replies = heard-run n replies

  heard-seat : (line : SeatLine) (replies : List Bool) → Left (flat_map step_reports (seat_makes r line replies)) (seat_over r line replies)
  unfolding seat_over
  heard-seat line replies = go r.site
    where
      go : (site : Bool) → Left (flat_map step_reports (cond site (line_makes S line replies) [])) (cond site (by_replies r line replies (seat_line S line replies)) (RefusedIn (Running r)))
      go true = heard-line line replies
      go false = (refl, refl)

  heard-over : (line : Line) (replies : Replies) → Left (said_over r line ++ flat_map step_reports (makes_over r line replies)) (line_over r line replies)
  heard-over lines.Pass replies = (refl, refl)
  heard-over (lines.Head line) replies = (refl, refl)
  heard-over (lines.Call n line) replies = heard-same (within (with_called r) (call_step r.boot r.callers n line)) (same_entered r n line)
  heard-over (lines.Commit n) replies = heard-same (commit_step r n (first_keeps replies.keeps)) (same_commit r n (first_keeps replies.keeps))
  heard-over (lines.Boot line) replies = heard-boot line
  heard-over lines.Reopen replies =
      heard-reopen (next_opening r replies.again) (opens_over r.boot.start.deployment (left_by_process r.boot.start.plans) r.boot.start.limits replies.again)
  heard-over (lines.Session line) replies = heard-session (session_line r.sessions line)
  heard-over (lines.Seat line) replies = heard-seat line replies.keeps

-- over any state

-- A state leads to another, whose manager has heard these: the same manager, or a new one, where the boot is the first.
abbrev pub HeardTo : State → List ReportMade → State → Type 0
HeardTo (Running r) xs t = HeardIn (site_of r) xs t
HeardTo (Heading head) xs (Heading next) = xs ≡ []
HeardTo (Heading head) xs (Running q) =
    Hears q.boot.start.deployment (new_manager q.boot.start.deployment) xs q.seats.manager

heard-itself : (s : State) → HeardTo s [] s
heard-itself (Heading head) = refl
heard-itself (Running r) = (refl, refl)

heard-head : (head : Head) (a : Answer Head) → LeavesTo (HeardTo (Heading head) []) (in_head head a)
heard-head head Refused = refl
heard-head head (Done next text) = refl

-- the first boot starts over these parts, with a new manager
heard-first : (head : Head) (start : Start) (xs : List ReportMade) (t : State) → start.deployment ≡ head.parts → HeardIn (site_of (started (set_up head.setup 0) (no_seats head.parts) head.site start)) xs t → HeardTo (Heading head) xs t
heard-first head start xs (Heading next) over none = absurd none
heard-first head start xs (Running q) over (same, its) =
    subst (λ (p : Parts). Hears p (new_manager p) xs q.seats.manager) (sym (same ∙ over))
    (subst (λ (p : Parts). Hears p (new_manager head.parts) xs q.seats.manager) over its)

leaves-first : (head : Head) (start : Start) (xs : List ReportMade) (o : Outcome) → start.deployment ≡ head.parts → LeavesTo (HeardIn (site_of (started (set_up head.setup 0) (no_seats head.parts) head.site start)) xs) o → LeavesTo (HeardTo (Heading head) xs) o
leaves-first head start xs (RefusedIn t) over its = heard-first head start xs t over its
leaves-first head start xs (DoneTo t text) over its = heard-first head start xs t over its
leaves-first head start xs (UnstartedIn t cause) over its = heard-first head start xs t over its
leaves-first head start xs (UnderWayIn t) over its = heard-first head start xs t over its

module _ (laws : HeardLaws) where
  -- what a line reports that is done to a target
  abbrev made-on : Target → Line → Replies → List ReportMade
  made-on target line replies = said_on target line ++ flat_map step_reports (makes_on target line replies)

  heard-opened : (head : Head) (how : Opening) (line : Line) (replies : Replies) → OpensOver head.parts how
      → LeavesTo (HeardTo (Heading head) (made-on (opened_target head how) line replies)) (line_on (opened_target head how) line replies)
  heard-opened head (Opened start) line replies over =
      let r : RunningState = started (set_up head.setup 0) (no_seats head.parts) head.site start in
      leaves-first head start (said_over r line ++ flat_map step_reports (makes_over r line replies)) (line_over r line replies) over (heard-over laws r line replies)
  heard-opened head (UnstartedBoot cause) line replies over = refl

  heard-step : (s : State) (line : Line) (replies : Replies) → LeavesTo (HeardTo s (made-on (target_of s (is_event line) replies.first) line replies)) (step s line replies)
  unfolding step
  heard-step (Running r) line replies = heard-over laws r line replies
  heard-step (Heading head) line replies = go (is_event line)
    where
      go : (event : Bool) → LeavesTo (HeardTo (Heading head) (made-on (target_of (Heading head) event replies.first) line replies)) (line_on (target_of (Heading head) event replies.first) line replies)
      go false = heard-head head (head_line head line)
      go true =
          heard-opened head (opening head.parts head.plans head.limits replies.first) line replies
          (opens_over head.parts head.plans head.limits replies.first)

  heard-answer : (s : State) (o : Option Line) (replies : Replies) → LeavesTo (HeardTo s (said_to s o replies ++ flat_map step_reports (makes_to s o replies))) (answer_to s o replies)
  heard-answer s None replies = heard-itself s
  heard-answer s (Some line) replies = heard-step s line replies

  pub heard-turn : (s : State) (turn : Turn) → LeavesTo (HeardTo s (turn_reports s turn)) (turn_outcome s turn)
  unfolding turn_reports turn_outcome turn_makes
  heard-turn s turn = heard-answer s (line_of turn.line) turn.replies
