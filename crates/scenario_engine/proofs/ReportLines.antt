-- Which reports lines make, and what is written of the decisions on them.
use Rattle.std.proofs.Common.{◌≡◌, ◌≢◌, inl, inr, ℕ, ◌+◌, ◌<◌, ◌≤◌, Bool, true, false, cond, nat_lt, List, [], ◌∷◌, ◌++◌, append-nil, append_assoc, length, map, Option, Some, None, refl, sym, ap, ◌∙◌, subst, arith}
use Rattle.std.specs.Prelude.{option_and_then, option_map}
use Rattle.std.specs.List.{flat_map}
use Rattle.std.proofs.lemmas.Bool.{cases_lt}
use Rattle.std.proofs.lemmas.Bool.Decides.{nat_tests}
use Rattle.auction_calls.specs.declared.action.ActionCall.{ActionCall}
use Rattle.crash_base.specs.declared.numbers.ComponentNo.{ComponentNo}
use Rattle.crash_base.specs.declared.numbers.Moment.{Moment}
use Rattle.deployment.specs.Parts.{component_no, named}
use Rattle.deployment.specs.declared.parts.Parts.{Parts}
use Rattle.failure_scores.specs.Scores.{report_of}
use Rattle.failure_scores.specs.declared.report.FailureReport.{FailureReport}
use Rattle.failure_scores.specs.declared.report.FailureReport.TheVariants.{Path, JournalFull}
use Rattle.recovery_manager.specs.Events.{later, no_earlier}
use Rattle.line_steps.specs.declared.head.Head.{Head}
use Rattle.scenario_text.specs.Answer.{Done, or_refused, within}
use Rattle.scenario_text.specs.Reading.{line_of}
use Rattle.scenario_text.specs.declared.boot_line.BootLine.TheVariants as boots
use Rattle.scenario_text.specs.declared.line.Line.{Line}
use Rattle.scenario_text.specs.declared.line.Line.TheVariants as lines
use Rattle.scenario_text.specs.declared.line.TheConstants.{MAX_LINE_BYTES}
use Rattle.scenario_text.specs.declared.seat_line.SeatLine.{SeatLine}
use Rattle.seat_lines.specs.Changing.{IsLeftBySeat}
use Rattle.seat_lines.specs.Hearing.{decided_text, hears, manager_after, path_of, report_line, report_said}
use Rattle.seat_lines.specs.Items.{over_yields, place_yields, reports_at, reports_if, step_yields}
use Rattle.seat_lines.specs.Lines.{givens_of, is_beyond, moves, step_line, step_text, world_of}
use Rattle.seat_lines.specs.Making.{StepMade, line_makes}
use Rattle.seat_lines.specs.Site.{SiteState, no_seats, seat_at}
use Rattle.seat_lines.specs.Texts.{decide_text}
use Rattle.seat_steps.specs.Seats.{SeatGivens, SeatOutcome, SeatWorld, behind_event, report_at, seat_step}
use Rattle.seat_steps.specs.declared.seat.Seat.{Seat}
use Rattle.session_lanes.specs.Lanes.{LanesState}
use Rattle.session_steps.specs.Setup.{set_up}
use Rattle.shepherd.specs.Reports.{report_in}
use Rattle.shepherd.specs.Shepherds.{turn as turn_of}
use Rattle.shepherd.specs.declared.shepherd.ShepherdTurn.{ShepherdTurn}
use Rattle.shepherd.specs.declared.shepherd.ShepherdTurn.TheVariants as turns
use Rattle.shepherd.specs.declared.shepherd.Stage.{Stage}
use Rattle.scenario_engine.proofs.HeardSteps.{reports-moved}
use Rattle.scenario_engine.proofs.SeatsStand.{near_done}
use Rattle.scenario_engine.proofs.StepsMade.{turn_made}
use Rattle.scenario_engine.specs.Connections.{makes_on, makes_to, step_leaves, turn_makes}
use Rattle.scenario_engine.specs.Engine.{Replies, line_on, opened_target, step}
use Rattle.scenario_engine.specs.Opening.{Opening, Opened, UnstartedBoot, opening}
use Rattle.scenario_engine.specs.Reports.{ReportMade, decided_on, decisions_text, made_over, reports_by, reports_from, said_on, said_to, step_reports, turn_reports}
use Rattle.scenario_engine.specs.Running.{boot_line, started, with_seats}
use Rattle.scenario_engine.specs.Seats.{in_boot}
use Rattle.scenario_engine.specs.State.{RunningState, State, Heading, Running, Outcome, RefusedIn, DoneTo, UnstartedIn, UnderWayIn, site_of}
use Rattle.scenario_engine.specs.Transcript.{Turn, Ended, RefusedAt, TooLong, Unstarted, UnderWay, answer_to, end_from, first, turn_outcome}

-- a line that says a report

-- What is known of a line `report` that is done: the report that it says was made, and its decision is written.
abbrev pub TellsOne : List (List ℕ) → List ReportMade → List ℕ → Type 0
TellsOne names reports text =
    (made : ReportMade) × (reports ≡ made ∷ [])
    × (report_said made.site.boot.start.deployment names made.site.sessions.moment ≡ Some made.report)
    × (text ≡ decide_text (decided_on made))

one-text : (s t : State) (a b : List ℕ) → DoneTo s a ≡ DoneTo t b → b ≡ a
one-text s t a b is = cc

line-over : (r : RunningState) (names : List (List ℕ)) (t : State) (text : List ℕ) → in_boot r (boot_line r (boots.Report names)) ≡ DoneTo t text
    → TellsOne names (made_over (site_of r) (reports_if (report_said r.boot.start.deployment names r.sessions.moment)) ++ []) text
unfolding report_line
line-over r names t text done = go (report_said r.boot.start.deployment names r.sessions.moment) refl done
  where
    go : (said : Option FailureReport) → report_said r.boot.start.deployment names r.sessions.moment ≡ said → in_boot r (within (with_seats r) (or_refused said (hears r.seats))) ≡ DoneTo t text
        → TellsOne names (made_over (site_of r) (reports_if said) ++ []) text
    go None is done = absurd (cc)
    go (Some report) is done = (
      record { site = site_of r; report = report },
      refl,
      is,
      one-text (Running (with_seats r (record (r.seats) { manager = manager_after r.seats.manager (Some report) }))) t (decided_text r.seats.manager (Some report)) text done,
    )

abbrev the-line : List (List ℕ) → Line
the-line names = lines.Boot (boots.Report names)

line-opened : (head : Head) (how : Opening) (names : List (List ℕ)) (replies : Replies) (t : State) (text : List ℕ) → line_on (opened_target head how) (the-line names) replies ≡ DoneTo t text
    → TellsOne names (said_on (opened_target head how) (the-line names) ++ flat_map step_reports (makes_on (opened_target head how) (the-line names) replies)) text
line-opened head (Opened start) names replies t text done = line-over (started (set_up head.setup 0) (no_seats head.parts) head.site start) names t text done
line-opened head (UnstartedBoot cause) names replies t text done = absurd (cc)

line-to : (s : State) (names : List (List ℕ)) (replies : Replies) (t : State) (text : List ℕ) → step s (the-line names) replies ≡ DoneTo t text
    → TellsOne names (said_to s (Some (the-line names)) replies ++ flat_map step_reports (makes_to s (Some (the-line names)) replies)) text
unfolding step
line-to (Running r) names replies t text done = line-over r names t text done
line-to (Heading head) names replies t text done = line-opened head (opening head.parts head.plans head.limits replies.first) names replies t text done

pub line-tells : (s t : State) (turn : Turn) (names : List (List ℕ)) (text : List ℕ) → line_of turn.line ≡ Some (the-line names) → turn_outcome s turn ≡ DoneTo t text → TellsOne names (turn_reports s turn) text
unfolding turn_reports turn_outcome turn_makes
line-tells s t turn names text spells done =
    subst P (sym spells) (λ is. line-to s names turn.replies t text is) done
  where
    P : Option Line → Type 0
    P o = answer_to s o turn.replies ≡ DoneTo t text → TellsOne names (said_to s o turn.replies ++ flat_map step_reports (makes_to s o turn.replies)) text

-- steps

pub line-steps : (r : RunningState) (turn : Turn) (line : SeatLine) → line_of turn.line ≡ Some (lines.Seat line) → r.site ≡ true → turn_reports (Running r) turn ≡ flat_map step_reports (line_makes (site_of r) line turn.replies.keeps)
unfolding turn_reports
line-steps r turn line spells is =
    ap (λ (o : Option Line). said_to (Running r) o turn.replies ++ flat_map step_reports (turn_makes (Running r) turn)) spells
    ∙ ap (λ (steps : List StepMade). flat_map step_reports steps) (turn_made r turn line spells is)

-- what a manager decides on a report, or on none, is written
text-of : (s : SiteState) (o : Option FailureReport) → decided_text s.seats.manager o ≡ decisions_text (made_over s (reports_if o))
text-of s None = refl
text-of s (Some report) = sym (append-nil (decided_text s.seats.manager (Some report)))

-- the law of a step that is made
abbrev pub MovedLaw : Type 0
MovedLaw = (s t : SiteState) (n : ℕ) (keeps : Bool) (text : List ℕ) (seat : Seat) (st : LanesState) → seat_at s.seats.seats n ≡ Some seat → s.sessions.store ≡ Some st → moves (turn_of seat.connection) ≡ true
    → step_line s n keeps ≡ Done t text → IsLeftBySeat s n (turn_of seat.connection) (seat_step (givens_of s n keeps) seat (world_of s st)) t text

pub step-tells : MovedLaw → (step : StepMade) (t : SiteState) (text : List ℕ) (seat : Seat) (st : LanesState) → seat_at step.site.seats.seats step.number ≡ Some seat → step.site.sessions.store ≡ Some st → moves (turn_of seat.connection) ≡ true
    → step_line step.site step.number step.keeps ≡ Done t text → text ≡ step_text (turn_of seat.connection) step.number (step_leaves step seat st).bytes ++ decisions_text (step_reports step)
step-tells law step t text seat st there bricks moving done =
    let s : SiteState = step.site in
    let o : SeatOutcome = step_leaves step seat st in
    let left : IsLeftBySeat s step.number (turn_of seat.connection) o t text = law s t step.number step.keeps text seat st there bricks moving done in
    let near : is_beyond step.number ≡ false = near_done s t step.number step.keeps text done in
    left.text_is
    ∙ ap (λ (out : List ℕ). step_text (turn_of seat.connection) step.number o.bytes ++ out)
    (text-of s o.report
    ∙ ap (λ (reports : List FailureReport). decisions_text (made_over s reports)) (sym (reports-moved s step.number step.keeps seat st near bricks there moving)))

-- what is reported by reports over a site are these
made-back : (s : SiteState) (reports : List FailureReport) → reports_by (made_over s reports) ≡ reports
made-back s [] = refl
made-back s (report ∷ more) = ap (λ (xs : List FailureReport). report ∷ xs) (made-back s more)

-- a step of a seat reports what its connection does behind the event
seat-reports : (g : SeatGivens) (seat : Seat) (w : SeatWorld) → (seat_step g seat w).report ≡ report_at (turn_of seat.connection) (behind_event g seat w).stage
unfolding seat_step
seat-reports g seat w = refl

pub step-failed : (step : StepMade) (t : SiteState) (text : List ℕ) (seat : Seat) (st : LanesState) → seat_at step.site.seats.seats step.number ≡ Some seat → step.site.sessions.store ≡ Some st
    → step_line step.site step.number step.keeps ≡ Done t text → turn_of seat.connection ≡ turns.Inside
    → reports_by (step_reports step) ≡ reports_if (report_in (behind_event (givens_of step.site step.number step.keeps) seat (world_of step.site st)).stage)
step-failed step t text seat st there bricks done is =
    let s : SiteState = step.site in
    let g : SeatGivens = givens_of s step.number step.keeps in
    let w : SeatWorld = world_of s st in
    let near : is_beyond step.number ≡ false = near_done s t step.number step.keeps text done in
    made-back s (step_yields reports_at s step.number step.keeps)
    ∙ (reports-moved s step.number step.keeps seat st near bricks there (ap moves is)
    ∙ ap reports_if (seat-reports g seat w ∙ ap (λ (x : ShepherdTurn). report_at x (behind_event g seat w).stage) is))

-- no other step reports anything
none-else : (x : ShepherdTurn) (stage : Stage ActionCall) → x ≢ turns.Inside → report_at x stage ≡ None
none-else turns.Bytes stage not = refl
none-else turns.Request stage not = refl
none-else turns.Outside stage not = refl
none-else turns.Windows stage not = refl
none-else turns.Inside stage not = absurd (not refl)
none-else turns.Program stage not = refl
none-else turns.Own stage not = refl
none-else turns.Output stage not = refl
none-else turns.Item stage not = refl
none-else (turns.Ended end) stage not = refl

none-if : (b : Bool) (o : Option FailureReport) → o ≡ None → cond b (reports_if o) [] ≡ []
none-if true o none = ap reports_if none
none-if false o none = refl

pub step-elsewhere : (step : StepMade) (seat : Seat) → seat_at step.site.seats.seats step.number ≡ Some seat → turn_of seat.connection ≢ turns.Inside → step_reports step ≡ []
step-elsewhere step seat there not = ap (λ (xs : List FailureReport). made_over step.site xs) (far (is_beyond step.number))
  where
    over : (o : Option LanesState) → over_yields reports_at step.site step.number step.keeps o ≡ []
    over None = refl
    over (Some st) =
        let g : SeatGivens = givens_of step.site step.number step.keeps in
        let w : SeatWorld = world_of step.site st in
        ap (λ (o : Option Seat). place_yields reports_at g o w) there
        ∙ none-if (moves (turn_of seat.connection)) (seat_step g seat w).report (seat-reports g seat w ∙ none-else (turn_of seat.connection) (behind_event g seat w).stage not)

    far : (b : Bool) → cond b [] (over_yields reports_at step.site step.number step.keeps step.site.sessions.store) ≡ []
    far true = refl
    far false = over step.site.sessions.store

-- names of components lead to them
pub names-lead : (parts : Parts) (names : List (List ℕ)) (path : List ComponentNo) → path_of parts names ≡ Some path
    → map (λ (c : ComponentNo). Some c.0) path ≡ map (λ (name : List ℕ). named parts.components name) names
names-lead parts [] path is = ap (λ (p : List ComponentNo). map (λ (c : ComponentNo). Some c.0) p) (none path is)
  where
    none : (path : List ComponentNo) → Some [] ≡ Some path → path ≡ []
    none path is = cc
names-lead parts (name ∷ names) path is = go (named parts.components name) (path_of parts names) (λ p on. names-lead parts names p on) is
  where
    back : (c : ComponentNo) (p path : List ComponentNo) → Some (c ∷ p) ≡ Some path → path ≡ c ∷ p
    back c p path is = cc

    go : (o : Option ℕ) (rest : Option (List ComponentNo)) → ((p : List ComponentNo) → rest ≡ Some p → map (λ (c : ComponentNo). Some c.0) p ≡ map (λ (name : List ℕ). named parts.components name) names)
        → option_and_then (λ n. option_map (λ path. component_no n ∷ path) rest) o ≡ Some path
        → map (λ (c : ComponentNo). Some c.0) path ≡ o ∷ map (λ (name : List ℕ). named parts.components name) names
    go None rest later is = absurd (cc)
    go (Some n) None later is = absurd (cc)
    go (Some n) (Some p) later is =
        ap (λ (q : List ComponentNo). map (λ (c : ComponentNo). Some c.0) q) (back (component_no n) p path is)
        ∙ ap (λ (xs : List (Option ℕ)). Some n ∷ xs) (later p refl)

-- a line that says a report is done, and changes the manager alone
pub line-done : (r : RunningState) (turn : Turn) (names : List (List ℕ)) (report : FailureReport) → line_of turn.line ≡ Some (the-line names) → report_said r.boot.start.deployment names r.sessions.moment ≡ Some report
    → turn_outcome (Running r) turn ≡ DoneTo (Running (with_seats r (record (r.seats) { manager = manager_after r.seats.manager (Some report) }))) (decided_text r.seats.manager (Some report))
unfolding turn_outcome step report_line
line-done r turn names report spells is =
    ap (λ (o : Option Line). answer_to (Running r) o turn.replies) spells
    ∙ ap (λ (said : Option FailureReport). in_boot r (within (with_seats r) (or_refused said (hears r.seats)))) is

-- moments

later-up : (a b : Moment) → a.0 ≤ b.0 → later a b ≡ b
later-up a b up = elim (cases_lt a.0 b.0) [
  | inl less ↦ (let test : nat_lt a.0 b.0 ≡ true = grind (arith, nat_tests) in ap (λ (x : Bool). cond x b a) test)
  | inr same ↦ (let test : nat_lt a.0 b.0 ≡ false = grind (arith, nat_tests) in
      let one : a.0 ≡ b.0 = omega (arith, up, same) in
      ap (λ (x : Bool). cond x b a) test ∙ ap (λ (n : ℕ). let m : Moment = record { 0 = n } in m) one)
]

later-down : (a b : Moment) → b.0 < a.0 → later a b ≡ a
later-down a b down = let test : nat_lt a.0 b.0 ≡ false = grind (arith, nat_tests) in ap (λ (x : Bool). cond x b a) test

pub moments-rise : (before at : Moment) (path : List ComponentNo)
    → (before.0 ≤ at.0 → (no_earlier before (Path (report_of path at)) ≡ Path (report_of path at)) × (no_earlier before (JournalFull at) ≡ JournalFull at))
    × (at.0 < before.0 → (no_earlier before (Path (report_of path at)) ≡ Path (report_of path before)) × (no_earlier before (JournalFull at) ≡ JournalFull before))
unfolding no_earlier
moments-rise before at path = (
  λ up. (ap (λ (m : Moment). Path (report_of path m)) (later-up before at up), ap (λ (m : Moment). JournalFull m) (later-up before at up)),
  λ down. (ap (λ (m : Moment). Path (report_of path m)) (later-down before at down), ap (λ (m : Moment). JournalFull m) (later-down before at down)),
)

-- turns

-- the reports of turns that were done, and of more behind them
reports-more : (s t : State) (n : ℕ) (turns more : List Turn) → end_from s n turns ≡ Ended t → reports_from s (turns ++ more) ≡ reports_from s turns ++ reports_from t more
reports-more s t n [] more h = let same : s ≡ t = cc in ap (λ (u : State). reports_from u more) same
reports-more s t n (turn ∷ turns) more h = go (nat_lt MAX_LINE_BYTES (length turn.line)) (turn_outcome s turn) (λ u k. reports-more u t (n + 1) turns more k) h
  where
    go : (long : Bool) (o : Outcome) → ((u : State) → end_from u (n + 1) turns ≡ Ended t → reports_from u (turns ++ more) ≡ reports_from u turns ++ reports_from t more)
        → cond long (TooLong s n) (elim o [ RefusedIn u ↦ RefusedAt u n | DoneTo u text ↦ end_from u (n + 1) turns | UnstartedIn u r ↦ Unstarted u r | UnderWayIn u ↦ UnderWay u n ]) ≡ Ended t
        → cond long [] (turn_reports s turn ++ elim o [ RefusedIn u ↦ [] | DoneTo u text ↦ reports_from u (turns ++ more) | UnstartedIn u r ↦ [] | UnderWayIn u ↦ [] ])
        ≡ cond long [] (turn_reports s turn ++ elim o [ RefusedIn u ↦ [] | DoneTo u text ↦ reports_from u turns | UnstartedIn u r ↦ [] | UnderWayIn u ↦ [] ]) ++ reports_from t more
    go true o later k = absurd (cc)
    go false (RefusedIn u) later k = absurd (cc)
    go false (DoneTo u text) later k =
        ap (λ (xs : List ReportMade). turn_reports s turn ++ xs) (later u k) ∙ sym (append_assoc (turn_reports s turn) (reports_from u turns) (reports_from t more))
    go false (UnstartedIn u r) later k = absurd (cc)
    go false (UnderWayIn u) later k = absurd (cc)

short-test : (line : List ℕ) → length line ≤ MAX_LINE_BYTES → nat_lt MAX_LINE_BYTES (length line) ≡ false
short-test line short = grind (arith, nat_tests)

-- the reports of one turn, however it ends
reports-turn : (s : State) (turn : Turn) → length turn.line ≤ MAX_LINE_BYTES → reports_from s (turn ∷ []) ≡ turn_reports s turn
reports-turn s turn short =
    ap (λ (b : Bool). cond b [] (turn_reports s turn ++ elim (turn_outcome s turn) [ RefusedIn u ↦ [] | DoneTo u w ↦ [] | UnstartedIn u r ↦ [] | UnderWayIn u ↦ [] ])) (short-test turn.line short)
    ∙ go (turn_outcome s turn)
  where
    go : (o : Outcome) → turn_reports s turn ++ elim o [ RefusedIn u ↦ [] | DoneTo u w ↦ [] | UnstartedIn u r ↦ [] | UnderWayIn u ↦ [] ] ≡ turn_reports s turn
    go (RefusedIn u) = append-nil (turn_reports s turn)
    go (DoneTo u w) = append-nil (turn_reports s turn)
    go (UnstartedIn u r) = append-nil (turn_reports s turn)
    go (UnderWayIn u) = append-nil (turn_reports s turn)

pub reports-push : (turns : List Turn) (turn : Turn) (s : State) → end_from first 1 turns ≡ Ended s → length turn.line ≤ MAX_LINE_BYTES → reports_from first (turns ++ turn ∷ []) ≡ reports_from first turns ++ turn_reports s turn
reports-push turns turn s h short =
    reports-more first s 1 turns (turn ∷ []) h ∙ ap (λ (xs : List ReportMade). reports_from first turns ++ xs) (reports-turn s turn short)
