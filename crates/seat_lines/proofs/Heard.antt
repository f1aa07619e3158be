-- The manager hears what the steps of lines report, and what the lines `report` say.
use Rattle.std.proofs.Common.{◌≡◌, ◌⊎◌, ◌∙◌, inl, inr, ℕ, ◌<◌, ◌≤◌, Bool, true, false, cond, List, [], ◌∷◌, ◌++◌, length, Option, Some, None, refl, sym, ap, zero, suc, arith}
use Rattle.std.specs.Prelude.{Contains, nat_lt, option_and_then, option_map}
use Rattle.std.proofs.lemmas.Bool.Decides.{nat_tests}
use Rattle.crash_base.specs.declared.numbers.ComponentNo.{ComponentNo}
use Rattle.crash_base.specs.declared.numbers.Moment.{Moment}
use Rattle.deployment.specs.Parts.{component_no, named}
use Rattle.deployment.specs.declared.parts.Parts.{Parts}
use Rattle.failure_scores.specs.declared.report.FailureReport.{FailureReport}
use Rattle.failure_scores.specs.declared.report.FailureReport.TheVariants.{Path}
use Rattle.recovery_manager.specs.Kept.{ManagerValue}
use Rattle.scenario_text.specs.Answer.{Answer, Refused, Done, or_refused}
use Rattle.scenario_text.specs.declared.boot_line.TheConstants.{MAX_PATH}
use Rattle.scenario_text.specs.declared.seat_line.SeatLine.{SeatLine}
use Rattle.scenario_text.specs.declared.seat_line.SeatLine.TheVariants as lines
use Rattle.seat_steps.specs.Seats.{SeatOutcome, seat_step}
use Rattle.seat_steps.specs.declared.seat.Seat.{Seat}
use Rattle.session_lanes.specs.Lanes.{LanesState}
use Rattle.shepherd.specs.Shepherds.{turn}
use Rattle.shepherd.specs.declared.shepherd.EndKind.{EndKind}
use Rattle.shepherd.specs.declared.shepherd.ShepherdTurn.{ShepherdTurn}
use Rattle.shepherd.specs.declared.shepherd.ShepherdTurn.TheVariants as turns
use Rattle.seat_lines.specs.Changing.{IsLeftBySeat}
use Rattle.seat_lines.specs.Hearing.{hears, manager_after, manager_by, path_of, report_line}
use Rattle.seat_lines.specs.Items.{line_reports, reports_at, reports_if, run_yields, step_yields}
use Rattle.seat_lines.specs.Lines.{givens_of, moves, step_line, world_of}
use Rattle.seat_lines.specs.Making.{line_makes, reports_made}
use Rattle.seat_lines.specs.Runs.{rests, run_from, seat_line}
use Rattle.seat_lines.specs.Site.{SeatsState, SiteState, seat_at}
use Rattle.seat_lines.proofs.Answering.{run_begun}
use Rattle.seat_lines.proofs.Keeping.{given, line_by_steps, run_by_steps}
use Rattle.seat_lines.proofs.OneSeat.{answer_is, still_alone}
use Rattle.seat_lines.proofs.Saying.{heard_on}
use Rattle.seat_lines.proofs.SeatSteps.{goes_ended, left_by_seat, none_steps, stays_at, waits_still, with_bricks}

-- The reports of lines are those of their steps.
pub reports_by_steps : (s t : SiteState) (line : SeatLine) (replies : List Bool) (text : List ℕ) → seat_line s line replies ≡ Some (Done t text) → line_reports s line replies ≡ reports_made (line_makes s line replies)
reports_by_steps s t (lines.Conn n) replies text is = refl
reports_by_steps s t (lines.Bytes n bytes) replies text is = refl
reports_by_steps s t (lines.End n) replies text is = refl
reports_by_steps s t (lines.Step n) [] text is = refl
reports_by_steps s t (lines.Step n) (keeps ∷ more) text is = line_by_steps reports_at n keeps more s t text (answer_is (step_line s n keeps) t text is)
reports_by_steps s t (lines.Run n) replies text is = run_by_steps reports_at n replies s

-- a report is heard, if there is one
heard_if : (m : ManagerValue) (report : Option FailureReport) → manager_after m report ≡ manager_by m (reports_if report)
heard_if m None = refl
heard_if m (Some report) = refl

-- at a turn at which no step is made, there is none
none_reported : (t : ShepherdTurn) (o : SeatOutcome) → moves t ≡ false → reports_at t o ≡ []
none_reported t o still = ap (λ (b : Bool). cond b (reports_if o.report) []) still

module _ (s : SiteState) (n : ℕ) (keeps : Bool) (t : SiteState) (text : List ℕ) (is : step_line s n keeps ≡ Done t text) where
  module _ (seat : Seat) (there : seat_at s.seats.seats n ≡ Some seat) (st : LanesState) (bricks : s.sessions.store ≡ Some st) where
    abbrev o : SeatOutcome
    o = seat_step (givens_of s n keeps) seat (world_of s st)

    abbrev at : ShepherdTurn
    at = turn seat.connection

    -- what the step of a connection reports that is there
    reported : step_yields reports_at s n keeps ≡ reports_at at o
    reported = given s n keeps t text is reports_at seat st there bricks

    moving_hears : moves at ≡ true → t.seats.manager ≡ manager_by s.seats.manager (step_yields reports_at s n keeps)
    moving_hears moving =
        let left : IsLeftBySeat s n at o t text = left_by_seat s n keeps t text seat st there bricks moving is in
        let all : reports_at at o ≡ reports_if o.report = ap (λ (b : Bool). cond b (reports_if o.report) []) moving in
        left.manager ∙ (heard_if s.seats.manager o.report ∙ ap (λ (rs : List FailureReport). manager_by s.seats.manager rs) (sym (reported ∙ all)))

    same_hears : moves at ≡ false → t.seats.manager ≡ s.seats.manager → t.seats.manager ≡ manager_by s.seats.manager (step_yields reports_at s n keeps)
    same_hears still same = same ∙ ap (λ (rs : List FailureReport). manager_by s.seats.manager rs) (sym (reported ∙ none_reported at o still))

    place_hears : t.seats.manager ≡ manager_by s.seats.manager (step_yields reports_at s n keeps)
    place_hears = by (moves at) refl where
      still : moves at ≡ false → ((at ≡ turns.Bytes) ⊎ ((end : EndKind) × (at ≡ turns.Ended end))) → t.seats.manager ≡ manager_by s.seats.manager (step_yields reports_at s n keeps)
      still rest (inl waiting) = same_hears rest (ap (λ (x : SiteState). x.seats.manager) (waits_still s n keeps t text seat there waiting is).0)
      still rest (inr (end, over)) = same_hears rest (ap (λ (x : SiteState). x.seats.manager) (goes_ended s n keeps t text seat end there over is).0)

      by : (b : Bool) → moves at ≡ b → t.seats.manager ≡ manager_by s.seats.manager (step_yields reports_at s n keeps)
      by true moving = moving_hears moving
      by false rest = still rest (stays_at at rest)

  -- the manager hears what a step reports
  pub step_hears : t.seats.manager ≡ manager_by s.seats.manager (step_yields reports_at s n keeps)
  step_hears = go (with_bricks s n keeps t text is) where
    at_place : (st : LanesState) → s.sessions.store ≡ Some st → (x : Option Seat) → seat_at s.seats.seats n ≡ x → t.seats.manager ≡ manager_by s.seats.manager (step_yields reports_at s n keeps)
    at_place st bricks None none = absurd (let refuses : Refused ≡ Done t text = sym (none_steps s n keeps none) ∙ is in cc)
    at_place st bricks (Some seat) there = place_hears seat there st bricks

    go : ((st : LanesState) × (s.sessions.store ≡ Some st)) → t.seats.manager ≡ manager_by s.seats.manager (step_yields reports_at s n keeps)
    go (st, bricks) = at_place st bricks (seat_at s.seats.seats n) refl

-- what the steps of a run report
run_hears : (n : ℕ) (replies : List Bool) (s : SiteState) (text : List ℕ) (t : SiteState) (out : List ℕ) → run_from s text n replies ≡ Some (Done t out) → t.seats.manager ≡ manager_by s.seats.manager (run_yields reports_at s n replies)
run_hears n [] s text t out is = go (rests (seat_at s.seats.seats n)) is where
  go : (b : Bool) → cond b (Some (Done s text)) None ≡ Some (Done t out) → t.seats.manager ≡ s.seats.manager
  go true e = let same : t ≡ s = cc in ap (λ (x : SiteState). x.seats.manager) same
  go false e = absurd (cc)
run_hears n (keeps ∷ more) s text t out is = go (λ x o. run_hears n more x (text ++ o) t out) (rests (seat_at s.seats.seats n)) (step_line s n keeps) refl is where
  Later : Type 0
  Later = (x : SiteState) (o : List ℕ) → run_from x (text ++ o) n more ≡ Some (Done t out) → t.seats.manager ≡ manager_by x.seats.manager (run_yields reports_at x n more)

  go : Later → (b : Bool) (a : Answer SiteState) → step_line s n keeps ≡ a → cond b (Some (Done s text)) (elim a [ Refused ↦ Some Refused | Done x o ↦ run_from x (text ++ o) n more ]) ≡ Some (Done t out)
      → t.seats.manager ≡ manager_by s.seats.manager (cond b [] (elim a [ Refused ↦ [] | Done x o ↦ step_yields reports_at s n keeps ++ run_yields reports_at x n more ]))
  go later true a at e = let same : t ≡ s = cc in ap (λ (x : SiteState). x.seats.manager) same
  go later false Refused at e = absurd (cc)
  go later false (Done x o) at e =
      later x o e
      ∙ (ap (λ (m : ManagerValue). manager_by m (run_yields reports_at x n more)) (step_hears s n keeps x o at)
      ∙ sym (heard_on (step_yields reports_at s n keeps) (run_yields reports_at x n more) s.seats.manager))

-- The manager hears what a line reports, and nothing else.
pub line_hears : (s t : SiteState) (line : SeatLine) (replies : List Bool) (text : List ℕ) → seat_line s line replies ≡ Some (Done t text) → t.seats.manager ≡ manager_by s.seats.manager (line_reports s line replies)
line_hears s t (lines.Conn n) replies text is = (still_alone s t (lines.Conn n) replies text is refl).manager
line_hears s t (lines.Bytes n bytes) replies text is = (still_alone s t (lines.Bytes n bytes) replies text is refl).manager
line_hears s t (lines.End n) replies text is = (still_alone s t (lines.End n) replies text is refl).manager
line_hears s t (lines.Step n) [] text is = absurd (cc)
line_hears s t (lines.Step n) (keeps ∷ more) text is = step_hears s n keeps t text (answer_is (step_line s n keeps) t text is)
line_hears s t (lines.Run n) replies text is = run_hears n replies s [] t text (run_begun s t n replies text is)

-- A line `report`.

module _ (parts : Parts) (s : SeatsState) (names : List (List ℕ)) (now : Moment) where
  -- what it comes to, by how many names there are and by the path of them
  abbrev ComesTo : Bool → Option (List ComponentNo) → Answer SeatsState
  ComesTo many path = or_refused (cond many None (option_map (λ p. Path (record { path = p; moment = now })) path)) (hears s)

  pub is_reported : (path : List ComponentNo) → length names ≤ 16 → path_of parts names ≡ Some path → report_line parts s names now ≡ hears s (Path (record { path = path; moment = now }))
  unfolding report_line
  is_reported path few is =
      let fits : nat_lt MAX_PATH (length names) ≡ false = grind (arith, nat_tests, few) in
      ap (λ (b : Bool). ComesTo b (path_of parts names)) fits ∙ ap (λ (p : Option (List ComponentNo)). ComesTo false p) is

  pub many_refused : 16 < length names → report_line parts s names now ≡ Refused
  unfolding report_line
  many_refused many =
      let beyond : nat_lt MAX_PATH (length names) ≡ true = grind (arith, nat_tests, many) in
      ap (λ (b : Bool). ComesTo b (path_of parts names)) beyond

  either_refused : (b : Bool) → ComesTo b None ≡ Refused
  either_refused true = refl
  either_refused false = refl

  pub none_refused : path_of parts names ≡ None → report_line parts s names now ≡ Refused
  unfolding report_line
  none_refused none = ap (λ (p : Option (List ComponentNo)). ComesTo (nat_lt MAX_PATH (length names)) p) none ∙ either_refused (nat_lt MAX_PATH (length names))

-- a name that is no component's
pub unknown_none : (parts : Parts) (names : List (List ℕ)) (name : List ℕ) → Contains names name → named parts.components name ≡ None → path_of parts names ≡ None
unknown_none parts [] name (k, within, is) none = absurd (omega (arith, within))
unknown_none parts (first ∷ names) name (zero, within, is) none =
    ap (λ (o : Option ℕ). option_and_then (λ (n : ℕ). option_map (λ (path : List ComponentNo). component_no n ∷ path) (path_of parts names)) o)
    (ap (λ (x : List ℕ). named parts.components x) is ∙ none)
unknown_none parts (first ∷ names) name (suc k, within, is) none =
    go (unknown_none parts names name (k, omega (arith, within), is) none) (named parts.components first) where
      go : path_of parts names ≡ None → (o : Option ℕ) → option_and_then (λ (n : ℕ). option_map (λ (path : List ComponentNo). component_no n ∷ path) (path_of parts names)) o ≡ None
      go later None = refl
      go later (Some n) = ap (λ (p : Option (List ComponentNo)). option_map (λ (path : List ComponentNo). component_no n ∷ path) p) later
