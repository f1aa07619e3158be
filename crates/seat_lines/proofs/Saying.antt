-- What connections say by their lines: the bytes that they put out, and their reports.
use Rattle.std.proofs.Common.{◌≡◌, ◌∙◌, ℕ, Bool, true, false, cond, List, [], ◌∷◌, ◌++◌, append-nil, append_assoc, map, Option, Some, None, refl, sym, ap}
use Rattle.std.specs.List.{flat_map}
use Rattle.std.proofs.lemmas.List.Concat.{flat_map-append}
use Rattle.failure_scores.specs.declared.report.FailureReport.{FailureReport}
use Rattle.recovery_manager.specs.Kept.{ManagerValue}
use Rattle.scenario_text.specs.Answer.{Answer, Refused, Done}
use Rattle.scenario_text.specs.declared.seat_line.SeatLine.{SeatLine}
use Rattle.scenario_text.specs.declared.seat_line.SeatLine.TheVariants as lines
use Rattle.seat_steps.specs.Seats.{SeatGivens, SeatOutcome, SeatWorld, seat_step}
use Rattle.seat_steps.specs.declared.seat.Seat.{Seat}
use Rattle.session_lanes.specs.Lanes.{LanesState}
use Rattle.shepherd.specs.Shepherds.{turn}
use Rattle.shepherd.specs.declared.shepherd.ShepherdTurn.{ShepherdTurn}
use Rattle.shepherd.specs.declared.shepherd.ShepherdTurn.TheVariants as turns
use Rattle.seat_lines.specs.Hearing.{decided_text, manager_after, manager_by}
use Rattle.seat_lines.specs.Items.{PutOut, Reported, Said, items_at, line_outs, line_reports, line_says, line_yields, out_in, outs_at, outs_in, over_yields, place_yields, report_in, reports_at, reports_if, reports_in, run_yields, said_at, step_yields}
use Rattle.seat_lines.specs.Lines.{givens_of, is_beyond, moves, step_line, step_text, world_of}
use Rattle.seat_lines.specs.PuttingOut.{said_text}
use Rattle.seat_lines.specs.Runs.{rests}
use Rattle.seat_lines.specs.Site.{SiteState, seat_at}
use Rattle.seat_lines.specs.Texts.{out_text}

-- What is said, in parts.

outs_none : (reports : List FailureReport) → outs_in (map Reported reports) ≡ []
outs_none [] = refl
outs_none (report ∷ reports) = outs_none reports

outs_part : (outs : List (List ℕ)) (reports : List FailureReport) → outs_in (map PutOut outs ++ map Reported reports) ≡ outs
outs_part [] reports = outs_none reports
outs_part (bytes ∷ outs) reports = ap (λ (xs : List (List ℕ)). bytes ∷ xs) (outs_part outs reports)

reports_all : (reports : List FailureReport) → reports_in (map Reported reports) ≡ reports
reports_all [] = refl
reports_all (report ∷ reports) = ap (λ (xs : List FailureReport). report ∷ xs) (reports_all reports)

reports_part : (outs : List (List ℕ)) (reports : List FailureReport) → reports_in (map PutOut outs ++ map Reported reports) ≡ reports
reports_part [] reports = reports_all reports
reports_part (bytes ∷ outs) reports = reports_part outs reports

pub outs_said : (t : ShepherdTurn) (o : SeatOutcome) → outs_in (said_at t o) ≡ outs_at t o
outs_said t o = outs_part (outs_at t o) (reports_at t o)

pub reports_said : (t : ShepherdTurn) (o : SeatOutcome) → reports_in (said_at t o) ≡ reports_at t o
reports_said t o = reports_part (outs_at t o) (reports_at t o)

-- at a turn at which no step is made, nothing is said
pub none_said : (t : ShepherdTurn) (o : SeatOutcome) → moves t ≡ false → said_at t o ≡ []
none_said turns.Bytes o is = refl
none_said turns.Request o is = absurd (cc)
none_said turns.Outside o is = absurd (cc)
none_said turns.Windows o is = absurd (cc)
none_said turns.Inside o is = absurd (cc)
none_said turns.Program o is = absurd (cc)
none_said turns.Own o is = absurd (cc)
none_said turns.Output o is = absurd (cc)
none_said turns.Item o is = absurd (cc)
none_said (turns.Ended end) o is = refl

-- what is given at a turn at which no step is made
pub none_given : (t : ShepherdTurn) (o : SeatOutcome) → moves t ≡ false → (outs_at t o ≡ []) × (items_at t o ≡ [])
none_given turns.Bytes o is = (refl, refl)
none_given turns.Request o is = absurd (cc)
none_given turns.Outside o is = absurd (cc)
none_given turns.Windows o is = absurd (cc)
none_given turns.Inside o is = absurd (cc)
none_given turns.Program o is = absurd (cc)
none_given turns.Own o is = absurd (cc)
none_given turns.Output o is = absurd (cc)
none_given turns.Item o is = absurd (cc)
none_given (turns.Ended end) o is = (refl, refl)

-- what a line yields of a part is that part of what it says
module _ {A : Type 0} (part : Said → List A) (gives : ShepherdTurn → SeatOutcome → List A) (parts : (t : ShepherdTurn) (o : SeatOutcome) → flat_map part (said_at t o) ≡ gives t o) where
  place_parts : (g : SeatGivens) (place : Option Seat) (w : SeatWorld) → flat_map part (place_yields said_at g place w) ≡ place_yields gives g place w
  place_parts g None w = refl
  place_parts g (Some seat) w = parts (turn seat.connection) (seat_step g seat w)

  over_parts : (s : SiteState) (n : ℕ) (keeps : Bool) (store : Option LanesState) → flat_map part (over_yields said_at s n keeps store) ≡ over_yields gives s n keeps store
  over_parts s n keeps None = refl
  over_parts s n keeps (Some st) = place_parts (givens_of s n keeps) (seat_at s.seats.seats n) (world_of s st)

  pub step_parts : (s : SiteState) (n : ℕ) (keeps : Bool) → flat_map part (step_yields said_at s n keeps) ≡ step_yields gives s n keeps
  step_parts s n keeps = go (is_beyond n) where
    go : (b : Bool) → flat_map part (cond b [] (over_yields said_at s n keeps s.sessions.store)) ≡ cond b [] (over_yields gives s n keeps s.sessions.store)
    go true = refl
    go false = over_parts s n keeps s.sessions.store

  run_parts : (n : ℕ) (replies : List Bool) (s : SiteState) → flat_map part (run_yields said_at s n replies) ≡ run_yields gives s n replies
  run_parts n [] s = refl
  run_parts n (keeps ∷ more) s = go (λ x. run_parts n more x) (rests (seat_at s.seats.seats n)) (step_line s n keeps) where
    go : ((x : SiteState) → flat_map part (run_yields said_at x n more) ≡ run_yields gives x n more) → (b : Bool) (a : Answer SiteState)
        → flat_map part (cond b [] (elim a [ Refused ↦ [] | Done x o ↦ step_yields said_at s n keeps ++ run_yields said_at x n more ]))
        ≡ cond b [] (elim a [ Refused ↦ [] | Done x o ↦ step_yields gives s n keeps ++ run_yields gives x n more ])
    go later true a = refl
    go later false Refused = refl
    go later false (Done x o) =
        flat_map-append part (step_yields said_at s n keeps) (run_yields said_at x n more)
        ∙ (ap (λ (xs : List A). xs ++ flat_map part (run_yields said_at x n more)) (step_parts s n keeps)
        ∙ ap (λ (xs : List A). step_yields gives s n keeps ++ xs) (later x))

  first_parts : (s : SiteState) (n : ℕ) (replies : List Bool) → flat_map part (line_yields said_at s (lines.Step n) replies) ≡ line_yields gives s (lines.Step n) replies
  first_parts s n [] = refl
  first_parts s n (keeps ∷ more) = step_parts s n keeps

  pub line_parts : (s : SiteState) (line : SeatLine) (replies : List Bool) → flat_map part (line_yields said_at s line replies) ≡ line_yields gives s line replies
  line_parts s (lines.Conn n) replies = refl
  line_parts s (lines.Bytes n bytes) replies = refl
  line_parts s (lines.End n) replies = refl
  line_parts s (lines.Step n) replies = first_parts s n replies
  line_parts s (lines.Run n) replies = run_parts n replies s

pub outs_in_line : (s : SiteState) (line : SeatLine) (replies : List Bool) → outs_in (line_says s line replies) ≡ line_outs s line replies
outs_in_line s line replies = line_parts out_in outs_at outs_said s line replies

pub reports_in_line : (s : SiteState) (line : SeatLine) (replies : List Bool) → reports_in (line_says s line replies) ≡ line_reports s line replies
reports_in_line s line replies = line_parts report_in reports_at reports_said s line replies

-- What is written of what is said.

decided_said : (n : ℕ) (m : ManagerValue) (report : Option FailureReport) → said_text n m (map Reported (reports_if report)) ++ [] ≡ decided_text m report
decided_said n m None = refl
decided_said n m (Some report) = append-nil (decided_text m (Some report) ++ []) ∙ append-nil (decided_text m (Some report))

-- what is written of a step at a turn is what is written of what it says
pub text_said : (t : ShepherdTurn) (n : ℕ) (o : SeatOutcome) (m : ManagerValue) → moves t ≡ true → step_text t n o.bytes ++ decided_text m o.report ≡ said_text n m (said_at t o) ++ []
text_said turns.Bytes n o m is = absurd (cc)
text_said turns.Request n o m is = sym (decided_said n m o.report)
text_said turns.Outside n o m is = sym (decided_said n m o.report)
text_said turns.Windows n o m is = sym (decided_said n m o.report)
text_said turns.Inside n o m is = sym (decided_said n m o.report)
text_said turns.Program n o m is = sym (decided_said n m o.report)
text_said turns.Own n o m is = sym (decided_said n m o.report)
text_said turns.Output n o m is =
    let said : List ℕ = said_text n m (map Reported (reports_if o.report)) in
    ap (λ (x : List ℕ). out_text n o.bytes ++ x) (sym (decided_said n m o.report)) ∙ sym (append_assoc (out_text n o.bytes) said [])
text_said turns.Item n o m is = sym (decided_said n m o.report)
text_said (turns.Ended end) n o m is = absurd (cc)

-- reports that are heard one after the other
pub heard_on : (first second : List FailureReport) (m : ManagerValue) → manager_by m (first ++ second) ≡ manager_by (manager_by m first) second
heard_on [] second m = refl
heard_on (report ∷ first) second m = heard_on first second (manager_after m (Some report))

-- what is said first, and then more
pub said_on : (n : ℕ) (first second : List Said) (m : ManagerValue) → said_text n m (first ++ second) ≡ said_text n m first ++ said_text n (manager_by m (reports_in first)) second
said_on n [] second m = refl
said_on n (PutOut bytes ∷ first) second m =
    ap (λ (x : List ℕ). out_text n bytes ++ x) (said_on n first second m)
    ∙ sym (append_assoc (out_text n bytes) (said_text n m first) (said_text n (manager_by m (reports_in first)) second))
said_on n (Reported report ∷ first) second m =
    let after : ManagerValue = manager_after m (Some report) in
    ap (λ (x : List ℕ). decided_text m (Some report) ++ x) (said_on n first second after)
    ∙ sym (append_assoc (decided_text m (Some report)) (said_text n after first) (said_text n (manager_by after (reports_in first)) second))
