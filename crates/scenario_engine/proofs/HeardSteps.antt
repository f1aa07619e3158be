-- What the manager hears in a step and in a run of a connection: the reports of the steps, one after the other.
use Rattle.std.proofs.Common.{◌≡◌, ◌⊎◌, inl, inr, ℕ, Bool, true, false, cond, List, [], ◌∷◌, ◌++◌, append-nil, Option, Some, None, refl, sym, ap, ◌∙◌, subst}
use Rattle.std.specs.List.{flat_map}
use Rattle.boot_core.specs.Boot.{BootValue}
use Rattle.crash_base.specs.declared.rows.RowWrite.{RowWrite}
use Rattle.deployment.specs.declared.parts.Parts.{Parts}
use Rattle.failure_scores.specs.declared.report.FailureReport.{FailureReport}
use Rattle.recovery_manager.specs.Kept.{ManagerValue}
use Rattle.recovery_manager.specs.Telling.{handed_on, told}
use Rattle.scenario_text.proofs.Leaving.{Leaves}
use Rattle.scenario_text.specs.Answer.{Answer, Refused, Done}
use Rattle.scenario_text.specs.declared.seat_line.SeatLine.{SeatLine}
use Rattle.seat_lines.specs.Changing.{ChangesSeatsAlone, IsLeftBySeat, makes_steps}
use Rattle.seat_lines.specs.Handing.{writes_by}
use Rattle.seat_lines.specs.Hearing.{manager_after}
use Rattle.seat_lines.specs.Items.{over_yields, place_yields, reports_at, reports_if, step_yields}
use Rattle.seat_lines.specs.Lines.{givens_of, is_beyond, moves, step_line, world_of}
use Rattle.seat_lines.specs.Making.{StepMade, run_makes}
use Rattle.seat_lines.specs.Runs.{rests, seat_line}
use Rattle.seat_lines.specs.Site.{SiteState, seat_at, with_seat}
use Rattle.seat_lines.specs.Texts.{gone_text}
use Rattle.seat_steps.specs.Seats.{SeatOutcome, seat_step}
use Rattle.seat_steps.specs.declared.seat.Seat.{Seat}
use Rattle.session_lanes.specs.Lanes.{LanesState}
use Rattle.shepherd.specs.Shepherds.{turn}
use Rattle.shepherd.specs.declared.shepherd.EndKind.{EndKind}
use Rattle.shepherd.specs.declared.shepherd.ShepherdTurn.{ShepherdTurn}
use Rattle.shepherd.specs.declared.shepherd.ShepherdTurn.TheVariants as turns
use Rattle.scenario_engine.proofs.SeatChanges.{Changes, HasStep, changed_step}
use Rattle.scenario_engine.proofs.SeatsStand.{near_done}
use Rattle.scenario_engine.specs.Reports.{ReportMade, made_over, step_reports}
use Rattle.scenario_engine.specs.Seats.{after_steps}

-- A manager hears these reports, one after the other, each over a site where it is and of these parts, and becomes this
-- one.
abbrev pub Hears : Parts → ManagerValue → List ReportMade → ManagerValue → Type 0
Hears parts m [] q = q ≡ m
Hears parts m (made ∷ more) q =
    (made.site.seats.manager ≡ m) × (made.site.boot.start.deployment ≡ parts)
    × Hears parts (told m (handed_on m made.report)).manager more q

hears-append : (parts : Parts) (m q p : ManagerValue) (xs ys : List ReportMade) → Hears parts m xs q → Hears parts q ys p → Hears parts m (xs ++ ys) p
hears-append parts m q p [] ys first second = subst (λ (x : ManagerValue). Hears parts x ys p) first second
hears-append parts m q p (made ∷ xs) ys (site, of, rest) second =
    (site, of, hears-append parts (told m (handed_on m made.report)).manager q p xs ys rest second)

-- A site leads to another of the same parts, whose manager has heard these.
abbrev pub Heard : SiteState → List ReportMade → SiteState → Type 0
Heard s xs t =
    (t.boot.start.deployment ≡ s.boot.start.deployment)
    × Hears s.boot.start.deployment s.seats.manager xs t.seats.manager

heard-on : (s v t : SiteState) (xs ys : List ReportMade) → Heard s xs v → Heard v ys t → Heard s (xs ++ ys) t
heard-on s v t xs ys (to, first) (on, second) = (
  on ∙ to,
  hears-append s.boot.start.deployment s.seats.manager v.seats.manager t.seats.manager xs ys first
      (subst (λ (p : Parts). Hears p v.seats.manager ys t.seats.manager) to second),
)

-- the manager heard one report over a site, or none
heard-if : (s t : SiteState) (o : Option FailureReport) → t.boot.start.deployment ≡ s.boot.start.deployment → t.seats.manager ≡ manager_after s.seats.manager o
    → Heard s (made_over s (reports_if o)) t
heard-if s t None to is = (to, is)
heard-if s t (Some report) to is = (to, (refl, refl, is))

-- the laws by which it is so in steps
pub record HeardLaws : Type 0 where
  pub moved : (s t : SiteState) (n : ℕ) (keeps : Bool) (text : List ℕ) (seat : Seat) (st : LanesState) → seat_at s.seats.seats n ≡ Some seat → s.sessions.store ≡ Some st → moves (turn seat.connection) ≡ true
      → step_line s n keeps ≡ Done t text → IsLeftBySeat s n (turn seat.connection) (seat_step (givens_of s n keeps) seat (world_of s st)) t text
  pub waits : (s t : SiteState) (n : ℕ) (keeps : Bool) (text : List ℕ) (seat : Seat) → seat_at s.seats.seats n ≡ Some seat → turn seat.connection ≡ turns.Bytes → step_line s n keeps ≡ Done t text → (t ≡ s) × (text ≡ [])
  pub over : (s t : SiteState) (n : ℕ) (keeps : Bool) (text : List ℕ) (seat : Seat) (end : EndKind) → seat_at s.seats.seats n ≡ Some seat → turn seat.connection ≡ turns.Ended end → step_line s n keeps ≡ Done t text
      → (t ≡ with_seat s n None) × (text ≡ gone_text n end)
  pub moving : (t : ShepherdTurn) → moves t ≡ false → (t ≡ turns.Bytes) ⊎ ((end : EndKind) × (t ≡ turns.Ended end))
  pub none : (s : SiteState) (n : ℕ) (keeps : Bool) → seat_at s.seats.seats n ≡ None → step_line s n keeps ≡ Refused
  pub bare : (s : SiteState) (n : ℕ) (keeps : Bool) → s.sessions.store ≡ None → step_line s n keeps ≡ Refused
  pub alone : (s t : SiteState) (line : SeatLine) (replies : List Bool) (text : List ℕ) → seat_line s line replies ≡ Some (Done t text) → makes_steps line ≡ false → ChangesSeatsAlone s t text

-- the step of a connection over a site
abbrev pub step_at : SiteState → ℕ → Bool → StepMade
step_at s n keeps = record { site = s; number = n; keeps = keeps }

-- what it reports, by its turn
pub reports-there : (s : SiteState) (n : ℕ) (keeps : Bool) (seat : Seat) (st : LanesState) → is_beyond n ≡ false → s.sessions.store ≡ Some st → seat_at s.seats.seats n ≡ Some seat
    → step_yields reports_at s n keeps ≡ reports_at (turn seat.connection) (seat_step (givens_of s n keeps) seat (world_of s st))
reports-there s n keeps seat st near bricks there =
    ap (λ (b : Bool). cond b [] (over_yields reports_at s n keeps s.sessions.store)) near
    ∙ (ap (λ (o : Option LanesState). over_yields reports_at s n keeps o) bricks
    ∙ ap (λ (o : Option Seat). place_yields reports_at (givens_of s n keeps) o (world_of s st)) there)

pub reports-moved : (s : SiteState) (n : ℕ) (keeps : Bool) (seat : Seat) (st : LanesState) → is_beyond n ≡ false → s.sessions.store ≡ Some st → seat_at s.seats.seats n ≡ Some seat → moves (turn seat.connection) ≡ true
    → step_yields reports_at s n keeps ≡ reports_if (seat_step (givens_of s n keeps) seat (world_of s st)).report
reports-moved s n keeps seat st near bricks there moving =
    reports-there s n keeps seat st near bricks there
    ∙ ap (λ (b : Bool). cond b (reports_if (seat_step (givens_of s n keeps) seat (world_of s st)).report) []) moving

reports-still : (s : SiteState) (n : ℕ) (keeps : Bool) (seat : Seat) (st : LanesState) → is_beyond n ≡ false → s.sessions.store ≡ Some st → seat_at s.seats.seats n ≡ Some seat → moves (turn seat.connection) ≡ false
    → step_yields reports_at s n keeps ≡ []
reports-still s n keeps seat st near bricks there still =
    reports-there s n keeps seat st near bricks there
    ∙ ap (λ (b : Bool). cond b (reports_if (seat_step (givens_of s n keeps) seat (world_of s st)).report) []) still

refused-not : (t : SiteState) (text : List ℕ) (a : Answer SiteState) → a ≡ Refused → a ≡ Done t text → ⊥
refused-not t text a refused done = cc

-- a step leaves the boot of the same start
start-kept : (old new : BootValue) (writes : List RowWrite) (keeps : Bool) → Changes old writes keeps new → new.start.deployment ≡ old.start.deployment
start-kept old new writes keeps (inl (only, why)) = ap (λ (b : BootValue). b.start.deployment) only
start-kept old new writes keeps (inr (e, is, has, why)) = ap (λ (b : BootValue). b.start.deployment) is

-- one step
module _ (laws : HeardLaws) (s t : SiteState) (n : ℕ) (keeps : Bool) (text : List ℕ) (done : step_line s n keeps ≡ Done t text) where
  near : is_beyond n ≡ false
  near = near_done s t n keeps text done

  same-parts : t.boot.start.deployment ≡ s.boot.start.deployment
  same-parts = by (subst (Leaves (HasStep s n keeps)) done (changed_step s n keeps))
    where
      by : HasStep s n keeps t → t.boot.start.deployment ≡ s.boot.start.deployment
      by its = start-kept s.boot t.boot (writes_by (seat_at s.seats.seats n) s.boot) keeps its.changes

  heard-still : (seat : Seat) (st : LanesState) → s.sessions.store ≡ Some st → seat_at s.seats.seats n ≡ Some seat → moves (turn seat.connection) ≡ false → t.seats.manager ≡ s.seats.manager → Heard s (step_reports (step_at s n keeps)) t
  heard-still seat st bricks there still is =
      subst (λ (xs : List FailureReport). Heard s (made_over s xs) t) (sym (reports-still s n keeps seat st near bricks there still)) (same-parts, is)

  heard-moved : (seat : Seat) (st : LanesState) → s.sessions.store ≡ Some st → seat_at s.seats.seats n ≡ Some seat → moves (turn seat.connection) ≡ true → Heard s (step_reports (step_at s n keeps)) t
  heard-moved seat st bricks there moving =
      let o : SeatOutcome = seat_step (givens_of s n keeps) seat (world_of s st) in
      let left : IsLeftBySeat s n (turn seat.connection) o t text = laws.moved s t n keeps text seat st there bricks moving done in
      subst (λ (xs : List FailureReport). Heard s (made_over s xs) t) (sym (reports-moved s n keeps seat st near bricks there moving))
      (heard-if s t o.report same-parts left.manager)

  pub step-heard : Heard s (step_reports (step_at s n keeps)) t
  step-heard = over s.sessions.store refl
    where
      still : (seat : Seat) → seat_at s.seats.seats n ≡ Some seat → (turn seat.connection ≡ turns.Bytes) ⊎ ((end : EndKind) × (turn seat.connection ≡ turns.Ended end)) → t.seats.manager ≡ s.seats.manager
      still seat there (inl waits) = ap (λ (x : SiteState). x.seats.manager) (laws.waits s t n keeps text seat there waits done).0
      still seat there (inr (end, ended)) = ap (λ (x : SiteState). x.seats.manager) (laws.over s t n keeps text seat end there ended done).0

      turned : (seat : Seat) (st : LanesState) → s.sessions.store ≡ Some st → seat_at s.seats.seats n ≡ Some seat → (b : Bool) → moves (turn seat.connection) ≡ b → Heard s (step_reports (step_at s n keeps)) t
      turned seat st bricks there true moving = heard-moved seat st bricks there moving
      turned seat st bricks there false not = heard-still seat st bricks there not (still seat there (laws.moving (turn seat.connection) not))

      at : (st : LanesState) → s.sessions.store ≡ Some st → (o : Option Seat) → seat_at s.seats.seats n ≡ o → Heard s (step_reports (step_at s n keeps)) t
      at st bricks None none = absurd (refused-not t text (step_line s n keeps) (laws.none s n keeps none) done)
      at st bricks (Some seat) there = turned seat st bricks there (moves (turn seat.connection)) refl

      over : (o : Option LanesState) → s.sessions.store ≡ o → Heard s (step_reports (step_at s n keeps)) t
      over None bare = absurd (refused-not t text (step_line s n keeps) (laws.bare s n keeps bare) done)
      over (Some st) bricks = at st bricks (seat_at s.seats.seats n) refl

-- the step of a line that makes one
pub one-heard : HeardLaws → (s : SiteState) (n : ℕ) (keeps : Bool) → Leaves (λ (t : SiteState). Heard s (flat_map step_reports (step_at s n keeps ∷ [])) t) (step_line s n keeps)
one-heard laws s n keeps = go (step_line s n keeps) (λ t text is. step-heard laws s t n keeps text is)
  where
    go : (a : Answer SiteState) → ((t : SiteState) (text : List ℕ) → a ≡ Done t text → Heard s (step_reports (step_at s n keeps)) t) → Leaves (λ (t : SiteState). Heard s (flat_map step_reports (step_at s n keeps ∷ [])) t) a
    go Refused its = tt
    go (Done t text) its = subst (λ (xs : List ReportMade). Heard s xs t) (sym (append-nil (step_reports (step_at s n keeps)))) (its t text refl)

-- whole steps of a run
pub run-heard : HeardLaws → (s : SiteState) (n : ℕ) (replies : List Bool) → Heard s (flat_map step_reports (run_makes s n replies)) (after_steps s n replies)
run-heard laws s n [] = (refl, refl)
run-heard laws s n (keeps ∷ more) = go (λ v. run-heard laws v n more) (rests (seat_at s.seats.seats n)) (step_line s n keeps) (λ v out is. step-heard laws s v n keeps out is)
  where
    go : ((v : SiteState) → Heard v (flat_map step_reports (run_makes v n more)) (after_steps v n more)) → (rest : Bool) (a : Answer SiteState) → ((v : SiteState) (out : List ℕ) → a ≡ Done v out → Heard s (step_reports (step_at s n keeps)) v)
        → Heard s (flat_map step_reports (cond rest [] (elim a [ Refused ↦ [] | Done v out ↦ step_at s n keeps ∷ run_makes v n more ]))) (cond rest s (elim a [ Refused ↦ s | Done v out ↦ after_steps v n more ]))
    go later true a its = (refl, refl)
    go later false Refused its = (refl, refl)
    go later false (Done v out) its =
        heard-on s v (after_steps v n more) (step_reports (step_at s n keeps)) (flat_map step_reports (run_makes v n more)) (its v out refl) (later v)
