-- The steps that lines about connections make, one after the other.
use Rattle.std.proofs.Common.{◌≡◌, ◌∙◌, refl, sym, ap, subst, ℕ, Bool, true, false, cond, List, [], ◌∷◌, ◌++◌, Some, None}
use Rattle.std.specs.Prelude.{All}
use Rattle.std.proofs.lemmas.List.Elements.{All-cons, All-nil, All-push}
use Rattle.scenario_text.specs.Answer.{Answer, Refused, Done}
use Rattle.scenario_text.specs.declared.seat_line.SeatLine.{SeatLine}
use Rattle.scenario_text.specs.declared.seat_line.SeatLine.TheVariants as lines
use Rattle.seat_lines.specs.Changing.{makes_steps, number_in}
use Rattle.seat_lines.specs.Lines.{step_line}
use Rattle.seat_lines.specs.Making.{StepMade, line_makes, run_makes, step_makes}
use Rattle.seat_lines.specs.Runs.{rests, steps_from}
use Rattle.seat_lines.specs.Site.{SiteState, seat_at}

-- a step that is done is made
pub step_made : (s t : SiteState) (n : ℕ) (keeps : Bool) (more : List Bool) (out : List ℕ) → step_line s n keeps ≡ Done t out
    → line_makes s (lines.Step n) (keeps ∷ more) ≡ record { site = s; number = n; keeps = keeps } ∷ []
step_made s t n keeps more out is = ap (λ (a : Answer SiteState). elim a [ Refused ↦ [] | Done u text ↦ record { site = s; number = n; keeps = keeps } ∷ [] ]) is

-- a run that is not at its end makes one step
one_made : (s t : SiteState) (n : ℕ) (keeps : Bool) (out : List ℕ) → rests (seat_at s.seats.seats n) ≡ false → step_line s n keeps ≡ Done t out
    → run_makes s n (keeps ∷ []) ≡ record { site = s; number = n; keeps = keeps } ∷ []
one_made s t n keeps out going is =
    ap (λ (b : Bool). cond b [] (elim (step_line s n keeps) [ Refused ↦ [] | Done u text ↦ record { site = s; number = n; keeps = keeps } ∷ [] ])) going
    ∙ ap (λ (a : Answer SiteState). elim a [ Refused ↦ [] | Done u text ↦ record { site = s; number = n; keeps = keeps } ∷ [] ]) is

-- and behind its steps it makes one more
pub run_made : (before : List Bool) (s mid t : SiteState) (n : ℕ) (keeps : Bool) (out : List ℕ) → steps_from s n before ≡ Some mid → rests (seat_at mid.seats.seats n) ≡ false → step_line mid n keeps ≡ Done t out
    → run_makes s n (before ++ keeps ∷ []) ≡ run_makes s n before ++ record { site = mid; number = n; keeps = keeps } ∷ []
run_made [] s mid t n keeps out comes going is =
    let same : s ≡ mid = cc in
    ap (λ (x : SiteState). run_makes x n (keeps ∷ [])) same ∙ one_made mid t n keeps out going is
run_made (k ∷ before) s mid t n keeps out comes going is =
    go (rests (seat_at s.seats.seats n)) (step_line s n k) (λ u on. run_made before u mid t n keeps out on going is) comes
  where
    last : StepMade
    last = record { site = mid; number = n; keeps = keeps }

    this : StepMade
    this = record { site = s; number = n; keeps = k }

    go : (b : Bool) (a : Answer SiteState) → ((u : SiteState) → steps_from u n before ≡ Some mid → run_makes u n (before ++ keeps ∷ []) ≡ run_makes u n before ++ last ∷ [])
        → cond b None (elim a [ Refused ↦ None | Done u text ↦ steps_from u n before ]) ≡ Some mid
        → cond b [] (elim a [ Refused ↦ [] | Done u text ↦ this ∷ run_makes u n (before ++ keeps ∷ []) ]) ≡ cond b [] (elim a [ Refused ↦ [] | Done u text ↦ this ∷ run_makes u n before ]) ++ last ∷ []
    go true a later on = absurd (cc)
    go false Refused later on = absurd (cc)
    go false (Done u text) later on = ap (λ (xs : List StepMade). this ∷ xs) (later u on)

module _ (P : StepMade → Type 0) where
  -- what holds of a step holds of all that its line makes
  pub one_step : (s : SiteState) (n : ℕ) (keeps : Bool) → P (record { site = s; number = n; keeps = keeps }) → All P (step_makes s n (keeps ∷ []))
  one_step s n keeps holds = go (step_line s n keeps) where
    go : (a : Answer SiteState) → All P (elim a [ Refused ↦ [] | Done t out ↦ record { site = s; number = n; keeps = keeps } ∷ [] ])
    go Refused = All-nil P
    go (Done t out) = All-cons P (record { site = s; number = n; keeps = keeps }) [] holds (All-nil P)

  -- a step that is refused is not made
  pub no_step : (s : SiteState) (n : ℕ) (keeps : Bool) → step_line s n keeps ≡ Refused → All P (step_makes s n (keeps ∷ []))
  no_step s n keeps refused =
      subst (λ (a : Answer SiteState). All P (elim a [ Refused ↦ [] | Done t out ↦ record { site = s; number = n; keeps = keeps } ∷ [] ])) (sym refused) (All-nil P)

  -- what holds of the steps of a run, and of one more, holds of all
  pub one_more : (s mid t : SiteState) (n : ℕ) (before : List Bool) (keeps : Bool) (out : List ℕ) → steps_from s n before ≡ Some mid → rests (seat_at mid.seats.seats n) ≡ false → step_line mid n keeps ≡ Done t out
      → All P (run_makes s n before) → P (record { site = mid; number = n; keeps = keeps }) → All P (run_makes s n (before ++ keeps ∷ []))
  one_more s mid t n before keeps out comes going is all last =
      let step : StepMade = record { site = mid; number = n; keeps = keeps } in
      subst (All P) (sym (run_made before s mid t n keeps out comes going is)) (All-push P (run_makes s n before) step all last)

-- a line that makes no steps makes none
pub none_made : (s : SiteState) (line : SeatLine) (replies : List Bool) → makes_steps line ≡ false → line_makes s line replies ≡ []
none_made s (lines.Conn n) replies still = refl
none_made s (lines.Bytes n bytes) replies still = refl
none_made s (lines.End n) replies still = refl
none_made s (lines.Step n) replies still = absurd (cc)
none_made s (lines.Run n) replies still = absurd (cc)

-- each step of a line is of the connection that the line is about
pub made_of_one : (s : SiteState) (line : SeatLine) (replies : List Bool) → All (λ (step : StepMade). step.number ≡ number_in line) (line_makes s line replies)
made_of_one s (lines.Conn n) replies = All-nil (λ (step : StepMade). step.number ≡ n)
made_of_one s (lines.Bytes n bytes) replies = All-nil (λ (step : StepMade). step.number ≡ n)
made_of_one s (lines.End n) replies = All-nil (λ (step : StepMade). step.number ≡ n)
made_of_one s (lines.Step n) replies = by replies where
  one : (keeps : Bool) (a : Answer SiteState) → All (λ (step : StepMade). step.number ≡ n) (elim a [ Refused ↦ [] | Done t out ↦ record { site = s; number = n; keeps = keeps } ∷ [] ])
  one keeps Refused = All-nil (λ (step : StepMade). step.number ≡ n)
  one keeps (Done t out) = All-cons (λ (step : StepMade). step.number ≡ n) (record { site = s; number = n; keeps = keeps }) [] refl (All-nil (λ (step : StepMade). step.number ≡ n))

  by : (rs : List Bool) → All (λ (step : StepMade). step.number ≡ n) (step_makes s n rs)
  by [] = All-nil (λ (step : StepMade). step.number ≡ n)
  by (keeps ∷ more) = one keeps (step_line s n keeps)
made_of_one s (lines.Run n) replies = run s replies where
  run : (x : SiteState) (rs : List Bool) → All (λ (step : StepMade). step.number ≡ n) (run_makes x n rs)
  run x [] = All-nil (λ (step : StepMade). step.number ≡ n)
  run x (keeps ∷ more) = go (rests (seat_at x.seats.seats n)) (step_line x n keeps) (λ u. run u more) where
    go : (b : Bool) (a : Answer SiteState) → ((u : SiteState) → All (λ (step : StepMade). step.number ≡ n) (run_makes u n more))
        → All (λ (step : StepMade). step.number ≡ n) (cond b [] (elim a [ Refused ↦ [] | Done u text ↦ record { site = x; number = n; keeps = keeps } ∷ run_makes u n more ]))
    go true a later = All-nil (λ (step : StepMade). step.number ≡ n)
    go false Refused later = All-nil (λ (step : StepMade). step.number ≡ n)
    go false (Done u text) later = All-cons (λ (step : StepMade). step.number ≡ n) (record { site = x; number = n; keeps = keeps }) (run_makes u n more) refl (later u)
