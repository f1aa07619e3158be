-- Replies behind those by which a line comes to an answer change nothing.
use Rattle.std.proofs.Common.{◌≡◌, ℕ, Bool, true, false, cond, List, [], ◌∷◌, ◌++◌, Option, Some, None, refl}
use Rattle.scenario_text.specs.Answer.{Answer, Refused, Done}
use Rattle.scenario_text.specs.declared.seat_line.SeatLine.{SeatLine}
use Rattle.scenario_text.specs.declared.seat_line.SeatLine.TheVariants as lines
use Rattle.seat_lines.specs.Lines.{step_line}
use Rattle.seat_lines.specs.Runs.{can_run, rests, run_from, run_line, seat_line, step_by}
use Rattle.seat_lines.specs.Site.{SiteState, seat_at}

-- a run that is at its end makes no step
at_rest : (s : SiteState) (text : List ℕ) (n : ℕ) (replies : List Bool) → rests (seat_at s.seats.seats n) ≡ true → run_from s text n replies ≡ Some (Done s text)
at_rest s text n [] e = rw e refl
at_rest s text n (keeps ∷ more) e = rw e refl

run_more : (s : SiteState) (text : List ℕ) (n : ℕ) (replies more : List Bool) (a : Answer SiteState) → run_from s text n replies ≡ Some a → run_from s text n (replies ++ more) ≡ Some a
run_more s text n [] more a h = go (rests (seat_at s.seats.seats n)) refl h
  where
    go : (b : Bool) → rests (seat_at s.seats.seats n) ≡ b → cond b (Some (Done s text)) None ≡ Some a → run_from s text n more ≡ Some a
    go true e k = rw (at_rest s text n more e) k
    go false e k = cc
run_more s text n (keeps ∷ replies) more a h = go (rests (seat_at s.seats.seats n)) refl (λ t out. run_more t (text ++ out) n replies more a) h
  where
    by : Answer SiteState → List Bool → Option (Answer SiteState)
    by answer rest = elim answer [ Refused ↦ Some Refused | Done t out ↦ run_from t (text ++ out) n rest ]

    stepped : (answer : Answer SiteState) → ((t : SiteState) (out : List ℕ) → run_from t (text ++ out) n replies ≡ Some a → run_from t (text ++ out) n (replies ++ more) ≡ Some a) → by answer replies ≡ Some a → by answer (replies ++ more) ≡ Some a
    stepped Refused later k = k
    stepped (Done t out) later k = later t out k

    go : (b : Bool) → rests (seat_at s.seats.seats n) ≡ b → ((t : SiteState) (out : List ℕ) → run_from t (text ++ out) n replies ≡ Some a → run_from t (text ++ out) n (replies ++ more) ≡ Some a) → cond b (Some (Done s text)) (by (step_line s n keeps) replies) ≡ Some a → cond (rests (seat_at s.seats.seats n)) (Some (Done s text)) (by (step_line s n keeps) (replies ++ more)) ≡ Some a
    go true e later k = rw e k
    go false e later k = rw e (stepped (step_line s n keeps) later k)

runs_more : (s : SiteState) (n : ℕ) (replies more : List Bool) (a : Answer SiteState) → run_line s n replies ≡ Some a → run_line s n (replies ++ more) ≡ Some a
unfolding run_line
runs_more s n replies more a h = go (can_run s n) refl h
  where
    go : (b : Bool) → can_run s n ≡ b → cond b (run_from s [] n replies) (Some Refused) ≡ Some a → cond (can_run s n) (run_from s [] n (replies ++ more)) (Some Refused) ≡ Some a
    go true e k = rw e (run_more s [] n replies more a k)
    go false e k = rw e k

steps_more : (s : SiteState) (n : ℕ) (replies more : List Bool) (a : Answer SiteState) → step_by s n replies ≡ Some a → step_by s n (replies ++ more) ≡ Some a
steps_more s n [] more a h = cc
steps_more s n (keeps ∷ replies) more a h = h

-- so it is of each line
pub line_more : (s : SiteState) (line : SeatLine) (replies more : List Bool) (a : Answer SiteState) → seat_line s line replies ≡ Some a → seat_line s line (replies ++ more) ≡ Some a
line_more s (lines.Conn n) replies more a h = h
line_more s (lines.Bytes n bytes) replies more a h = h
line_more s (lines.End n) replies more a h = h
line_more s (lines.Step n) replies more a h = steps_more s n replies more a h
line_more s (lines.Run n) replies more a h = runs_more s n replies more a h
