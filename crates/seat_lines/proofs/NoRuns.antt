-- A run is refused of a connection that is not there, of a number that none may have, and where there are no bricks.
use Rattle.std.proofs.Common.{◌≡◌, ◌∙◌, ◌<◌, ◌&&◌, ℕ, Bool, true, false, not, List, Option, Some, None, is_some, refl, ap}
use Rattle.scenario_text.specs.Answer.{Refused}
use Rattle.scenario_text.specs.declared.seat_line.SeatLine.TheVariants as lines
use Rattle.scenario_text.specs.declared.seat_line.TheConstants.{MAX_SEAT}
use Rattle.seat_steps.specs.declared.seat.Seat.{Seat}
use Rattle.session_lanes.specs.Lanes.{LanesState}
use Rattle.seat_lines.specs.Lines.{is_beyond}
use Rattle.seat_lines.specs.Runs.{seat_line}
use Rattle.seat_lines.specs.Site.{SiteState, seat_at}
use Rattle.seat_lines.proofs.Taken.{is_far, run_refused}

-- what has one part that is false is false
none_of_two : (a : Bool) → (a && false) ≡ false
none_of_two true = refl
none_of_two false = refl

none_of_three : (a b : Bool) → (a && (b && false)) ≡ false
none_of_three true b = none_of_two b
none_of_three false b = refl

pub absent_refused : (s : SiteState) (n : ℕ) (replies : List Bool) → seat_at s.seats.seats n ≡ None → seat_line s (lines.Run n) replies ≡ Some Refused
absent_refused s n replies none =
    run_refused s n replies (ap (λ (o : Option Seat). not (is_beyond n) && (is_some s.sessions.store && is_some o)) none ∙ none_of_three (not (is_beyond n)) (is_some s.sessions.store))

pub past_refused : (s : SiteState) (n : ℕ) (replies : List Bool) → MAX_SEAT < n → seat_line s (lines.Run n) replies ≡ Some Refused
past_refused s n replies far =
    run_refused s n replies (ap (λ (b : Bool). not b && (is_some s.sessions.store && is_some (seat_at s.seats.seats n))) (is_far n far))

pub bare_refused : (s : SiteState) (n : ℕ) (replies : List Bool) → s.sessions.store ≡ None → seat_line s (lines.Run n) replies ≡ Some Refused
bare_refused s n replies none =
    run_refused s n replies (ap (λ (o : Option LanesState). not (is_beyond n) && (is_some o && is_some (seat_at s.seats.seats n))) none ∙ none_of_two (not (is_beyond n)))
