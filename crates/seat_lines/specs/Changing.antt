-- What a line about one connection changes, and what it leaves.
use Rattle.std.specs.Prelude.{◌≡◌, ℕ, Bool, true, false, List, [], ◌++◌, Some}
use Rattle.scenario_text.specs.declared.seat_line.SeatLine.{SeatLine}
use Rattle.scenario_text.specs.declared.seat_line.SeatLine.TheVariants as lines
use Rattle.seat_steps.specs.Seats.{SeatOutcome}
use Rattle.seat_steps.specs.declared.seat.Seat.{Seat}
use Rattle.shepherd.specs.declared.shepherd.ShepherdTurn.{ShepherdTurn}
use Rattle.seat_lines.specs.Hearing.{decided_text, manager_after}
use Rattle.seat_lines.specs.Lines.{step_text}
use Rattle.seat_lines.specs.Site.{SiteState, seat_at}

-- the connection that a line is about
abbrev pub number_in : SeatLine → ℕ
number_in (lines.Conn n) = n
number_in (lines.Bytes n bytes) = n
number_in (lines.End n) = n
number_in (lines.Step n) = n
number_in (lines.Run n) = n

-- whether a line makes steps of its connection
abbrev pub makes_steps : SeatLine → Bool
makes_steps (lines.Conn n) = false
makes_steps (lines.Bytes n bytes) = false
makes_steps (lines.End n) = false
makes_steps (lines.Step n) = true
makes_steps (lines.Run n) = true

-- A line changed nothing but connections, and wrote nothing.
pub record ChangesSeatsAlone (old new : SiteState) (text : List ℕ) : Type 0 where
  pub boot : new.boot ≡ old.boot
  pub since : new.since ≡ old.since
  pub sessions : new.sessions ≡ old.sessions
  pub word : new.seats.word ≡ old.seats.word
  pub manager : new.seats.manager ≡ old.seats.manager
  pub silent : text ≡ []

-- A connection was there, whose input had not ended, and became this one.
pub record SeatBecomes (n : ℕ) (old : SiteState) (become : Seat → Seat) (new : SiteState) : Type 0 where
  pub seat : Seat
  pub was : seat_at old.seats.seats n ≡ Some seat
  pub not_ended : seat.connection.ended ≡ false
  pub becomes : seat_at new.seats.seats n ≡ Some (become seat)

-- The site is as the step of a seat at a turn leaves it: with the seat in its place, the bricks and the serial that is
-- drawn next put back, and the random words going on. The manager heard what the step reported, if it reported
-- something, and what was written is what was put out at the turn, and behind it the decision.
pub record IsLeftBySeat (old : SiteState) (n : ℕ) (turn : ShepherdTurn) (o : SeatOutcome) (new : SiteState) (text : List ℕ) : Type 0 where
  pub seat : seat_at new.seats.seats n ≡ Some o.seat
  pub boot : new.boot ≡ o.world.boot
  pub since : new.since ≡ o.world.since
  pub sessions : new.sessions ≡ record (old.sessions) { store = Some o.world.store; serial = o.world.serial }
  pub word : new.seats.word ≡ o.world.word
  pub manager : new.seats.manager ≡ manager_after old.seats.manager o.report
  pub text_is : text ≡ step_text turn n o.bytes ++ decided_text old.seats.manager o.report
