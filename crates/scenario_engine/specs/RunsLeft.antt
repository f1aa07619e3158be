-- How many steps a run of a connection makes at most.
use Rattle.std.specs.Prelude.{ℕ, ◌≤◌, Option, Some, None, IfSome}
use Rattle.seat_laws.specs.StepsLeft.{IsCounted, seat_left}
use Rattle.seat_lines.specs.Site.{SiteState, seat_at}
use Rattle.seat_steps.specs.declared.seat.Seat.{Seat}
use Rattle.send_windows.specs.declared.fact.TheConstants.{MAX_BRICKS}
use Rattle.session_lanes.specs.Lanes.{LanesState}

-- the steps that are left for a connection, if it is there
abbrev pub left_at : Option Seat → ℕ
left_at None = 0
left_at (Some seat) = seat_left seat

-- the steps that a run of the connection of this number makes at most
abbrev pub run_left : SiteState → ℕ → ℕ
run_left s n = left_at (seat_at s.seats.seats n)

-- The steps of a run are counted: those of its connection are, if it is there, and a take of the windows gives passes
-- to no more bricks than there may be.
pub record RunIsCounted (s : SiteState) (n : ℕ) : Type 0 where
  pub seat : IfSome (seat_at s.seats.seats n) (λ (seat : Seat). IsCounted s.boot seat)
  pub windows : IfSome s.sessions.store (λ (st : LanesState). st.windows.w ≤ MAX_BRICKS)
