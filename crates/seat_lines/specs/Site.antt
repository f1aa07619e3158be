-- The site of a scenario: its boot, its sessions, and its connections by their numbers.
use Rattle.std.specs.Prelude.{ℕ, ◌+◌, ◌-◌, All, List, [], ◌++◌, length, replicate, slice_index_or, slice_set, Option, Some, None}
use Rattle.boot_core.specs.Boot.{BootValue}
use Rattle.container_core.specs.Container.{ContainerValue}
use Rattle.container_core.specs.declared.history.Event.{Event}
use Rattle.deployment.specs.declared.parts.Parts.{Parts}
use Rattle.recovery_manager.specs.Kept.{ManagerValue}
use Rattle.recovery_manager.specs.Telling.{new_manager}
use Rattle.seat_steps.specs.Going.{GoesOnAtSeat}
use Rattle.seat_steps.specs.declared.seat.Seat.{Seat}
use Rattle.session_steps.specs.Sessions.{SessionsState}

-- The connections of a scenario, each at its number if it is there, the random word that is drawn next, and the manager
-- that hears of their requests that failed. Those past the end are not there.
pub record SeatsState : Type 0 where
  pub seats : List (Option Seat)
  pub word : ℕ
  pub manager : ManagerValue

-- All that a line about connections may change: the boot and the events since its start, the sessions, and the
-- connections.
pub record SiteState : Type 0 where
  pub boot : BootValue
  pub since : List Event
  pub sessions : SessionsState
  pub seats : SeatsState

-- before the first line: no connection, the first random word is 1, and the manager of these parts was told of nothing
abbrev pub no_seats : Parts → SeatsState
no_seats parts = record { seats = []; word = 1; manager = new_manager parts }

-- the site of a scenario, with its container
abbrev pub site_in : ContainerValue → SessionsState → SeatsState → SiteState
site_in container sessions seats =
    record { boot = container.boot; since = container.since; sessions = sessions; seats = seats }

-- a connection by its number, if it is there
abbrev pub seat_at : List (Option Seat) → ℕ → Option Seat
seat_at seats n = slice_index_or seats n None

-- the connections with a place for each number up to this one
abbrev pub padded : List (Option Seat) → ℕ → List (Option Seat)
padded seats n = seats ++ replicate (n + 1 - length seats) None

-- the same site with these connections
abbrev pub with_seats : SiteState → List (Option Seat) → SiteState
with_seats s seats = record s { seats = record (s.seats) { seats = seats } }

-- the same site with this connection, or with none, at a number that has a place
abbrev pub with_seat : SiteState → ℕ → Option Seat → SiteState
with_seat s n seat = with_seats s (slice_set s.seats.seats n seat)

-- a connection, if it is there, goes on in a container
abbrev pub IsGoingIn : ContainerValue → Option Seat → Type 0
IsGoingIn container None = Unit {0}
IsGoingIn container (Some seat) = GoesOnAtSeat container seat.connection

-- each connection goes on in a container
abbrev pub AllGoOn : ContainerValue → SeatsState → Type 0
AllGoOn container seats = All (IsGoingIn container) seats.seats
