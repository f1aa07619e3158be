-- Seats that stand over bricks: the twin of each is that of what it does with its session.
use Rattle.std.specs.Prelude.{◌≡◌, ◌≢◌, ℕ, true, Option, Some, None}
use Rattle.lane_link.specs.Twins.{IsTwin, call_held}
use Rattle.send_windows.specs.Windows.{KeepLimits}
use Rattle.session_lanes.specs.Lanes.{LanesState}
use Rattle.session_lanes.specs.Sound.{LanesAreSound}
use Rattle.session_way.specs.declared.way.SessionWay.{SessionWay}
use Rattle.ssm_world.specs.Worlds.{is_new, nonce_of}
use Rattle.ssm_world.specs.declared.call.Call.{Call}
use Rattle.seat_steps.specs.Twinned.{way_in}
use Rattle.seat_steps.specs.declared.seat.Seat.{Seat}

-- the call of this number, if one is told, is the twin of what a way holds; where none is, nothing is held
abbrev pub HasTwin : SessionWay → Option ℕ → LanesState → Type 0
HasTwin to None st = call_held to ≡ None
HasTwin to (Some number) st = IsTwin st number to

-- A seat stands over bricks, which are sound.
pub record SeatStands (seat : Seat) (st : LanesState) : Type 0 where
  pub sound : LanesAreSound st
  pub limits : KeepLimits st.windows
  pub twin : HasTwin (way_in seat.connection.stage) seat.twin st

-- what a way holds has a nonce that no call of the lanes has
abbrev pub HoldsNew : LanesState → SessionWay → Type 0
HoldsNew st to = (held : Call) → call_held to ≡ Some held → is_new st.world (nonce_of held) ≡ true

-- two seats have no twin in common
abbrev pub AreApart : Option ℕ → Option ℕ → Type 0
AreApart one other = (number : ℕ) → one ≡ Some number → other ≢ Some number
