-- Seats stand while others change the bricks.
use Rattle.std.proofs.Common.{◌≡◌, ℕ, List, Option, Some, None, slice_get, refl, sym, subst}
use Rattle.lane_link.specs.Twins.{NoneTurns}
use Rattle.send_windows.specs.Calls.{Spend, WindowCall, after_call}
use Rattle.send_windows.specs.Windows.{KeepLimits, WindowsValue}
use Rattle.send_windows.specs.declared.pass.Pass.{Pass}
use Rattle.session_lanes.specs.Lanes.{LanesState}
use Rattle.session_lanes.specs.Sound.{LanesAreSound}
use Rattle.session_lanes.specs.Steps.{LanesStep, after_steps}
use Rattle.session_way.specs.Way.{after_give_back, held}
use Rattle.session_way.specs.declared.way.SessionWay.{SessionWay}
use Rattle.shepherd.specs.declared.shepherd.Stage.{Stage}
use Rattle.ssm_world.specs.declared.call.Call.{Call}
use Rattle.auction_calls.specs.declared.action.ActionCall.{ActionCall}
use Rattle.seat_steps.specs.Gone.{seat_gone, stage_gone}
use Rattle.seat_steps.specs.Twinned.{way_in}
use Rattle.seat_steps.specs.declared.seat.Seat.{Seat}
use Rattle.seat_laws.specs.Standing.{HasTwin, SeatStands}
use Rattle.seat_laws.proofs.Moving.{MoveLaws, on-world}

-- the twin of a way by the world alone
same-has : (to : SessionWay) (twin : Option ℕ) (st later : LanesState) → later.world ≡ st.world → HasTwin to twin st → HasTwin to twin later
same-has to None st later same none = none
same-has to (Some n) st later same is = on-world st later n to same is

-- A seat whose stage and twin are as they were stands still.
pub still-stands : (seat new : Seat) (st : LanesState) → new.connection.stage ≡ seat.connection.stage → new.twin ≡ seat.twin → SeatStands seat st → SeatStands new st
still-stands seat new st stage twin stands = record {
  sound = stands.sound;
  limits = stands.limits;
  twin = subst (λ (t : Option ℕ). HasTwin (way_in new.connection.stage) t st) (sym twin)
      (subst (λ (x : Stage ActionCall). HasTwin (way_in x) seat.twin st) (sym stage) stands.twin);
}

-- Others stand where a seat is given up.
pub gone-stands : MoveLaws → ((s : WindowsValue) (call : WindowCall) → KeepLimits s → KeepLimits (after_call s call)) → (seat other : Seat) (st : LanesState) → SeatStands other st → SeatStands other (seat_gone seat st).store
unfolding stage_gone
gone-stands moves limited seat other st its = record {
  sound = moves.windowed st (after_give_back st.windows (held (way_in seat.connection.stage))) its.sound;
  limits = back (held (way_in seat.connection.stage));
  twin = same-has (way_in other.connection.stage) other.twin st (record st { windows = after_give_back st.windows (held (way_in seat.connection.stage)) }) refl its.twin;
} where
  back : (o : Option (List Pass)) → KeepLimits (after_give_back st.windows o)
  back None = its.limits
  back (Some passes) = limited st.windows (Spend passes) its.limits

-- A seat stands over calls of the lanes of which none is a turn of its twin.
pub lanes-stand : MoveLaws → (seat : Seat) (st : LanesState) (steps : List LanesStep) → SeatStands seat st → KeepLimits (after_steps st steps).windows
    → ((number : ℕ) → seat.twin ≡ Some number → NoneTurns number steps) → SeatStands seat (after_steps st steps)
lanes-stand moves seat st steps stands limits none = record {
  sound = moves.sound st steps stands.sound;
  limits = limits;
  twin = by seat.twin refl stands.twin;
} where
  by : (twin : Option ℕ) → seat.twin ≡ twin → HasTwin (way_in seat.connection.stage) twin st → HasTwin (way_in seat.connection.stage) twin (after_steps st steps)
  by None is held = held
  by (Some n) is twin = moves.stays st steps n (way_in seat.connection.stage) stands.sound twin (none n is)

-- A seat stands over other lanes in which its call is as it was.
pub calls-stand : (seat : Seat) (st later : LanesState) → SeatStands seat st → LanesAreSound later → KeepLimits later.windows
    → ((number : ℕ) (call : Call) → seat.twin ≡ Some number → slice_get st.world.calls number ≡ Some call → slice_get later.world.calls number ≡ Some call) → SeatStands seat later
calls-stand seat st later stands sound limits stays = record { sound = sound; limits = limits; twin = by seat.twin refl stands.twin } where
  by : (twin : Option ℕ) → seat.twin ≡ twin → HasTwin (way_in seat.connection.stage) twin st → HasTwin (way_in seat.connection.stage) twin later
  by None is held = held
  by (Some n) is twin = record { held = twin.held; holds = twin.holds; there = stays n twin.held is twin.there }
