-- The twin of a connection's read or write: the call of the world that is as far as it is.
use Rattle.std.specs.Prelude.{◌≡◌, ℕ, true, false, All, List, Option, Some, None, slice_get}
use Rattle.ssm_world.specs.declared.call.Call.{Call}
use Rattle.ssm_world.specs.declared.call.Call.TheVariants as call
use Rattle.ssm_world.specs.declared.event.WorldEvent.{WorldEvent}
use Rattle.ssm_world.specs.Claims.{IsAcknowledged, ReadOrder, read_world}
use Rattle.ssm_world.specs.Worlds.{after, is_new}
use Rattle.session_way.specs.declared.way.SessionWay.{SessionWay}
use Rattle.session_way.specs.declared.way.SessionWay.TheVariants.{Resting, Reading, Ordered, Writing, Settling, Holding}
use Rattle.session_lanes.specs.Lanes.{LanesState}
use Rattle.session_lanes.specs.Sound.{LanesAreSound}
use Rattle.session_lanes.specs.Steps.{LanesStep, after_step, TakesTurn, is_turn_of}
use Rattle.lane_link.specs.declared.link.LaneLink.{LaneLink}

-- the read or the write that a way holds, as a call of a world
abbrev pub call_held : SessionWay → Option Call
call_held Resting = None
call_held (Reading r) = Some (call.Read r)
call_held (Ordered order) = None
call_held (Writing w) = Some (call.Write w.write)
call_held (Settling w) = Some (call.Write w.write)
call_held (Holding passes) = None

-- The call of this number is the twin of what a way holds: the same read or write, as far as it has come.
pub record IsTwin (st : LanesState) (number : ℕ) (way : SessionWay) : Type 0 where
  pub held : Call
  pub holds : call_held way ≡ Some held
  pub there : slice_get st.world.calls number ≡ Some held

-- none of these calls of lanes is a turn of the call of this number
abbrev pub NoneTurns : ℕ → List LanesStep → Type 0
NoneTurns number steps = All (λ (step : LanesStep). is_turn_of number step ≡ false) steps

-- A link went on by one turn of the call of this number, which is the twin of the way as it is now; and its lanes are
-- sound.
pub record TurnsTwin (number : ℕ) (old new : LaneLink) (way : SessionWay) : Type 0 where
  pub turn : new ≡ record old { lanes = after_step old.lanes (TakesTurn number) }
  pub twin : IsTwin new.lanes number way
  pub sound : LanesAreSound new.lanes

-- A read of a cookie that was acknowledged with this value in sound lanes began in their world, with a new nonce, and
-- these events of the world followed.
pub record ReadsAfter (earlier : LanesState) (order : ReadOrder) (value : List ℕ) (events : List WorldEvent) (later : LanesState) : Type 0 where
  pub sound : LanesAreSound earlier
  pub acknowledged : IsAcknowledged earlier.world order.cookie value
  pub new : is_new earlier.world order.nonce ≡ true
  pub since : later.world ≡ read_world earlier.world order events

-- events of its world lead from lanes to others, but for windows and counts
abbrev pub ByEvents : LanesState → LanesState → Type 0
ByEvents st later = (events : List WorldEvent) × (later.world ≡ after st.world events)
