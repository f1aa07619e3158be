-- Lanes whose windows are lent.
use Rattle.std.specs.Prelude.{List}
use Rattle.send_windows.specs.Windows.{WindowsValue}
use Rattle.ssm_world.specs.Worlds.{WorldValue}
use Rattle.session_lanes.specs.Counts.{CountsState}
use Rattle.session_lanes.specs.Lane.{LaneState}
use Rattle.session_lanes.specs.Lanes.{LanesState}

-- The bricks by their world, the lane of each, in order of number, and what is counted of all calls.
pub record LentState : Type 0 where
  pub world : WorldValue
  pub lanes : List LaneState
  pub counts : CountsState

-- lanes without their windows
abbrev pub without_windows : LanesState → LentState
without_windows st = record { world = st.world; lanes = st.lanes; counts = st.counts }

-- these lanes with these windows
abbrev pub with_windows : LentState → WindowsValue → LanesState
with_windows lent windows =
    record { world = lent.world; windows = windows; lanes = lent.lanes; counts = lent.counts }
