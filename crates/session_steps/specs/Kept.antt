-- What holds of sessions between two lines.
use Rattle.std.specs.Prelude.{◌≤◌, All, Option, Some, None}
use Rattle.session_cookie.specs.Cookie.{AreHolders}
use Rattle.session_cookie.specs.declared.cookie.Cookie.{Cookie}
use Rattle.ssm_world.specs.Worlds.{IsMade}
use Rattle.session_lanes.specs.Sound.{LanesAreOf}
use Rattle.session_steps.specs.Lent.{LentSessionsState}
use Rattle.session_steps.specs.Sessions.{SessionsState}
use Rattle.session_lanes.specs.Lanes.{LanesState}
use Rattle.session_steps.specs.declared.sessions.TheConstants.{MAX_MOMENT}

-- a cookie, if there is one, names 1 to 16 distinct bricks
abbrev pub HasHolders : Option Cookie → Type 0
HasHolders None = Unit {0}
HasHolders (Some cookie) = AreHolders cookie.bricks

-- events made the world of the bricks, and the packets that their lanes name are their replies, if there are bricks
abbrev pub HasSoundStore : Option LanesState → Type 0
HasSoundStore None = Unit {0}
HasSoundStore (Some st) = IsMade st.world × LanesAreOf st

-- The present moment is one of the clock, each cookie names 1 to 16 distinct bricks, and the bricks are as events and
-- lanes made them.
pub record IsSessions (s : SessionsState) : Type 0 where
  pub in_time : s.moment.0 ≤ MAX_MOMENT
  pub cookies : All HasHolders s.cookies
  pub store : HasSoundStore s.store

-- of sessions whose bricks and serials are lent, the same of what is left
pub record IsLent (l : LentSessionsState) : Type 0 where
  pub in_time : l.moment.0 ≤ MAX_MOMENT
  pub cookies : All HasHolders l.cookies
