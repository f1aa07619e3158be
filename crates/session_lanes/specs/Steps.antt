-- What may be done with lanes, and what it leaves.
use Rattle.std.specs.Prelude.{ℕ, ◌==◌, Bool, false, nat_lt, if◌then◌else◌, List, [], ◌∷◌, slice_get, Option, Some, None}
use Rattle.std.specs.List.{count_by}
use Rattle.crash_base.specs.declared.numbers.Moment.{Moment}
use Rattle.crash_base.specs.declared.numbers.SessionKey.{SessionKey}
use Rattle.crash_base.specs.declared.numbers.Version.{Version}
use Rattle.crash_base.specs.Same.{same_version}
use Rattle.session_cookie.specs.declared.cookie.Cookie.{Cookie}
use Rattle.send_windows.specs.Facts.{open_count}
use Rattle.send_windows.specs.Windows.{WindowsValue, chosen, taken, refused}
use Rattle.send_windows.specs.declared.pass.Pass.{Pass}
use Rattle.send_windows.specs.declared.pass.PassMark.{PassMark}
use Rattle.session_lanes.specs.Calls.{more_lost, more_dropped, repeated, brick_crashed, brick_swept, pass_held, pass_freed}
use Rattle.session_lanes.specs.Lane.{lane_at}
use Rattle.session_lanes.specs.Lanes.{LanesState, begun_write, begun_read, turn_of, heard_by, spent_as}

-- One call of lanes: passes are taken from a number on; a write or a read begins; a call takes a turn; the passes of a
-- write are settled; replies are lost, asks dropped, a reply is repeated; a brick crashes or is swept; a pass is held
-- or freed.
pub data LanesStep : Type 0 where
  Takes : (first : ℕ) → LanesStep
  BeginsWrite : (nonce : Version) (key : SessionKey) (value : List ℕ) (expiry : Moment) (passes : List Pass) → LanesStep
  BeginsRead : (nonce : Version) (now : Moment) (cookie : Cookie) → LanesStep
  TakesTurn : (call : ℕ) → LanesStep
  Settles : (call : ℕ) (passes : List Pass) → LanesStep
  Loses : (brick more : ℕ) → LanesStep
  DropsAsks : (brick more : ℕ) → LanesStep
  Repeats : (brick number : ℕ) → LanesStep
  Crashes : (brick : ℕ) → LanesStep
  Sweeps : (brick : ℕ) (moment : Moment) → LanesStep
  Holds : (brick : ℕ) → LanesStep
  Frees : (brick : ℕ) (mark : PassMark) → LanesStep

-- what a call left, or the lanes as they were where it was refused
abbrev pub or_same : LanesState → Option LanesState → LanesState
or_same st None = st
or_same st (Some later) = later

-- windows after passes were taken from a number on, or refused where too few are open
abbrev pub after_take : WindowsValue → ℕ → WindowsValue
after_take windows first =
    if nat_lt (open_count windows.facts) windows.wq then refused windows else taken windows (chosen windows first)

-- the lanes after a call of them
abbrev pub after_step : LanesState → LanesStep → LanesState
after_step st (Takes first) = record st { windows = after_take st.windows first }
after_step st (BeginsWrite nonce key value expiry passes) = begun_write st nonce key value expiry passes
after_step st (BeginsRead nonce now cookie) = begun_read st nonce now cookie
after_step st (TakesTurn call) = turn_of st call (slice_get st.world.calls call)
after_step st (Settles call passes) = spent_as st (heard_by (slice_get st.world.calls call) passes)
after_step st (Loses brick more) = or_same st (more_lost st brick more)
after_step st (DropsAsks brick more) = or_same st (more_dropped st brick more)
after_step st (Repeats brick number) = or_same st (repeated st brick number)
after_step st (Crashes brick) = or_same st (brick_crashed st brick)
after_step st (Sweeps brick moment) = or_same st (brick_swept st brick moment)
after_step st (Holds brick) = pass_held st brick (lane_at st.lanes brick)
after_step st (Frees brick mark) = or_same st (pass_freed st brick mark)

-- the lanes after calls of them, the first first
abbrev pub after_steps : LanesState → List LanesStep → LanesState
after_steps st [] = st
after_steps st (step ∷ steps) = after_steps (after_step st step) steps

-- whether a write or a read begins with this nonce
abbrev pub begins_with : Version → LanesStep → Bool
begins_with nonce (BeginsWrite n key value expiry passes) = same_version n nonce
begins_with nonce (BeginsRead n now cookie) = same_version n nonce
begins_with nonce step = false

-- whether the call of a number takes a turn
abbrev pub is_turn_of : ℕ → LanesStep → Bool
is_turn_of number (TakesTurn call) = call == number
is_turn_of number step = false

-- how many turns the call of a number takes
abbrev pub turns_of : ℕ → List LanesStep → ℕ
turns_of number steps = count_by (is_turn_of number) steps
