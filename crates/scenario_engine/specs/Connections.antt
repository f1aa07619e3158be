-- The steps that connections of browsers make in a scenario, and what they read of their sessions.
use Rattle.std.specs.Prelude.{◌≡◌, ℕ, ◌-◌, ◌^◌, ◌<◌, ◌≤◌, All, nat_lt, Bool, if◌then◌else◌, List, [], ◌∷◌, ◌++◌, length, Option, Some, None, Ok}
use Rattle.lane_link.specs.Twins.{ByEvents}
use Rattle.scenario_text.specs.Line.{is_event}
use Rattle.scenario_text.specs.Reading.{line_of}
use Rattle.scenario_text.specs.declared.line.Line.{Line}
use Rattle.scenario_text.specs.declared.line.Line.TheVariants as lines
use Rattle.scenario_text.specs.declared.line.TheConstants.{MAX_LINE_BYTES}
use Rattle.scenario_text.specs.declared.seat_line.SeatLine.{SeatLine}
use Rattle.seat_laws.specs.Reads.{IsFoundOrLost, ReadsRightly, order_of, read_heard, read_under_way, value_written}
use Rattle.seat_laws.specs.Standing.{SeatStands}
use Rattle.seat_lines.specs.Lines.{givens_of, world_of}
use Rattle.seat_lines.specs.Making.{StepMade, line_makes}
use Rattle.seat_lines.specs.Site.{SeatsState, seat_at}
use Rattle.seat_steps.specs.Replies.{SeatHears}
use Rattle.seat_steps.specs.Seats.{SeatOutcome, seat_step}
use Rattle.seat_steps.specs.Twinned.{way_in}
use Rattle.seat_steps.specs.declared.seat.Seat.{Seat}
use Rattle.session_cookie.specs.declared.cookie.Cookie.{Cookie}
use Rattle.session_lanes.specs.Lanes.{LanesState}
use Rattle.session_lanes.specs.Sound.{LanesAreSound}
use Rattle.session_way.specs.Reading.{cookie_asked}
use Rattle.session_way.specs.Way.{answer_held}
use Rattle.session_way.specs.declared.session_read.ReadOutcome.{ReadOutcome}
use Rattle.ssm_stub.specs.Reads.{ReadState}
use Rattle.ssm_world.specs.Claims.{IsAcknowledged}
use Rattle.scenario_engine.specs.Engine.{Replies, Target, TheHead, TheBoot, TheUnstarted, target_of}
use Rattle.scenario_engine.specs.State.{RunningState, State, Running, RefusedIn, DoneTo, UnstartedIn, UnderWayIn, site_of}
use Rattle.scenario_engine.specs.Transcript.{Turn, Ended, first, end_from, turn_outcome}

-- the steps that a line about connections makes over a boot: none where the deployment is not that of the site
abbrev pub seat_makes : RunningState → SeatLine → List Bool → List StepMade
seat_makes r line replies = if r.site then line_makes (site_of r) line replies else []

-- the steps of connections that any line over a boot makes
abbrev pub makes_over : RunningState → Line → Replies → List StepMade
makes_over r lines.Pass replies = []
makes_over r (lines.Head line) replies = []
makes_over r (lines.Call caller line) replies = []
makes_over r (lines.Commit caller) replies = []
makes_over r (lines.Boot line) replies = []
makes_over r lines.Reopen replies = []
makes_over r (lines.Session line) replies = []
makes_over r (lines.Seat line) replies = seat_makes r line replies.keeps

-- the same of a line that is done to a target
abbrev pub makes_on : Target → Line → Replies → List StepMade
makes_on (TheHead head) line replies = []
makes_on (TheBoot r) line replies = makes_over r line replies
makes_on (TheUnstarted head cause) line replies = []

-- the same of a text that spells this line, or none
abbrev pub makes_to : State → Option Line → Replies → List StepMade
makes_to s None replies = []
makes_to s (Some line) replies = makes_on (target_of s (is_event line) replies.first) line replies

-- The steps of connections that a turn makes.
unfoldable pub turn_makes : State → Turn → List StepMade
turn_makes s turn = makes_to s (line_of turn.line) turn.replies

-- The steps that connections make in turns from here on, in order.
abbrev pub made_from : State → List Turn → List StepMade
made_from s [] = []
made_from s (turn ∷ turns) =
    if nat_lt MAX_LINE_BYTES (length turn.line) then [] else
    (turn_makes s turn ++ (elim (turn_outcome s turn) [
      | RefusedIn t ↦ []
      | DoneTo t text ↦ made_from t turns
      | UnstartedIn t cause ↦ []
      | UnderWayIn t ↦ []
    ]))

-- A step is made by this connection over these bricks, while serials are left: what is said of steps of connections is
-- said of these.
pub record IsMadeBy (step : StepMade) (seat : Seat) (bricks : LanesState) : Type 0 where
  pub seat_is : seat_at step.site.seats.seats step.number ≡ Some seat
  pub bricks_are : step.site.sessions.store ≡ Some bricks
  pub unspent : step.site.sessions.serial < 2 ^ 64 - 1

-- what it leaves of the connection and of the bricks
abbrev pub step_leaves : StepMade → Seat → LanesState → SeatOutcome
step_leaves step seat bricks = seat_step (givens_of step.site step.number step.keeps) seat (world_of step.site bricks)

-- the connection of a number has no read and no write of its session under way, if it is there
abbrev pub IsIdle : SeatsState → ℕ → Type 0
IsIdle seats n = (seat : Seat) → seat_at seats.seats n ≡ Some seat → seat.twin ≡ None

-- The read or the write of its session that a connection has under way, if it has one, began over later bricks than
-- these: it is none of their calls.
abbrev pub BeganSince : LanesState → Seat → Type 0
BeganSince earlier seat = (number : ℕ) → seat.twin ≡ Some number → length earlier.world.calls ≤ number

-- A step is made by a connection that stands over bricks and hears what is spelled by its bytes. Events led to the
-- bricks from earlier ones, which are sound; and what the connection has under way began since then, where it was idle
-- among the connections of that time.
pub record StandsSince (past : SeatsState) (earlier : LanesState) (step : StepMade) (seat : Seat) (bricks : LanesState) : Type 0 where
  pub stands : SeatStands seat bricks
  pub spelled : SeatHears seat bricks
  pub sound : LanesAreSound earlier
  pub events : ByEvents earlier bricks
  pub begins : IsIdle past step.number → BeganSince earlier seat

-- so is a step, whatever connection makes it over whatever bricks
abbrev pub StepStands : SeatsState → LanesState → StepMade → Type 0
StepStands past earlier step =
    (seat : Seat) (bricks : LanesState) → IsMadeBy step seat bricks → StandsSince past earlier step seat bricks

-- A connection that waits for a read of its session hears in a step what the read came to.
pub record HearsRead (step : StepMade) : Type 0 where
  pub seat : Seat
  pub bricks : LanesState
  pub made : IsMadeBy step seat bricks
  pub read : ReadState
  pub waits : read_under_way seat.connection.stage ≡ Some read
  pub outcome : ReadOutcome
  pub heard : read_heard (step_leaves step seat bricks).seat.connection.stage ≡ Some outcome

-- What a connection heard of a read is right, where the read's cookie was acknowledged with this value in earlier
-- bricks: it found just this value; or the cookie has expired; or the session is lost, with the cause of each brick of
-- the cookie. Within the lease it found the value, or lost it at each brick.
pub record IsReadBack (earlier : LanesState) (step : StepMade) (it : HearsRead step) (value : List ℕ) : Type 0 where
  pub right : ReadsRightly earlier (step_leaves step it.seat it.bricks).world.store (order_of it.read) value it.outcome
  pub in_time : it.read.moment.0 ≤ it.read.expiry.0 → IsFoundOrLost value (cookie_asked it.read).bricks it.outcome

-- Whatever a step hears of a read is right, where the read began since these bricks, and its cookie was acknowledged in
-- them with a value.
abbrev pub ReadsBack : LanesState → StepMade → Type 0
ReadsBack earlier step =
    (it : HearsRead step) (value : List ℕ) → BeganSince earlier it.seat
    → IsAcknowledged earlier.world (cookie_asked it.read) value → IsReadBack earlier step it value

-- A cookie that the connection of a step was answered by the write of its session is acknowledged in later bricks with
-- the value that it wrote.
abbrev pub Wrote : LanesState → StepMade → Type 0
Wrote later step =
    (seat : Seat) (bricks : LanesState) (cookie : Cookie) → IsMadeBy step seat bricks
    → answer_held (way_in seat.connection.stage) ≡ Some (Ok cookie)
    → IsAcknowledged later.world cookie (value_written (way_in seat.connection.stage))

-- A pause between two turns, none inside a run: those before it were done and left a boot with bricks, and the others
-- follow.
pub record Pause (turns : List Turn) : Type 0 where
  pub before : List Turn
  pub more : List Turn
  pub turns_are : turns ≡ before ++ more
  pub running : RunningState
  pub done : end_from first 1 before ≡ Ended (Running running)
  pub bricks : LanesState
  pub bricks_are : running.sessions.store ≡ Some bricks

-- the steps that connections made before a pause
abbrev pub steps_before : {turns : List Turn} → Pause turns → List StepMade
steps_before pause = made_from first pause.before

-- the steps that connections make behind a pause
abbrev pub steps_behind : {turns : List Turn} → Pause turns → List StepMade
steps_behind pause = made_from (Running pause.running) pause.more

-- A step among those that connections make in turns, with the steps before it and those behind it, which may be of its
-- own line: it is made by this connection over these bricks.
pub record StepAmong (turns : List Turn) : Type 0 where
  pub before : List StepMade
  pub step : StepMade
  pub behind : List StepMade
  pub steps_are : made_from first turns ≡ before ++ step ∷ behind
  pub seat : Seat
  pub bricks : LanesState
  pub made : IsMadeBy step seat bricks

-- What browsers read of their sessions was written, seen from a time: there were these connections over these bricks.
-- The steps `before` were made up to then, and the steps `behind` from then on. The cookies that writes had answered by
-- then are acknowledged then with what these wrote (`writes`). Each step behind that hears what a read came to hears
-- rightly, where the read's cookie was acknowledged then and the read began since (`reads`). Of a connection that was
-- idle then, or was not there, each read behind began since; and each step behind is made by a connection that stands
-- over its bricks, to which events led from those of then (`stand`).
pub record HasBrowsersAt (past : SeatsState) (bricks : LanesState) (before behind : List StepMade) : Type 0 where
  pub writes : All (Wrote bricks) before
  pub reads : All (ReadsBack bricks) behind
  pub stand : All (StepStands past bricks) behind

-- What browsers read of their sessions was written, in each step that is made while serials are left: by each pause
-- between two turns (`pauses`), and by the begin of each step, also inside a run (`steps`).
pub record HasBrowsers (turns : List Turn) : Type 0 where
  pub pauses : (pause : Pause turns)
      → HasBrowsersAt pause.running.seats pause.bricks (steps_before pause) (steps_behind pause)
  pub steps : (at : StepAmong turns)
      → HasBrowsersAt at.step.site.seats at.bricks (at.before ++ at.step ∷ []) (at.step ∷ at.behind)
