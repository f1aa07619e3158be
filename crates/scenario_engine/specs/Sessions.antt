-- The sessions of a scenario: what its turns do to them.
use Rattle.std.specs.Prelude.{◌≡◌, ℕ, nat_lt, Bool, if◌then◌else◌, List, [], ◌∷◌, ◌++◌, length, map, Option, Some, None}
use Rattle.boot_core.specs.Boot.{BootValue}
use Rattle.scenario_text.specs.declared.line.Line.{Line}
use Rattle.scenario_text.specs.declared.line.Line.TheVariants as lines
use Rattle.scenario_text.specs.declared.line.TheConstants.{MAX_LINE_BYTES}
use Rattle.scenario_text.specs.Line.{is_event}
use Rattle.scenario_text.specs.Reading.{line_of}
use Rattle.scenario_text.specs.declared.seat_line.SeatLine.{SeatLine}
use Rattle.scenario_text.specs.declared.seat_line.SeatLine.TheVariants as seats
use Rattle.session_steps.specs.Lent.{LentStep}
use Rattle.session_steps.specs.Promise.{SessionTurn, Does, Boots, Lends}
use Rattle.session_steps.specs.Sessions.{SessionsState}
use Rattle.scenario_text.specs.Setup.{SetupState, HasCounts}
use Rattle.session_steps.specs.Setup.{set_up}
use Rattle.session_steps.specs.Standing.{SessionsStand}
use Rattle.scenario_engine.specs.Engine.{Replies, Target, TheHead, TheBoot, TheUnstarted, target_of}
use Rattle.scenario_engine.specs.Lending.{give_lends, line_lends}
use Rattle.scenario_engine.specs.State.{RunningState, State, Heading, Running, RefusedIn, DoneTo, UnstartedIn, UnderWayIn, site_of}
use Rattle.scenario_engine.specs.Transcript.{Turn, first, end_from, last_state, turn_outcome, boots_in}

-- the starts of the boot of a state, for sessions
abbrev pub start_turns : State → List SessionTurn
start_turns t = map (λ (b : BootValue). Boots b.start.boot) (boots_in t)

-- connections did this with bricks that were lent to them, if they did something, and drew no serial
abbrev pub lent_if_any : List LentStep → ℕ → List SessionTurn
lent_if_any [] serial = []
lent_if_any (step ∷ steps) serial = Lends (step ∷ steps) serial ∷ []

-- connections did this with bricks that were lent to them, and drew serials up to that of this state
abbrev pub lent_in : List LentStep → State → List SessionTurn
lent_in steps (Heading head) = []
lent_in steps (Running r) = Lends steps r.sessions.serial ∷ []

-- what a line about connections does to sessions that left this state: its steps are lent the bricks and the serials
abbrev pub seat_turns : RunningState → SeatLine → List Bool → State → List SessionTurn
seat_turns r (seats.Conn n) replies t = []
seat_turns r (seats.Bytes n bytes) replies t = []
seat_turns r (seats.End n) replies t = []
seat_turns r (seats.Step n) replies t = lent_in (line_lends (site_of r) (seats.Step n) replies) t
seat_turns r (seats.Run n) replies t = lent_in (line_lends (site_of r) (seats.Run n) replies) t

-- what a line over a boot does to sessions that was done or is under way, left this state and wrote this text: a line
-- about sessions, the steps of a connection, and the start of the next boot, before which connections give back what
-- they hold
abbrev pub turns_over : RunningState → Line → Replies → State → List ℕ → List SessionTurn
turns_over r lines.Pass replies t text = []
turns_over r (lines.Head line) replies t text = []
turns_over r (lines.Call caller line) replies t text = []
turns_over r (lines.Commit caller) replies t text = []
turns_over r (lines.Boot line) replies t text = []
turns_over r lines.Reopen replies t text = lent_if_any (give_lends r.seats.seats) r.sessions.serial ++ start_turns t
turns_over r (lines.Session line) replies t text = Does line text ∷ []
turns_over r (lines.Seat line) replies t text = seat_turns r line replies.keeps t

-- what a line does to sessions that is done to a target, left this state and wrote this text
abbrev pub turns_by : Target → Line → Replies → State → List ℕ → List SessionTurn
turns_by (TheHead head) line replies t text = []
turns_by (TheBoot r) line replies t text = turns_over r line replies t text
turns_by (TheUnstarted head cause) line replies t text = []

-- the start of the first boot, where a line in this state starts it before it is done to this
abbrev pub first_start : State → Target → List SessionTurn
first_start (Heading head) (TheHead h) = []
first_start (Heading head) (TheBoot r) = Boots r.boot.start.boot ∷ []
first_start (Heading head) (TheUnstarted h cause) = []
first_start (Running r) target = []

-- the same of a text that spells this line, or none
abbrev pub turns_to : State → Option Line → Replies → State → List ℕ → List SessionTurn
turns_to s None replies t text = []
turns_to s (Some line) replies t text =
    first_start s (target_of s (is_event line) replies.first)
    ++ turns_by (target_of s (is_event line) replies.first) line replies t text

-- What a turn does to sessions that was done or is under way, left this state and wrote this text.
unfoldable pub turn_on_sessions : State → Turn → State → List ℕ → List SessionTurn
turn_on_sessions s turn t text = turns_to s (line_of turn.line) turn.replies t text

-- the start of the first boot by a text that spells this line, or none, where that starts it
abbrev pub starts_by : State → Option Line → Replies → List SessionTurn
starts_by s None replies = []
starts_by s (Some line) replies = first_start s (target_of s (is_event line) replies.first)

-- What a turn does to sessions that was not done: it may have started the first boot.
unfoldable pub starts_on : State → Turn → List SessionTurn
starts_on s turn = starts_by s (line_of turn.line) turn.replies

-- What turns do to sessions from here on, in order: their lines about sessions that were done, each with what it wrote,
-- what connections did with the bricks, and the starts of boots.
abbrev pub session_turns : State → List Turn → List SessionTurn
session_turns s [] = []
session_turns s (turn ∷ turns) =
    if nat_lt MAX_LINE_BYTES (length turn.line) then [] else
    (elim (turn_outcome s turn) [
      | RefusedIn t ↦ starts_on s turn
      | DoneTo t text ↦ turn_on_sessions s turn t text ++ session_turns t turns
      | UnstartedIn t cause ↦ starts_on s turn
      | UnderWayIn t ↦ turn_on_sessions s turn t []
    ])

-- the sessions of a state are these, of this setup: those beside its boot, or those that its head sets up
abbrev pub AreSessionsOf : State → SetupState → SessionsState → Type 0
AreSessionsOf (Heading head) setup sessions = (setup ≡ head.setup) × (sessions ≡ set_up setup 0)
AreSessionsOf (Running r) setup sessions = sessions ≡ r.sessions

-- The sessions of the state that turns leave stand: the turns lead to them from a setup with as many bricks as head
-- lines allow.
pub record HasSessions (turns : List Turn) : Type 0 where
  pub setup : SetupState
  pub counts : HasCounts setup.counts
  pub end : SessionsState
  pub ends : AreSessionsOf (last_state (end_from first 1 turns)) setup end
  pub stand : SessionsStand setup (session_turns first turns) end
