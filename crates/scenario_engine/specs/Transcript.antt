-- The transcript of a scenario, how the scenario ends, and what it asks of its keeper.
use Rattle.std.specs.Prelude.{ℕ, ◌+◌, nat_lt, if◌then◌else◌, List, [], ◌∷◌, ◌++◌, length, map, Option, Some, None}
use Rattle.boot_core.specs.Boot.{BootValue}
use Rattle.scenario_text.specs.declared.line.Line.{Line}
use Rattle.scenario_text.specs.declared.line.TheConstants.{MAX_LINE_BYTES}
use Rattle.scenario_text.specs.Reading.{line_of}
use Rattle.line_steps.specs.Head.{no_head}
use Rattle.scenario_engine.specs.declared.failure.UnstartedCause.{UnstartedCause}
use Rattle.scenario_engine.specs.Engine.{Replies, step, line_calls, ended_boots}
use Rattle.scenario_engine.specs.KeeperCalls.{KeeperCall}
use Rattle.scenario_engine.specs.State.{State, Heading, Running, Outcome, RefusedIn, DoneTo, UnstartedIn, UnderWayIn}

-- A line of a scenario, with what the keeper replies while it is done.
pub record Turn : Type 0 where
  pub line : List ℕ
  pub replies : Replies

-- the lines of turns
abbrev pub lines_in : List Turn → List (List ℕ)
lines_in turns = map (λ (turn : Turn). turn.line) turns

-- the state before the first line
abbrev pub first : State
first = Heading no_head

-- what is answered to a text that spells this line; one that spells none is refused, and starts no boot
abbrev pub answer_to : State → Option Line → Replies → Outcome
answer_to s None replies = RefusedIn s
answer_to s (Some line) replies = step s line replies

-- What a turn answers.
unfoldable pub turn_outcome : State → Turn → Outcome
turn_outcome s turn = answer_to s (line_of turn.line) turn.replies

-- the calls of the keeper by a text that spells this line, or none
abbrev pub calls_to : State → Option Line → Replies → List KeeperCall
calls_to s None replies = []
calls_to s (Some line) replies = line_calls s line replies

-- The calls of the keeper that a turn makes.
unfoldable pub turn_calls : State → Turn → List KeeperCall
turn_calls s turn = calls_to s (line_of turn.line) turn.replies

-- the boot that ends by a text which spells this line, or none
abbrev pub ends_to : State → Option Line → Replies → List BootValue
ends_to s None replies = []
ends_to s (Some line) replies = ended_boots s line replies

-- The boot that a turn ends, if it ends one.
unfoldable pub turn_ends : State → Turn → List BootValue
turn_ends s turn = ends_to s (line_of turn.line) turn.replies

-- What turns write from here on, up to the first that is refused, needs a boot that was not started, or is under way: a
-- line writes at its end.
abbrev pub transcript : State → List Turn → List ℕ
transcript s [] = []
transcript s (turn ∷ turns) = elim (turn_outcome s turn) [
  | RefusedIn t ↦ []
  | DoneTo t text ↦ text ++ transcript t turns
  | UnstartedIn t cause ↦ []
  | UnderWayIn t ↦ []
]

-- A scenario comes to its end, to a line that is refused or too long, which has this number, to a boot that was not
-- started, or to a line that is under way, which has this number. It leaves this state.
pub data End : Type 0 where
  Ended : (state : State) → End
  RefusedAt : (state : State) (number : ℕ) → End
  TooLong : (state : State) (number : ℕ) → End
  Unstarted : (state : State) (cause : UnstartedCause) → End
  UnderWay : (state : State) (number : ℕ) → End

-- How turns end from here on, the next of which has this number.
abbrev pub end_from : State → ℕ → List Turn → End
end_from s n [] = Ended s
end_from s n (turn ∷ turns) =
    if nat_lt MAX_LINE_BYTES (length turn.line) then TooLong s n else
    (elim (turn_outcome s turn) [
      | RefusedIn t ↦ RefusedAt t n
      | DoneTo t text ↦ end_from t (n + 1) turns
      | UnstartedIn t cause ↦ Unstarted t cause
      | UnderWayIn t ↦ UnderWay t n
    ])

-- The calls of the keeper that turns make from here on, up to where the scenario ends.
abbrev pub calls_from : State → List Turn → List KeeperCall
calls_from s [] = []
calls_from s (turn ∷ turns) =
    if nat_lt MAX_LINE_BYTES (length turn.line) then [] else
    (turn_calls s turn ++ (elim (turn_outcome s turn) [
      | RefusedIn t ↦ []
      | DoneTo t text ↦ calls_from t turns
      | UnstartedIn t cause ↦ []
      | UnderWayIn t ↦ []
    ]))

-- the boot of a state, where one is started
abbrev pub boots_in : State → List BootValue
boots_in (Heading head) = []
boots_in (Running r) = r.boot ∷ []

-- The boots of a scenario from here on, in order, each with the journal that it had when the next one started, and the
-- last with the one at the end.
abbrev pub boots_from : State → List Turn → List BootValue
boots_from s [] = boots_in s
boots_from s (turn ∷ turns) =
    if nat_lt MAX_LINE_BYTES (length turn.line) then boots_in s else
    (turn_ends s turn ++ (elim (turn_outcome s turn) [
      | RefusedIn t ↦ boots_in t
      | DoneTo t text ↦ boots_from t turns
      | UnstartedIn t cause ↦ boots_in t
      | UnderWayIn t ↦ boots_in t
    ]))

-- no line is under way: the keeper has replied to all that the turns asked
abbrev pub IsAnswered : End → Type 0
IsAnswered (Ended state) = Unit {0}
IsAnswered (RefusedAt state number) = Unit {0}
IsAnswered (TooLong state number) = Unit {0}
IsAnswered (Unstarted state cause) = Unit {0}
IsAnswered (UnderWay state number) = ⊥

-- the state at the end
abbrev pub last_state : End → State
last_state (Ended state) = state
last_state (RefusedAt state number) = state
last_state (TooLong state number) = state
last_state (Unstarted state cause) = state
last_state (UnderWay state number) = state
