-- The event of a step: what it leaves before the connection goes on by itself, and what it hands to the keeper.
use Rattle.std.specs.Prelude.{◌≡◌, ◌⊎◌, ℕ, Bool, true, false, not, List, [], ◌∷◌, ◌++◌}
use Rattle.boot_core.specs.Boot.{BootValue}
use Rattle.call_ticket.specs.declared.next.Answer.{Answer}
use Rattle.call_ticket.specs.declared.next.Next.{Next}
use Rattle.container_core.specs.declared.history.Event.{Event}
use Rattle.crash_base.specs.declared.rows.RowWrite.{RowWrite}
use Rattle.shepherd.specs.Shepherds.{turn}
use Rattle.shepherd.specs.Standing.{has_left}
use Rattle.shepherd.specs.declared.shepherd.ShepherdTurn.{ShepherdTurn}
use Rattle.shepherd.specs.declared.shepherd.ShepherdTurn.TheVariants as turns
use Rattle.shepherd.specs.declared.shepherd.Stage.{Stage}
use Rattle.shepherd.specs.declared.shepherd.Stage.TheVariants.{Resting, Serving, Refusing, Over}
use Rattle.shepherd_steps.specs.Inside.{handed}
use Rattle.shepherd_steps.specs.Stepping.{Givens, Outcome, World, event_at}

-- What the event of a step leaves, before the connection goes on by itself: no item was taken yet.
unfoldable pub event_of : {P L : Type 0} → Givens P L → World P L → Outcome P L
event_of g w = let event = event_at g (turn w.connection) w in record { world = event.0; bytes = event.1; items = [] }

-- the writes that a step of the request that is open hands to the keeper
abbrev pub handed_on : {P : Type 0} → (P → List Answer → Next) → Stage P → BootValue → List RowWrite
handed_on asks Resting boot = []
handed_on asks (Serving v call) boot = handed asks v boot
handed_on asks (Refusing why bytes) boot = []
handed_on asks (Over end) boot = []

-- the writes that a step hands to the keeper at a turn: none, but in the container
abbrev pub handed_at_turn : {P L : Type 0} → Givens P L → ShepherdTurn → World P L → List RowWrite
handed_at_turn g turns.Bytes w = []
handed_at_turn g turns.Request w = []
handed_at_turn g turns.Outside w = []
handed_at_turn g turns.Windows w = []
handed_at_turn g turns.Inside w = handed_on g.asks w.connection.stage w.boot
handed_at_turn g turns.Program w = []
handed_at_turn g turns.Own w = []
handed_at_turn g turns.Output w = []
handed_at_turn g turns.Item w = []
handed_at_turn g (turns.Ended end) w = []

-- The writes that a step of a connection hands to the keeper.
unfoldable pub handed_at_step : {P L : Type 0} → Givens P L → World P L → List RowWrite
handed_at_step g w = handed_at_turn g (turn w.connection) w

-- The events are these, or one more.
abbrev pub AddsOneAtMost : List Event → List Event → Type 0
AddsOneAtMost old new = (new ≡ old) ⊎ ((event : Event) × (new ≡ old ++ event ∷ []))

-- Whether a connection owes bytes: the response of the request that is open has not left, or its last response has not.
abbrev pub owes : {P : Type 0} → Stage P → Bool
owes Resting = false
owes (Serving v call) = not (has_left v.work)
owes (Refusing why bytes) = true
owes (Over end) = false

-- how many requests are open
abbrev pub requests_open : {P : Type 0} → Stage P → ℕ
requests_open Resting = 0
requests_open (Serving v call) = 1
requests_open (Refusing why bytes) = 0
requests_open (Over end) = 0
