-- Whose step is next for a connection.
use Rattle.std.specs.Prelude.{ℕ, ◌==◌, Bool, true, false, if◌then◌else◌, List, [], length, Option, None}
use Rattle.crash_base.specs.declared.numbers.ComponentNo.{ComponentNo}
use Rattle.http_wire.specs.Taking.{settles, taken_of}
use Rattle.request_visit.specs.Visits.{last_entered as work_entered, turn as visit_turn}
use Rattle.request_visit.specs.declared.visit.Turn.{Turn}
use Rattle.request_visit.specs.declared.visit.Turn.TheVariants as visit
use Rattle.shepherd.specs.declared.shepherd.EndKind.TheVariants.{Closed, Cut, OutOfMemory}
use Rattle.shepherd.specs.declared.shepherd.Shepherd.{Shepherd}
use Rattle.shepherd.specs.declared.shepherd.ShepherdTurn.{ShepherdTurn}
use Rattle.shepherd.specs.declared.shepherd.ShepherdTurn.TheVariants as turns
use Rattle.shepherd.specs.declared.shepherd.Stage.{Stage}
use Rattle.shepherd.specs.declared.shepherd.Stage.TheVariants.{Resting, Serving, Refusing, Over}

-- a connection of which nothing came yet
abbrev pub fresh : {P : Type 0} → Shepherd P
fresh = record { received = []; ended = false; front = record { 0 = 0 }; stage = Resting; wants_memory = false }

-- Whose step is next where no request is open: one is taken as soon as the bytes settle what they begin with.
abbrev pub resting_turn : List ℕ → Bool → ShepherdTurn
resting_turn received ended =
    if settles (taken_of received) then turns.Request
    else (if ended then (if length received == 0 then turns.Ended Closed else turns.Ended Cut) else turns.Bytes)

-- whose step is next, by whose is next for the request that is open
abbrev pub turn_by : Turn → ShepherdTurn
turn_by visit.Outside = turns.Outside
turn_by visit.Windows = turns.Windows
turn_by visit.Inside = turns.Inside
turn_by visit.Program = turns.Program
turn_by visit.Own = turns.Own
turn_by visit.Output = turns.Output
turn_by visit.Over = turns.Item

-- whose step is next, by how far the connection has come
abbrev pub stage_turn : {P : Type 0} → Stage P → List ℕ → Bool → ShepherdTurn
stage_turn Resting received ended = resting_turn received ended
stage_turn (Serving v call) received ended = turn_by (visit_turn v)
stage_turn (Refusing why bytes) received ended = turns.Output
stage_turn (Over end) received ended = turns.Ended end

-- Whose step is next.
abbrev pub turn : {P : Type 0} → Shepherd P → ShepherdTurn
turn s = if s.wants_memory then turns.Ended OutOfMemory else stage_turn s.stage s.received s.ended

-- the component that the last step of the open request entered, if one is open and that step entered one
abbrev pub last_entered : {P : Type 0} → Stage P → Option ComponentNo
last_entered Resting = None
last_entered (Serving v call) = work_entered v.work
last_entered (Refusing why bytes) = None
last_entered (Over end) = None

-- whether nothing is left to be done for a request
abbrev pub is_over : Turn → Bool
is_over visit.Over = true
is_over visit.Outside = false
is_over visit.Windows = false
is_over visit.Inside = false
is_over visit.Program = false
is_over visit.Own = false
is_over visit.Output = false

-- Whether the item of the request that is open can be taken.
abbrev pub has_item : {P : Type 0} → Stage P → Bool
has_item Resting = false
has_item (Serving v call) = is_over (visit_turn v)
has_item (Refusing why bytes) = false
has_item (Over end) = false
