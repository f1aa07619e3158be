-- What a call does at a turn of its connection.
use Rattle.std.specs.Prelude.{Bool, true, false, if◌then◌else◌}
use Rattle.shepherd.specs.declared.shepherd.EndKind.{EndKind}
use Rattle.shepherd.specs.declared.shepherd.EndKind.TheVariants as ends
use Rattle.shepherd.specs.declared.shepherd.ShepherdTurn.{ShepherdTurn}
use Rattle.shepherd.specs.declared.shepherd.ShepherdTurn.TheVariants as turns
use Rattle.shepherd.specs.declared.shepherd.Stage.{Stage}
use Rattle.shepherd.specs.declared.shepherd.Stage.TheVariants as stages
use Rattle.connection_server.specs.declared.served.ServedEnd.{ServedEnd}
use Rattle.connection_server.specs.declared.served.ServedEnd.TheVariants.{Closed, Cut, Refused, Stopped, OutOfMemory}

-- whether the container is to be held next
abbrev pub is_inside : ShepherdTurn → Bool
is_inside turns.Bytes = false
is_inside turns.Request = false
is_inside turns.Outside = false
is_inside turns.Windows = false
is_inside turns.Inside = true
is_inside turns.Program = false
is_inside turns.Own = false
is_inside turns.Output = false
is_inside turns.Item = false
is_inside (turns.Ended end) = false

-- whether the container was found stopped for the request that is open, by what was known before and what a step found:
-- the request heeds it once it has left the container
abbrev pub heeded : ShepherdTurn → Bool → Bool → Bool
heeded turn before found = if is_inside turn then before else found

-- how a call ended whose connection ended so
abbrev pub ended_so : EndKind → ServedEnd
ended_so ends.Closed = Closed
ended_so ends.Cut = Cut
ended_so (ends.Refused why) = Refused why
ended_so ends.OutOfMemory = OutOfMemory

-- how a call ends behind an item of a request that found the container stopped, by the stage of its connection
abbrev pub stopped_so : {P : Type 0} → Stage P → ServedEnd
stopped_so stages.Resting = Stopped
stopped_so (stages.Serving v call) = Stopped
stopped_so (stages.Refusing why bytes) = Stopped
stopped_so (stages.Over end) = ended_so end
