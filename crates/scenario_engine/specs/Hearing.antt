-- What is told of the steps that connections make in the turns of a scenario.
use Rattle.std.specs.Prelude.{All, List}
use Rattle.seat_lines.specs.Making.{StepHearsSpelled, WasMade}
use Rattle.scenario_engine.specs.Connections.{made_from}
use Rattle.scenario_engine.specs.State.{State}
use Rattle.scenario_engine.specs.Transcript.{Turn}

-- What connections hear in turns from here on is spelled by its bytes, in each step that they make.
abbrev pub AllHeardSpelled : State → List Turn → Type 0
AllHeardSpelled s turns = All StepHearsSpelled (made_from s turns)

-- Each step that connections make in turns from here on was made by its calls.
abbrev pub AllMade : State → List Turn → Type 0
AllMade s turns = All WasMade (made_from s turns)
