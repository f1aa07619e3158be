use Rattle.scenario_engine.proofs.StepsMade.{made-push, turn_made}
use Rattle.scenario_engine.proofs.connections.steps_made_are_those_of_lines.Goals as goal

pub returns-clause-line : goal.returns-clause-line
returns-clause-line c = turn_made

pub returns-clause-turns : goal.returns-clause-turns
returns-clause-turns c = made-push
