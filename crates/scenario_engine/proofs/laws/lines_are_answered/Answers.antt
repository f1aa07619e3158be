use Rattle.scenario_engine.proofs.UnderWay.{turn_waits}
use Rattle.scenario_engine.proofs.laws.lines_are_answered.Goals as goal

pub returns : goal.returns
returns c = turn_waits
