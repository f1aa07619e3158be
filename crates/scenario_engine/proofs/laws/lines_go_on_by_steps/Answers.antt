use Rattle.scenario_engine.proofs.UnderWay.{calls_more, next_whole}
use Rattle.scenario_engine.proofs.laws.lines_go_on_by_steps.Goals as goal

pub returns-clause-calls : goal.returns-clause-calls
returns-clause-calls c = calls_more

pub returns-clause-whole : goal.returns-clause-whole
returns-clause-whole c = next_whole
