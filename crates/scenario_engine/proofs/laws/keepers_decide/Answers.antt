use Rattle.scenario_engine.proofs.Deciding.{turns_decide}
use Rattle.scenario_engine.proofs.laws.keepers_decide.Goals as goal

pub returns : goal.returns
returns c = turns_decide c.replies_matter_where_handed.ensures
