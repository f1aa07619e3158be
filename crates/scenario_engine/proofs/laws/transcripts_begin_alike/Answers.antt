use Rattle.scenario_engine.proofs.Beginning.{turns_begin}
use Rattle.scenario_engine.proofs.laws.transcripts_begin_alike.Goals as goal

pub returns : goal.returns
returns c = turns_begin c.replies_matter_where_handed.ensures
