use Rattle.scenario_engine.proofs.Unkept.{numbers_alone}
use Rattle.scenario_engine.proofs.laws.no_commit_is_kept_partly.Goals as goal

pub returns : goal.returns
returns c = numbers_alone
