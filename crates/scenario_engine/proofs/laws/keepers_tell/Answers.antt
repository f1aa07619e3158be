use Rattle.scenario_engine.proofs.Telling.{turns_tell}
use Rattle.scenario_engine.proofs.laws.keepers_tell.Goals as goal

pub returns : goal.returns
returns c = λ turns old new told. turns_tell turns old new (c.boots_are_sound.ensures.boots turns) told
