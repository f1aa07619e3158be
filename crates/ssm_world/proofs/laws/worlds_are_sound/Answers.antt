use Rattle.ssm_world.proofs.Steps.{world_is_sound, world_replies}
use Rattle.ssm_world.proofs.laws.worlds_are_sound.Goals as goal

pub returns-clause-sound : goal.returns-clause-sound
returns-clause-sound c = world_is_sound

pub returns-clause-replies : goal.returns-clause-replies
returns-clause-replies c = world_replies
