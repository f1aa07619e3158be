use Rattle.ssm_world.specs.Worlds.{new_world, after}
use Rattle.ssm_world.proofs.Steps.{worlds_grow, worlds_reply}
use Rattle.ssm_world.proofs.Tracing.{calls_hear}
use Rattle.ssm_world.proofs.laws.worlds_only_grow.Goals as goal

pub returns-clause-grows : goal.returns-clause-grows
returns-clause-grows c = worlds_grow

pub returns-clause-calls : goal.returns-clause-calls
returns-clause-calls c = λ bricks earlier later place call there. calls_hear (after (new_world bricks) earlier) place call later there

pub returns-clause-replies : goal.returns-clause-replies
returns-clause-replies c = worlds_reply
