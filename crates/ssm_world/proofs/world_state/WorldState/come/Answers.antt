use Rattle.std.proofs.Common.{rules}
use Rattle.ssm_world.proofs.world_state.WorldState.come.Goals as goal

pub returns-in_ok-tell-in-Some-clause-ok : goal.returns-in_ok-tell-in-Some-clause-ok
returns-in_ok-tell-in-Some-clause-ok c = search rules
