use Rattle.std.proofs.Common.{rules}
use Rattle.ssm_world.proofs.world_state.WorldState.read.Goals as goal

pub returns-in_err-copy-clause-memory : goal.returns-in_err-copy-clause-memory
returns-in_err-copy-clause-memory c = search rules

pub returns-in_err-call-clause-memory : goal.returns-in_err-call-clause-memory
returns-in_err-call-clause-memory c = search rules

pub returns-in_err-push-clause-memory : goal.returns-in_err-push-clause-memory
returns-in_err-push-clause-memory c = search rules

pub returns-clause-ok : goal.returns-clause-ok
returns-clause-ok c = search rules
