use Rattle.action_fields.proofs.ReadExactly.{read_exactly}
use Rattle.action_fields.proofs.laws.actions_are_read_exactly.Goals as goal

pub returns : goal.returns
returns c = read_exactly
