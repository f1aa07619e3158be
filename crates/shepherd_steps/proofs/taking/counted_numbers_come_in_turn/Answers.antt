use Rattle.shepherd_steps.proofs.TakingSteps.{counted-so}
use Rattle.shepherd_steps.proofs.taking.counted_numbers_come_in_turn.Goals as goal

pub returns : goal.returns
returns c = counted-so
