use Rattle.naming_table.proofs.Stepping.{generation-after_steps, generation-first, down-after_steps, up-after_steps, untouched-after_steps, bound-after_steps}
use Rattle.naming_table.proofs.laws.last_step_counts.Goals as goal

pub returns-clause-generation : goal.returns-clause-generation
returns-clause-generation c = generation-after_steps

pub returns-clause-down : goal.returns-clause-down
returns-clause-down c = down-after_steps

pub returns-clause-up : goal.returns-clause-up
returns-clause-up c = up-after_steps

pub returns-clause-untouched : goal.returns-clause-untouched
returns-clause-untouched c = untouched-after_steps

pub returns-clause-bound : goal.returns-clause-bound
returns-clause-bound c = bound-after_steps

pub returns-clause-first : goal.returns-clause-first
returns-clause-first c = generation-first
