use Rattle.session_steps.proofs.Between.{lent_leaves, lent_new}
use Rattle.session_steps.proofs.laws.lent_steps_leave_others.Goals as goal

pub returns-clause-nonces : goal.returns-clause-nonces
returns-clause-nonces c = lent_new

pub returns-clause-calls : goal.returns-clause-calls
returns-clause-calls c = lent_leaves
