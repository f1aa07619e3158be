use Rattle.brick_store.proofs.Standing.{stands_answered, stands_swept}
use Rattle.brick_store.proofs.laws.bricks_stand_for_their_history.Goals as goal

pub returns-clause-answered : goal.returns-clause-answered
returns-clause-answered c = stands_answered

pub returns-clause-swept : goal.returns-clause-swept
returns-clause-swept c = stands_swept
