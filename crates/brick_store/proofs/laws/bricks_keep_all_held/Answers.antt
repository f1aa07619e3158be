use Rattle.brick_store.proofs.Standing.{stands_for_all}
use Rattle.brick_store.proofs.laws.bricks_keep_all_held.Goals as goal

pub returns : goal.returns
returns c = stands_for_all
