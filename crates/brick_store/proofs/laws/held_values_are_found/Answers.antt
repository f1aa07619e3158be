use Rattle.brick_store.proofs.Standing.{all_found, all_ordered}
use Rattle.brick_store.proofs.laws.held_values_are_found.Goals as goal

pub returns-clause-found : goal.returns-clause-found
returns-clause-found c = all_found

pub returns-clause-ordered : goal.returns-clause-ordered
returns-clause-ordered c = all_ordered
