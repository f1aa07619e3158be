use Rattle.container_core.proofs.Loadable.{good_is, first_is_bad}
use Rattle.container_core.proofs.laws.good_rows_are_apart.Goals as goal

pub returns-clause-good : goal.returns-clause-good
returns-clause-good c = good_is

pub returns-clause-first : goal.returns-clause-first
returns-clause-first c = first_is_bad
