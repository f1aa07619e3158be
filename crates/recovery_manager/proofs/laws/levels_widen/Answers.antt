use Rattle.recovery_manager.proofs.Widening.{first_level, wider_level}
use Rattle.recovery_manager.proofs.laws.levels_widen.Goals as goal

pub returns-clause-first : goal.returns-clause-first
returns-clause-first c = first_level

pub returns-clause-wider : goal.returns-clause-wider
returns-clause-wider c = wider_level
