use Rattle.shepherd_steps.proofs.AloneEnds.{gone-alone-ends, stands-called}
use Rattle.shepherd_steps.proofs.laws.going_alone_ends.Goals as goal

pub returns-clause-rests : goal.returns-clause-rests
returns-clause-rests g c = λ m s has. gone-alone-ends m s has

pub returns-clause-standing : goal.returns-clause-standing
returns-clause-standing g c = λ fed heads written items s stands. stands-called fed heads written items s stands
