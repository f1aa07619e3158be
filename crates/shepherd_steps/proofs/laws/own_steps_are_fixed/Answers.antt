use Rattle.shepherd_steps.proofs.OwnSteps.{own-fixed}
use Rattle.shepherd_steps.proofs.laws.own_steps_are_fixed.Goals as goal

pub returns : goal.returns
returns g c = λ key old new advances. own-fixed key old new advances
