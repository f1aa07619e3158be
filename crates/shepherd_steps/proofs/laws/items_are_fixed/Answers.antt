use Rattle.shepherd_steps.proofs.OpeningSteps.{item-fixed}
use Rattle.shepherd_steps.proofs.laws.items_are_fixed.Goals as goal

pub returns : goal.returns
returns g c = λ i s stage takes. item-fixed s i stage takes
