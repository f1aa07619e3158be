use Rattle.shepherd_steps.proofs.OpeningSteps.{output-fixed}
use Rattle.shepherd_steps.proofs.laws.what_is_put_out_is_fixed.Goals as goal

pub returns : goal.returns
returns g c = λ bytes old new puts. output-fixed old bytes new puts
