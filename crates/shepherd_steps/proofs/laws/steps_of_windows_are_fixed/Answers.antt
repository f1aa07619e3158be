use Rattle.shepherd_steps.proofs.WindowSteps.{windows-fixed}
use Rattle.shepherd_steps.proofs.laws.steps_of_windows_are_fixed.Goals as goal

pub returns : goal.returns
returns g c = λ old new windows after visits. windows-fixed old windows new after visits
