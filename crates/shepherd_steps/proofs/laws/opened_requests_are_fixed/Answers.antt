use Rattle.shepherd_steps.proofs.OpeningSteps.{open-fixed}
use Rattle.shepherd_steps.proofs.laws.opened_requests_are_fixed.Goals as goal

pub returns : goal.returns
returns g c = λ made maker worker old new just opened. open-fixed g.M.ProgramMaker.makes maker made worker old new just opened
