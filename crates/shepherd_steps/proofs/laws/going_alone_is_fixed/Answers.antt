use Rattle.shepherd_steps.proofs.GoingAlone.{gone-alone-fixed}
use Rattle.shepherd_steps.proofs.laws.going_alone_is_fixed.Goals as goal

pub returns : goal.returns
returns g c = λ m maker through old new items just through_all. gone-alone-fixed g.M.ProgramMaker.makes maker m just through old new items through_all
