use Rattle.shepherd_steps.proofs.InsideSteps.{inside-fixed, inside-so}
use Rattle.shepherd_steps.proofs.Keepers.{keeper-told}
use Rattle.shepherd_steps.proofs.laws.steps_inside_are_fixed.Goals as goal

pub returns-clause-told : goal.returns-clause-told
returns-clause-told g c = λ old new container after visits. inside-fixed g.P.Program.asks old new container after visits

pub returns-clause-replied : goal.returns-clause-replied
returns-clause-replied g c = λ keeps old new container after replies visits.
    inside-so g.P.Program.asks keeps old new container after replies visits

pub returns-clause-keeper : goal.returns-clause-keeper
returns-clause-keeper g c = λ keeps old new container after replies visits.
    keeper-told g.P.Program.asks keeps old new container after replies visits
