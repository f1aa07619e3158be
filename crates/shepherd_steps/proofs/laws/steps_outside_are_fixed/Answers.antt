use Rattle.shepherd_steps.proofs.OutsideSteps.{outside-fixed}
use Rattle.shepherd_steps.proofs.laws.steps_outside_are_fixed.Goals as goal

pub returns : goal.returns
returns g c = λ replies old new link after answers visits.
    outside-fixed g.L.Link.makes g.L.Link.tally replies old link new after answers visits
