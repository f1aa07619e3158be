use Rattle.session_way.proofs.Begun.{step_says}
use Rattle.session_way.proofs.session_read.SessionRead.step.Goals as goal

pub invariant_of-self : goal.invariant_of-self
invariant_of-self g c =
    step_says c.read_step.result _ _ c.self.inside.ask c.self.inside.moment c.self.inside.nonce c.self.inside.cookie c.self.inside.call _ c.read_step.new.call _
    c.self.invariant c.read_step.ensures.step c.read_step.ensures.same
