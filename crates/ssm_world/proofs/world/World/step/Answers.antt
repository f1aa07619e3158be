use Rattle.ssm_world.proofs.Making.{either_made}
use Rattle.ssm_world.proofs.world.World.step.Goals as goal

pub invariant_of-self : goal.invariant_of-self
invariant_of-self c = either_made c.step.result c.self.inside.state c.step.new.self c.args.event.now c.self.invariant c.step.ensures.ok c.step.ensures.err

pub returns-clause-made : goal.returns-clause-made
returns-clause-made c = either_made c.step.result c.self.inside.state c.step.new.self c.args.event.now c.self.invariant c.step.ensures.ok c.step.ensures.err
