use Rattle.memory_site.proofs.Together.{all_still}
use Rattle.memory_site.proofs.memory_site.MemorySite.commit_call.Goals as goal

pub invariant_of-self : goal.invariant_of-self
invariant_of-self c =
    all_still c.self.inside.around.container c.commit_call.new.container c.self.inside.shepherds.items
    (λ s goes. record { goes_on = c.connections_go_on.ensures.meanwhile c.self.inside.around.container c.commit_call.new.container s c.commit_call.ensures.grown goes.goes_on }) c.self.invariant
